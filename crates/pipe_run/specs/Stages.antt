-- Stages: what a lane has of a pipeline, with counts of rows, and why it stopped.
use Rattle.std.specs.Prelude.{◌≡◌, ℕ, List, [], ◌∷◌, length}
use Rattle.pipe_schema.specs.Rows.{Row}
use Rattle.pipe_schema.specs.declared.field.Field.{Field}
use Rattle.pipe_chain.specs.Flow.{Work, Acts}
use Rattle.pipe_chain.specs.Counts.{plus, Over, Broke}
use Rattle.pipe_chain.specs.declared.operator.Operator.{Ghosts as OperatorWords}
use Rattle.pipe_run.specs.declared.stage.LaneFault.{LaneFault}
use Rattle.pipe_run.specs.declared.stage.LaneFault.TheVariants.{TooMany, Memory}
use Rattle.pipe_run.specs.declared.stage.Stage.{Stage}
use Rattle.pipe_run.specs.declared.stage.SinkStage.{SinkStage}

abbrev pub operators_of : {O : Type 0} → List (Stage O) → List O
operators_of [] = []
operators_of (st ∷ sts) = st.operator ∷ operators_of sts

-- the nodes whose rows are counted, in order
abbrev pub nodes_of : {O K : Type 0} → List (Stage O) → SinkStage K → List ℕ
nodes_of [] b = b.node ∷ []
nodes_of (st ∷ sts) b = st.node ∷ nodes_of sts b

-- how many rows of each were given
abbrev pub counts : {O K : Type 0} → List (Stage O) → SinkStage K → List ℕ
counts [] b = b.given ∷ []
counts (st ∷ sts) b = st.given ∷ counts sts b

-- a refusal for want of memory, or for a count that is past the limit
abbrev pub Tells : ℕ → (counts nodes : List ℕ) → LaneFault → Type 0
Tells limit ns nodes (TooMany node) = Over limit ns nodes node
Tells limit ns nodes Memory = Unit {0}

-- rows went a part of their way, and on it something was refused
pub record IsOver (limit : ℕ) (ws : List Work) (old new : List Acts) (before nodes : List ℕ)
    (rows : List Row) (r : LaneFault) : Type 0 where
  pub tally : List ℕ
  pub broke : Broke ws old new tally rows
  pub told : Tells limit (plus before tally) nodes r

-- the same where all of them came into the first operator, whose count isn't among those
pub record IsOverAbove (limit : ℕ) (ws : List Work) (old new : List Acts) (before nodes : List ℕ)
    (rows : List Row) (r : LaneFault) : Type 0 where
  pub tally : List ℕ
  pub broke : Broke ws old new (length rows ∷ tally) rows
  pub told : Tells limit (plus before tally) nodes r

-- an operator gave something of a flush
pub record Flushed {O S : Type 0} (op : OperatorWords O S) (s : S) (a b : O) : Type 0 where
  pub takes : (schema : List Field) → op.takes a schema → op.takes b schema
  pub output : op.output b ≡ op.output a
  pub flushed : op.flushed b ≡ op.flushed a
  pub work : op.work b ≡ op.work a
  pub acts : op.acts b ≡ op.acts a
  pub suits : (z : S) → op.suits a z → op.suits b z
  pub seated : (z : S) → op.seated a z → op.seated b z
  pub closed : op.closed b s
