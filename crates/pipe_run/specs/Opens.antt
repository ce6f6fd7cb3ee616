-- Lanes at their start.
use Rattle.std.specs.Prelude.{◌≡◌, ℕ, List, [], ◌∷◌}
use Rattle.pipe_schema.specs.declared.field.Field.{Field}
use Rattle.pipe_ops.specs.declared.sink.Sink.{Ghosts as SinkWords}
use Rattle.pipe_chain.specs.Flow.{no_acts}
use Rattle.pipe_chain.specs.Chain.{AllSeated}
use Rattle.pipe_chain.specs.declared.operator.Operator.{Ghosts as OperatorWords}
use Rattle.pipe_run.specs.declared.lane.Lane.{Lane}
use Rattle.pipe_run.specs.declared.stage.SinkStage.{SinkStage}
use Rattle.pipe_run.specs.declared.stage.Stage.{Stage}
use Rattle.pipe_run.specs.Lanes.{lane_operators, IsCalm, IsFit}

-- an operator that was split from another
pub record IsCopy {O S : Type 0} (op : OperatorWords O S) (from made : O) : Type 0 where
  pub takes : (schema : List Field) → op.takes from schema → op.takes made schema
  pub output : op.output made ≡ op.output from
  pub work : op.work made ≡ op.work from
  pub suits : (s : S) → op.suits from s → op.suits made s
  pub closed : (s : S) → op.closed from s → op.closed made s
  pub acts : op.acts made ≡ no_acts
  pub idle : op.idle made

-- a stage that was split from another, and was given no row
pub record IsStageOf {O S : Type 0} (op : OperatorWords O S) (from made : Stage O) : Type 0 where
  pub operator : IsCopy op from.operator made.operator
  pub node : made.node ≡ from.node
  pub given : made.given ≡ 0

-- stages that were split from others, one by one
abbrev pub AreSplit : {O S : Type 0} → OperatorWords O S → (from made : List (Stage O)) → Type 0
AreSplit op [] [] = Unit {0}
AreSplit op [] (b ∷ made) = ⊥
AreSplit op (a ∷ from) [] = ⊥
AreSplit op (a ∷ from) (b ∷ made) = IsStageOf op a b × AreSplit op from made

-- a sink that was split from another
pub record IsSplit {K B C : Type 0} (sink : SinkWords K B C) (from made : K) : Type 0 where
  pub setting : sink.setting made ≡ sink.setting from
  pub schema : sink.schema made ≡ sink.schema from
  pub gives : sink.gives made ≡ sink.gives from
  pub empty : sink.held made ≡ []

-- a lane that has done nothing, over its own copies of some stages and a sink
pub record IsOpened {O S K B C : Type 0} (op : OperatorWords O S) (sink : SinkWords K B C)
    (stages : List (Stage O)) (target : SinkStage K) (lane : Lane O K) : Type 0 where
  pub split : AreSplit op stages lane.stages.items
  pub own : IsSplit sink target.sink lane.target.sink
  pub node : lane.target.node ≡ target.node
  pub given : lane.target.given ≡ 0
  pub entries : lane.entries.items ≡ []
  pub calm : IsCalm lane

-- a lane is fit as soon as its operators have the seats that they want
abbrev pub IsFitSeated : {O S K B C : Type 0} → OperatorWords O S → SinkWords K B C → List S → ℕ →
    List Field → Lane O K → Type 0
IsFitSeated op sink ss limit from lane =
    AllSeated op (lane_operators lane) ss → IsFit op sink ss limit from lane
