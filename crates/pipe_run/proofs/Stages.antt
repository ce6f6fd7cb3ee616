-- Stages and their counts.
use Rattle.std.proofs.Common.{◌≡◌, ◌+◌, List, [], ◌∷◌, length, refl, arith}
use Rattle.pipe_schema.specs.declared.field.Field.{Field}
use Rattle.pipe_chain.specs.Chain.{works_of, AllServe}
use Rattle.pipe_chain.specs.declared.operator.Operator.{Ghosts as OperatorWords}
use Rattle.pipe_run.specs.declared.stage.Stage.{Stage}
use Rattle.pipe_run.specs.declared.stage.SinkStage.{SinkStage}
use Rattle.pipe_run.specs.Stages.{operators_of, counts}

pub stages-none : {O : Type 0} (sts : List (Stage O)) → length sts ≡ 0 → sts ≡ []
stages-none [] e = refl
stages-none (st ∷ sts) e = absurd (omega arith)

pub counts-length : {O S K : Type 0} (op : OperatorWords O S) (schema : List Field) (sts : List (Stage O)) (b : SinkStage K) (ss : List S) → AllServe op (operators_of sts) ss → length (counts sts b) ≡ length (works_of op schema (operators_of sts) ss) + 1
counts-length op schema [] b ss h = refl
counts-length op schema (st ∷ sts) b [] h = absurd h
counts-length op schema (st ∷ sts) b (s ∷ ss) h = omega (arith, counts-length op (op.output st.operator schema) sts b ss h.1)
