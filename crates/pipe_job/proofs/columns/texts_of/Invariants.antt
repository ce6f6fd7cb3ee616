use Rattle.std.specs.Prelude.{⊤}
use Rattle.serde_json.specs.Data.{string}
use Rattle.pipe_value.specs.Items.{elements}
use Rattle.pipe_value.specs.View.{view}
use Rattle.pipe_job.specs.Shape.{is_maybe, is_text}
use Rattle.pipe_job.specs.Spelling.{maybe}
use Rattle.pipe_job.proofs.SoFar.{SoFar}
use Rattle.pipe_job.proofs.columns.texts_of.Given as goal

abbrev pub invariant-loop-i : goal.invariant-loop-i
invariant-loop-i l = SoFar (maybe string) (λ _. ⊤) (is_maybe is_text) (elements (view l.value)) l.i l.column
