use Rattle.hex.specs.Hex.{IsBytes}
use Rattle.pipe_value.specs.Items.{elements}
use Rattle.pipe_value.specs.View.{view}
use Rattle.pipe_job.specs.Shape.{is_maybe, is_hex}
use Rattle.pipe_job.specs.Spelling.{maybe, MaybeFits, hex_spelling}
use Rattle.pipe_job.proofs.SoFar.{SoFar}
use Rattle.pipe_job.proofs.columns.bytes_of.Given as goal

abbrev pub invariant-loop-i : goal.invariant-loop-i
invariant-loop-i l = SoFar (maybe hex_spelling) (MaybeFits IsBytes) (is_maybe is_hex) (elements (view l.value)) l.i l.column
