use Rattle.std.proofs.Common.{◌≡◌, drop}
use Rattle.pipe_column.specs.Columns.{other_height}
use Rattle.pipe_frame.proofs.columns.differing_height.Given as goal

abbrev pub invariant-loop-column : goal.invariant-loop-column
invariant-loop-column l = other_height l.height (drop l.column-index l.columns) ≡ other_height l.height l.columns
