use Rattle.std.proofs.Common.{◌≡◌, map, take}
use Rattle.pipe_column.specs.Columns.{field_of}
use Rattle.pipe_frame.proofs.columns.fields_of.Given as goal

abbrev pub invariant-loop-column : goal.invariant-loop-column
invariant-loop-column l = l.fields ≡ map field_of (take l.column-index l.columns)
