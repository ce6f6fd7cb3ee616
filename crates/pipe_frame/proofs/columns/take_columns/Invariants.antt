use Rattle.std.proofs.Common.{◌≡◌, map, take}
use Rattle.pipe_column.specs.Columns.{taken_columns}
use Rattle.pipe_frame.proofs.columns.take_columns.Given as goal

abbrev pub invariant-loop-column : goal.invariant-loop-column
invariant-loop-column g l = l.taken.items ≡ taken_columns (map g.P.Place.place l.places) (take l.column-index l.columns)
