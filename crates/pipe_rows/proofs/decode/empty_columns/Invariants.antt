use Rattle.std.proofs.Common.{◌≡◌, take, map}
use Rattle.pipe_rows.specs.Decoding.{empty_column}
use Rattle.pipe_rows.proofs.decode.empty_columns.Given as goal

abbrev pub invariant-loop-dtype : goal.invariant-loop-dtype
invariant-loop-dtype l = l.columns.items ≡ map empty_column (take l.dtype-index l.dtypes)
