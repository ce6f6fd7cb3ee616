use Rattle.std.proofs.Common.{◌≡◌, take}
use Rattle.std.specs.Prelude.{sum_by}
use Rattle.pipe_column.specs.Sizes.{nullable_length}
use Rattle.pipe_column.proofs.bytes_column.BinaryColumn.total_len.Given as goal

abbrev pub invariant-loop-i : goal.invariant-loop-i
invariant-loop-i l = l.total ≡ sum_by nullable_length (take l.i l.self)
