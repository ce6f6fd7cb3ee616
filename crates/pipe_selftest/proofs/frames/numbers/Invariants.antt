use Rattle.std.proofs.Common.{◌≡◌, map}
use Rattle.std.specs.List.{range_with_len}
use Rattle.pipe_schema.specs.Cell.{int64_cell}
use Rattle.pipe_selftest.specs.Frames.{number_at}
use Rattle.pipe_selftest.proofs.frames.numbers.Given as goal

abbrev pub invariant-loop-i : goal.invariant-loop-i
invariant-loop-i l = map int64_cell l.numbers ≡ map number_at (range_with_len 0 l.i)
