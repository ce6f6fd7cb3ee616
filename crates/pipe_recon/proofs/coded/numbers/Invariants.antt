use Rattle.std.proofs.Common.{◌≡◌, map}
use Rattle.std.specs.List.{range_with_len}
use Rattle.pipe_schema.specs.Cell.{uint32_cell}
use Rattle.pipe_recon.specs.JoinPlan.{number_cell}
use Rattle.pipe_recon.proofs.coded.numbers.Given as goal

abbrev pub invariant-loop-i : goal.invariant-loop-i
invariant-loop-i l = map uint32_cell l.numbers ≡ map number_cell (range_with_len 0 l.i)
