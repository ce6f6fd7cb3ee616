use Rattle.std.proofs.Common.{◌≡◌, drop}
use Rattle.pipe_job.specs.Shape.{are_lower_digits}
use Rattle.pipe_job.proofs.cells.are_lower_digits.Given as goal

abbrev pub invariant-loop-byte : goal.invariant-loop-byte
invariant-loop-byte l = are_lower_digits (drop l.byte-index l.text) ≡ are_lower_digits l.text
