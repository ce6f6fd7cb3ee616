use Rattle.std.proofs.Common.{◌≡◌, drop}
use Rattle.pipe_why_text.specs.Places.{are_plain}
use Rattle.pipe_why_text.proofs.steps.is_plain.Given as goal

abbrev pub invariant-loop-byte : goal.invariant-loop-byte
invariant-loop-byte l = are_plain (drop l.byte-index l.name) ≡ are_plain l.name
