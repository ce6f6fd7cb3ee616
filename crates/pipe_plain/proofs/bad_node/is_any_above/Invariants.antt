use Rattle.std.proofs.Common.{◌≡◌, drop}
use Rattle.std.specs.Prelude.{nat_le}
use Rattle.std.specs.List.{list_any}
use Rattle.pipe_plain.proofs.bad_node.is_any_above.Given as goal

abbrev pub invariant-loop-i : goal.invariant-loop-i
invariant-loop-i l = list_any (nat_le l.n) (drop l.i-index l.numbers) ≡ list_any (nat_le l.n) l.numbers
