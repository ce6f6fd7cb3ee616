use Rattle.std.proofs.Common.{◌≡◌, drop}
use Rattle.std.specs.Prelude.{◌==◌}
use Rattle.std.specs.List.{list_any}
use Rattle.pipe_plain.proofs.bad_node.is_among.Given as goal

abbrev pub invariant-loop-m : goal.invariant-loop-m
invariant-loop-m l = list_any (λ m. m == l.n) (drop l.m-index l.numbers) ≡ list_any (λ m. m == l.n) l.numbers
