use Rattle.std.proofs.Common.{◌≡◌, map, take}
use Rattle.pipe_schema.specs.NameOrder.{place_in_pair}
use Rattle.pipe_schema.proofs.name_order.places.Given as goal

abbrev pub invariant-loop-pair : goal.invariant-loop-pair
invariant-loop-pair l = l.places.items ≡ map place_in_pair (take l.pair-index l.pairs)
