use Rattle.std.proofs.Common.{◌≡◌, ◌++◌, map}
use Rattle.pipe_rules.specs.Placements.{placing_of}
use Rattle.pipe_rules.specs.Parted.{parts_of}
use Rattle.pipe_rules.specs.Values.{placed_in}
use Rattle.pipe_rules.proofs.parting.gathered.Given as goal

abbrev pub invariant-loop-placement : goal.invariant-loop-placement
invariant-loop-placement l =
    (placed_in l.parted ≡ parts_of (map placing_of l.yielded))
    × (l.yielded ++ l.placement-iterator.rest.items ≡ l.initial.placement-iterator.rest.items)
