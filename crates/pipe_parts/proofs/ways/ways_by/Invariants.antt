use Rattle.std.proofs.Common.{◌≡◌, map, take}
use Rattle.pipe_parts.specs.Sides.{sides_in}
use Rattle.pipe_parts.proofs.ways.ways_by.Given as goal

abbrev pub invariant-loop-sides : goal.invariant-loop-sides
invariant-loop-sides l = l.ways ≡ map sides_in (take l.sides-index l.all)
