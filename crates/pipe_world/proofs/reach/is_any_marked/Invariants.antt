use Rattle.std.proofs.Common.{◌≡◌, false, drop}
use Rattle.std.specs.List.{list_any}
use Rattle.pipe_plain.specs.Tables.{at_place}
use Rattle.pipe_world.proofs.reach.is_any_marked.Given as goal

abbrev pub invariant-loop-n : goal.invariant-loop-n
invariant-loop-n l = list_any (at_place false l.marks) (drop l.n-index l.nodes) ≡ list_any (at_place false l.marks) l.nodes
