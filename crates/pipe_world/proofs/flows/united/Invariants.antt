use Rattle.std.proofs.Common.{◌≡◌, [], take}
use Rattle.std.specs.List.{flat_map}
use Rattle.pipe_plain.specs.Tables.{at_place}
use Rattle.pipe_world.proofs.flows.united.Given as goal

abbrev pub invariant-loop-input : goal.invariant-loop-input
invariant-loop-input l = l.made ≡ flat_map (at_place [] l.tables) (take l.input-index l.inputs)
