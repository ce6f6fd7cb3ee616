use Rattle.std.proofs.Common.{◌≡◌, [], replicate}
use Rattle.pipe_world.proofs.positions.no_positions.Given as goal

abbrev pub invariant-loop : goal.invariant-loop
invariant-loop l = l.positions.items ≡ replicate l.counter []
