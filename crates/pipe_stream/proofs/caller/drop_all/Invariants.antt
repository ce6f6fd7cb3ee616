use Rattle.crossbeam_queue.specs.Passes.{view, IsPassOf}
use Rattle.pipe_stream.specs.Hands.{MayTake}
use Rattle.pipe_stream.proofs.caller.drop_all.Given as goal

abbrev pub invariant-loop : goal.invariant-loop
invariant-loop g l = IsPassOf l.line l.seat × MayTake (view l.seat)
