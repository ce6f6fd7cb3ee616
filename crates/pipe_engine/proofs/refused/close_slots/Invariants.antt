use Rattle.pipe_engine.proofs.Closes.{ClosedTo}
use Rattle.pipe_engine.proofs.refused.close_slots.Given as goal

abbrev pub invariant-loop-node : goal.invariant-loop-node
invariant-loop-node g l = record { closed : ClosedTo l.initial.slots l.slots l.node }
