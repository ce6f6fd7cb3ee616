use Rattle.pipe_frame.proofs.Queues.{AreAppended}
use Rattle.pipe_frame.proofs.stacking.append_firsts.Given as goal

abbrev pub invariant-loop-queue : goal.invariant-loop-queue
invariant-loop-queue l = AreAppended l.fn.column l.column l.fn.queues.items l.queue-iterator.rest.items l.left.items
