use Rattle.pipe_frame.proofs.Stacks.{Emptied}
use Rattle.pipe_sort.proofs.taking.columns_in.Given as goal

abbrev pub invariant-loop-k : goal.invariant-loop-k
invariant-loop-k l = Emptied l.k l.columns.items l.slots.items l.fn.slots.items
