use Rattle.std.proofs.Common.{◌≡◌, length}
use Rattle.pipe_sort.proofs.taking.free_slots.Given as goal

abbrev pub invariant-loop : goal.invariant-loop
invariant-loop l = length l.slots.items ≡ l.counter
