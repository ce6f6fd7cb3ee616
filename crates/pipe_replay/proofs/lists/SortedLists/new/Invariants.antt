use Rattle.std.proofs.Common.{◌≡◌, replicate, None}
use Rattle.pipe_replay.proofs.lists.SortedLists.new.Given as goal

abbrev pub invariant-loop : goal.invariant-loop
invariant-loop l = l.lists.items ≡ replicate l.counter None
