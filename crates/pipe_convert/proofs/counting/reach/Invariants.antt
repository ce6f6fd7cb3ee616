use Rattle.std.proofs.Common.{◌≡◌, ℕ, ◌+◌, ◌≤◌, length, max}
use Rattle.pipe_driver.specs.Tables.{number_at}
use Rattle.pipe_convert.proofs.counting.reach.Given as goal

abbrev pub invariant-loop : goal.invariant-loop
invariant-loop l = record {
  stop : l.end ≡ l.number + 1;
  long : length l.counts.left.items ≡ l.counter;
  from : length l.initial.counts.left.items ≤ l.counter;
  upto : l.counter ≤ max (length l.initial.counts.left.items) (l.number + 1);
  same : (k : ℕ) → number_at l.counts.left.items k ≡ number_at l.initial.counts.left.items k;
}
