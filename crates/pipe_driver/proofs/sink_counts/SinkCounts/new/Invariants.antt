use Rattle.std.proofs.Common.{◌≡◌, ℕ, length}
use Rattle.pipe_driver.specs.Tables.{number_at}
use Rattle.pipe_driver.proofs.sink_counts.SinkCounts.new.Given as goal

abbrev pub invariant-loop : goal.invariant-loop
invariant-loop l = record {
  long : length l.left.items ≡ l.counter;
  none : (k : ℕ) → number_at l.left.items k ≡ 0;
}
