use Rattle.std.proofs.Common.{◌≡◌, ◌≤◌, None, replicate}
use Rattle.pipe_optimize.proofs.all_needed.whole_needs.Given as goal

abbrev pub invariant-loop : goal.invariant-loop
invariant-loop l = record {
  upto : l.counter ≤ l.count;
  whole : l.needs.items ≡ replicate l.counter None;
}
