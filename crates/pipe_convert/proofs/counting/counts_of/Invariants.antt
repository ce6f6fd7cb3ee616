use Rattle.std.proofs.Common.{◌≡◌, ℕ, ◌+◌, length, drop}
use Rattle.pipe_driver.specs.Tables.{number_at}
use Rattle.pipe_convert.specs.Counts.{numbered, bound, gone_through}
use Rattle.pipe_convert.proofs.counting.counts_of.Given as goal

abbrev pub invariant-loop-branch : goal.invariant-loop-branch
invariant-loop-branch l =
    let rest = drop l.branch-index l.branches in
    record {
      length : bound (length l.counts.sinks.left.items) rest ≡ bound 0 l.branches;
      sinks : (k : ℕ) → number_at l.counts.sinks.left.items k + numbered k rest ≡ numbered k l.branches;
      probers : (n : ℕ) → number_at l.counts.probers.left.items n + gone_through n rest ≡ gone_through n l.branches;
    }
