use Rattle.std.proofs.Common.{◌≡◌, ℕ, ◌+◌, length, drop}
use Rattle.pipe_driver.specs.Tables.{number_at}
use Rattle.pipe_convert.specs.Counts.{sinks_numbered, bound_of, sinks_behind}
use Rattle.pipe_convert.proofs.counting.add_legs.Given as goal

abbrev pub invariant-loop-sink : goal.invariant-loop-sink
invariant-loop-sink l =
    let rest = drop l.sink-index l.sinks in
    record {
      length : bound_of (length l.counts.sinks.left.items) rest ≡ bound_of (length l.initial.counts.sinks.left.items) l.sinks;
      sinks : (k : ℕ) → number_at l.counts.sinks.left.items k + sinks_numbered k rest ≡ number_at l.initial.counts.sinks.left.items k + sinks_numbered k l.sinks;
      probers : (n : ℕ) → number_at l.counts.probers.left.items n + sinks_behind n l.operators l.first rest ≡ number_at l.initial.counts.probers.left.items n + sinks_behind n l.operators 0 l.sinks;
    }
