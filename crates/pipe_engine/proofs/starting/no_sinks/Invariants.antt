use Rattle.std.proofs.Common.{◌≡◌, ℕ, length, None}
use Rattle.pipe_engine.specs.Engine.{sink_at}
use Rattle.pipe_engine.proofs.starting.no_sinks.Given as goal

abbrev pub invariant-loop-node : goal.invariant-loop-node
invariant-loop-node g l = record {
  long : length l.sinks.items ≡ l._node;
  empty : (k : ℕ) → sink_at l.sinks.items k ≡ None;
}
