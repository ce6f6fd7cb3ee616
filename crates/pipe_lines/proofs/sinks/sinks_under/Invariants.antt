use Rattle.std.proofs.Common.{◌≡◌, ℕ, ◌<◌, length, None, get_or}
use Rattle.pipe_lines.specs.Made.{IsNodeSink}
use Rattle.pipe_lines.proofs.sinks.sinks_under.Given as goal

abbrev pub invariant-loop-n : goal.invariant-loop-n
invariant-loop-n g l = record {
  sized : length l.sinks.items ≡ l.n;
  each : (k : ℕ) → k < l.n → IsNodeSink l.plan l.specs l.hasher l.parts k (get_or l.sinks.items k None);
}
