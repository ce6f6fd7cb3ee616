use Rattle.std.proofs.Common.{◌≡◌, ℕ, ◌<◌, take}
use Rattle.pipe_driver.specs.Ways.{occurs}
use Rattle.pipe_driver.specs.Tables.{number_at}
use Rattle.pipe_driver.proofs.closing.are_closed.Given as goal

abbrev pub invariant-loop-sink : goal.invariant-loop-sink
invariant-loop-sink l = (s : ℕ) → 0 < occurs s (take l.sink-index l.sinks) → number_at l.counts.left.items s ≡ 0
