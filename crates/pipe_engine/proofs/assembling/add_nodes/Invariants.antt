use Rattle.std.proofs.Common.{◌≡◌, ℕ, ◌+◌, drop}
use Rattle.pipe_driver.specs.Ways.{occurs}
use Rattle.pipe_driver.specs.Tables.{number_at}
use Rattle.pipe_engine.proofs.assembling.add_nodes.Given as goal

abbrev pub invariant-loop-node : goal.invariant-loop-node
invariant-loop-node l = (k : ℕ) → number_at l.probers.left.items k + occurs k (drop l.node-index l.nodes) ≡ number_at l.initial.probers.left.items k + occurs k l.nodes
