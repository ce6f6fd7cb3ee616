use Rattle.std.proofs.Common.{◌≡◌, drop}
use Rattle.pipe_plan.specs.Node.{node_of}
use Rattle.pipe_parts.specs.Wishes.{columns_below}
use Rattle.pipe_parts.proofs.Below.{behind}
use Rattle.pipe_parts.proofs.columns.columns_below.Given as goal

abbrev pub invariant-loop-name : goal.invariant-loop-name
invariant-loop-name l = behind l.names (columns_below l.input (node_of l.node) (drop l.name-index l.columns)) ≡ columns_below l.input (node_of l.node) l.columns
