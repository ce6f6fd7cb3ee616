use Rattle.std.proofs.Common.{◌≡◌, map, take}
use Rattle.pipe_plan.specs.Node.{node_of}
use Rattle.pipe_world.specs.Staged.{scan_of}
use Rattle.pipe_world.proofs.plan_tables.all_scans.Given as goal

abbrev pub invariant-loop-node : goal.invariant-loop-node
invariant-loop-node l = l.scans ≡ map (scan_of l.frames) (map node_of (take l.node-index l.nodes))
