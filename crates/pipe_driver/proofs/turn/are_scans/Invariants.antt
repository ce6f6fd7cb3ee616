use Rattle.std.proofs.Common.{◌≡◌, map, drop}
use Rattle.std.specs.List.{list_all}
use Rattle.pipe_plan.specs.Node.{node_of}
use Rattle.pipe_driver.specs.Branches.{is_scan_at}
use Rattle.pipe_driver.proofs.turn.are_scans.Given as goal

abbrev pub invariant-loop-n : goal.invariant-loop-n
invariant-loop-n l = list_all (is_scan_at (map node_of l.nodes)) (drop l.n-index l.numbers) ≡ list_all (is_scan_at (map node_of l.nodes)) l.numbers
