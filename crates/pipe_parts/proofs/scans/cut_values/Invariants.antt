use Rattle.std.proofs.Common.{◌≡◌, map, take}
use Rattle.pipe_plan.specs.Plan.{plan_of}
use Rattle.pipe_value.specs.View.{view}
use Rattle.pipe_parts.specs.PartsLines.{scan_spelling}
use Rattle.pipe_parts.proofs.scans.cut_values.Given as goal

abbrev pub invariant-loop-one : goal.invariant-loop-one
invariant-loop-one l = map view l.values.items ≡ map (scan_spelling (plan_of l.plan.arena)) (take l.one-index l.cuts)
