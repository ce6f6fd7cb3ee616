use Rattle.std.proofs.Common.{◌≡◌, []}
use Rattle.pipe_plain.specs.Tables.{table}
use Rattle.pipe_plan.specs.Plan.{plan_of}
use Rattle.pipe_plan.specs.Schemas.{schema_at}
use Rattle.pipe_plan.specs.PlanRows.{rows_at}
use Rattle.pipe_plain.proofs.node_rows.plan_rows.Given as goal

abbrev pub invariant-loop-node : goal.invariant-loop-node
invariant-loop-node l = record { schemas : l.schemas ≡ table [] (schema_at (plan_of l.arena)) l.node-index; tables : l.tables ≡ table [] (rows_at (plan_of l.arena)) l.node-index }
