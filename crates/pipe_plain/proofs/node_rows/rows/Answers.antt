use Rattle.std.proofs.Common.{◌∙◌, [], ap, sym, length}
use Rattle.std.proofs.lemmas.List.{length-map}
use Rattle.pipe_plan.specs.Node.{node_of}
use Rattle.pipe_plan.specs.Plan.{plan_of}
use Rattle.pipe_plan.specs.PlanRows.{rows_at, rows_to}
use Rattle.pipe_plain.specs.Tables.{at_place}
use Rattle.pipe_plain.proofs.Walks.{table-tells}
use Rattle.pipe_plain.proofs.node_rows.rows.Goals as goal

pub returns : goal.returns
returns c =
    let arena = c.args.arena.now in
    let root = c.args.root in
    let plan = plan_of arena in
    let table_is = c.as_slice.ensures ∙ c.in_ok-tables.ensures in
    let told = c.in_ok-copied_rows.ensures ∙ c.rows_below.ensures ∙ ap (λ t. at_place [] t root) table_is ∙ table-tells [] (rows_at plan) (length arena.nodes) root in
    told ∙ ap (λ k. rows_to plan k root) (sym (length-map arena.nodes node_of))
