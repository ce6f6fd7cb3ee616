use Rattle.std.proofs.Common.{◌∙◌, [], ap, sym, length}
use Rattle.std.proofs.lemmas.List.{length-map}
use Rattle.pipe_plan.specs.Node.{node_of}
use Rattle.pipe_plan.specs.Plan.{plan_of}
use Rattle.pipe_plan.specs.Schemas.{schema_at, schemas_to}
use Rattle.pipe_plain.specs.Tables.{at_place}
use Rattle.pipe_plain.proofs.Walks.{table-tells}
use Rattle.pipe_plain.proofs.node_schemas.schema.Goals as goal

pub returns : goal.returns
returns c =
    let arena = c.args.arena.now in
    let root = c.args.root in
    let plan = plan_of arena in
    let table_is = c.as_slice.ensures ∙ c.in_ok-schemas.ensures in
    let told = c.in_ok-copied_fields.ensures ∙ c.fields_at.ensures ∙ ap (λ t. at_place [] t root) table_is ∙ table-tells [] (schema_at plan) (length arena.nodes) root in
    told ∙ ap (λ k. schemas_to plan k root) (sym (length-map arena.nodes node_of))
