use Rattle.std.proofs.Common.{refl, subst, ◌∙◌}
use Rattle.pipe_schema.specs.Schema.{IsSchema}
use Rattle.pipe_plan.specs.Node as node
use Rattle.pipe_convert.proofs.Operators.{input_under, names_kept, names_of_node}
use Rattle.pipe_convert.proofs.simple_projection.simple_projection_operator.Goals as goal

pub schema-requires-2 : goal.schema-requires-2
schema-requires-2 c = input_under c.args.plan.now c.args.n c.args.input (node.SimpleProjection c.args.input c.args.columns.now) refl c.known_well_formed.ensures c.requires

pub new-requires : goal.new-requires
new-requires c =
    let whole = subst IsSchema c.schema.ensures c.fields.ensures.good in
    rw (c.in_ok-input_schema.ensures, c.in_ok-try_clone.ensures, c.schema-2.ensures) (names_kept c.args.plan.now c.args.n c.args.input c.args.columns.now c.known_well_formed.ensures c.requires whole)

pub returns : goal.returns
returns c =
    names_of_node c.args.plan.now c.args.n c.args.input c.args.columns.now c.new.result.columns c.new.result.input_schema c.known_well_formed.ensures c.requires (c.new.ensures.columns ∙ c.in_ok-try_clone.ensures) (c.new.ensures.schema ∙ c.in_ok-input_schema.ensures ∙ c.schema-2.ensures)
