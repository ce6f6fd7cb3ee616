use Rattle.std.proofs.Common.{subst, sym, ◌∙◌, List}
use Rattle.std.specs.List.{AllByRecursion}
use Rattle.pipe_schema.specs.Schema.{IsSchema}
use Rattle.pipe_schema.specs.declared.field.Field.{Field}
use Rattle.pipe_expr.specs.Formula.{formulas_of}
use Rattle.pipe_table.specs.Spec.{IsMadeFor}
use Rattle.pipe_convert.specs.Keys.{AreKeys}
use Rattle.pipe_convert.proofs.Joined.{left_under, right_under, left_typed, right_typed, settings-made, spec_of}
use Rattle.pipe_convert.proofs.join.join_spec.Goals as goal

pub schema-left_schema-requires : goal.schema-left_schema-requires
schema-left_schema-requires c = left_under c.args.plan.now c.args.n c.args.left c.args.right (formulas_of c.args.left_on.now) (formulas_of c.args.right_on.now) c.args.options.now c.known_well_formed.ensures c.requires

pub schema-right_schema-requires : goal.schema-right_schema-requires
schema-right_schema-requires c = right_under c.args.plan.now c.args.n c.args.left c.args.right (formulas_of c.args.left_on.now) (formulas_of c.args.right_on.now) c.args.options.now c.known_well_formed.ensures c.requires

pub key_exprs-requires : goal.key_exprs-requires
key_exprs-requires c =
    let P : List Field → Type 0 = λ s. AreKeys s (formulas_of c.args.left_on.now) in
    subst P (sym c.schema-left_schema.ensures) (left_typed c.args.plan.now c.args.n c.args.left c.args.right (formulas_of c.args.left_on.now) (formulas_of c.args.right_on.now) c.args.options.now c.known_well_formed.ensures c.requires)

pub key_exprs-requires-2 : goal.key_exprs-requires-2
key_exprs-requires-2 c =
    let P : List Field → Type 0 = λ s. AreKeys s (formulas_of c.args.right_on.now) in
    subst P (sym c.schema-right_schema.ensures) (right_typed c.args.plan.now c.args.n c.args.left c.args.right (formulas_of c.args.left_on.now) (formulas_of c.args.right_on.now) c.args.options.now c.known_well_formed.ensures c.requires)

pub returns-clause-settings : goal.returns-clause-settings
returns-clause-settings c =
    settings-made c.args.plan.now c.args.left c.args.right (formulas_of c.args.left_on.now) (formulas_of c.args.right_on.now) c.args.options.now c.is_coalescing.result c.swap_join_order.result c.in_ok-try_clone.field-0 c.in_ok-try_clone-2.field-0 c.in_ok-try_clone-3.field-0 c.in_ok-key_exprs.field-0 c.in_ok-key_exprs-2.field-0
    c.is_coalescing.ensures c.in_ok-try_clone.ensures (c.in_ok-try_clone-2.ensures ∙ c.schema-left_schema.ensures) (c.in_ok-try_clone-3.ensures ∙ c.schema-right_schema.ensures) c.in_ok-key_exprs.ensures.same c.in_ok-key_exprs-2.ensures.same

pub returns-clause-good : goal.returns-clause-good
returns-clause-good c =
    let plan = c.args.plan.now in
    let options = c.args.options.now in
    let left_on = formulas_of c.args.left_on.now in
    let right_on = formulas_of c.args.right_on.now in
    let same = settings-made plan c.args.left c.args.right left_on right_on options c.is_coalescing.result c.swap_join_order.result c.in_ok-try_clone.field-0 c.in_ok-try_clone-2.field-0 c.in_ok-try_clone-3.field-0 c.in_ok-key_exprs.field-0 c.in_ok-key_exprs-2.field-0
    c.is_coalescing.ensures c.in_ok-try_clone.ensures (c.in_ok-try_clone-2.ensures ∙ c.schema-left_schema.ensures) (c.in_ok-try_clone-3.ensures ∙ c.schema-right_schema.ensures) c.in_ok-key_exprs.ensures.same c.in_ok-key_exprs-2.ensures.same in
    spec_of plan c.args.n c.args.left c.args.right left_on right_on options _ c.known_well_formed.ensures c.requires same c.swap_join_order.ensures
    (subst (λ (s : List Field). AllByRecursion (IsMadeFor s) c.in_ok-key_exprs.field-0) (sym c.in_ok-try_clone-2.ensures) c.in_ok-key_exprs.ensures.made)
    (subst (λ (s : List Field). AllByRecursion (IsMadeFor s) c.in_ok-key_exprs-2.field-0) (sym c.in_ok-try_clone-3.ensures) c.in_ok-key_exprs-2.ensures.made)
    (subst IsSchema c.schema-left_schema.ensures c.fields-2.ensures.good) (subst IsSchema c.schema-right_schema.ensures c.fields-3.ensures.good) (subst IsSchema c.schema.ensures c.fields.ensures.good)
