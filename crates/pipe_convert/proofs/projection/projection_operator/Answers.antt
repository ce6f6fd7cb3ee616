use Rattle.std.proofs.Common.{refl, subst, List}
use Rattle.pipe_expr.specs.Formula.{named_formula_of, named_formulas_of}
use Rattle.pipe_schema.specs.Schema.{IsSchema}
use Rattle.pipe_schema.specs.declared.field.Field.{Field}
use Rattle.pipe_plan.specs.Node as node
use Rattle.pipe_convert.specs.Converted.{AreMadeFor}
use Rattle.pipe_convert.proofs.Operators.{input_under, exprs_typed, projection_of}
use Rattle.pipe_convert.proofs.projection.projection_operator.Goals as goal

pub schema-requires-2 : goal.schema-requires-2
schema-requires-2 c = input_under c.args.plan.now c.args.n c.args.input (node.Select c.args.input (named_formulas_of c.args.exprs.now)) refl c.known_well_formed.ensures c.requires

pub physical_exprs-requires : goal.physical_exprs-requires
physical_exprs-requires c = rw c.schema-2.ensures (exprs_typed c.args.plan.now c.args.n c.args.input (named_formulas_of c.args.exprs.now) c.known_well_formed.ensures c.requires)

pub returns : goal.returns
returns c =
    let whole = subst IsSchema c.schema.ensures c.fields.ensures.good in
    let e = c.in_ok-made.ensures in
    let P : List Field → Type 0 = λ s. AreMadeFor (λ p. p.schema) s c.in_ok-made.made in
    let made = subst P c.schema-2.ensures e.made in
    rw c.new.ensures (projection_of c.args.plan.now c.args.n c.args.input (named_formulas_of c.args.exprs.now) (λ p. p.schema) (λ p. named_formula_of p.expr) c.in_ok-made.made c.known_well_formed.ensures c.requires whole made e.same)
