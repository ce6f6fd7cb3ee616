use Rattle.std.proofs.Common.{refl, ap, ◌∙◌}
use Rattle.pipe_expr.specs.Formula.{formula_of, named_formula_of}
use Rattle.pipe_plan.specs.Node as node
use Rattle.pipe_convert.proofs.Operators.{input_under, filter_typed, filter_of}
use Rattle.pipe_convert.proofs.filter.filter_operator.Goals as goal

pub schema-requires : goal.schema-requires
schema-requires c = input_under c.args.plan.now c.args.n c.args.input (node.Filter c.args.input (formula_of c.args.predicate.now)) refl c.known_well_formed.ensures c.requires

pub to_physical-requires : goal.to_physical-requires
to_physical-requires c = rw (c.in_ok-try_clone.ensures, c.schema.ensures) (filter_typed c.args.plan.now c.args.n c.args.input (formula_of c.args.predicate.now) c.known_well_formed.ensures c.requires)

pub returns : goal.returns
returns c =
    let made = c.in_ok-predicate.predicate in
    let e = c.in_ok-predicate.ensures in
    rw (c.new-2.ensures, c.in_ok-new.ensures.ok) (filter_of c.args.plan.now c.args.n c.args.input (formula_of c.args.predicate.now) (named_formula_of made.expr) made.schema c.known_well_formed.ensures c.requires (ap (λ x. x.formula) e.formula ∙ c.in_ok-try_clone.ensures) (e.schema ∙ c.schema.ensures))
