use Rattle.std.proofs.Common.{rules, ◌≡◌, ◌∷◌, map}
use Rattle.pipe_schema.specs.Schema.{has_name}
use Rattle.pipe_expr.specs.Formula.{named_formula_of}
use Rattle.pipe_rules.specs.Needs.{is_needed}
use Rattle.pipe_optimize.proofs.Steps.{taken-next, rest-next}
use Rattle.pipe_optimize.proofs.narrowing.kept_exprs.Goals as goal

pub loop-expr-preserved : goal.loop-expr-preserved
loop-expr-preserved c =
    let step : c.loop-expr.expr-iterator.rest.items ≡ c.in-Some.expr ∷ c.next.new.self.rest.items = search rules in (
      taken-next named_formula_of (is_needed (has_name c.args.needed.now)) c.loop-expr.yielded c.in-Some.expr (map named_formula_of c.loop-expr.kept) (map named_formula_of c.push_needed.new.kept) c.loop-expr.invariant.0 c.in_ok-push_needed.ensures,
      rest-next c.loop-expr.yielded c.next.new.self.rest.items c.loop-expr.expr-iterator.rest.items c.into_iter-expr-iterator.result.rest.items c.in-Some.expr c.loop-expr.invariant.1 step,
    )
