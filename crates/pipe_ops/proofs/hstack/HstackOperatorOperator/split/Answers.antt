use Rattle.std.proofs.Common.{List, ap, subst, sym, ◌∙◌}
use Rattle.pipe_schema.specs.Rows.{Row}
use Rattle.pipe_schema.specs.Schema.{IsSchema}
use Rattle.pipe_schema.specs.declared.field.Field.{Field}
use Rattle.pipe_expr.specs.Projections.{hstack_fields}
use Rattle.pipe_expr.specs.Formula.{NamedFormula}
use Rattle.pipe_ops.specs.Exprs.{values_in, stacked_row}
use Rattle.pipe_ops.proofs.SharedValues.{same-exprs, same-made}
use Rattle.pipe_ops.proofs.hstack.HstackOperatorOperator.split.Goals as goal

pub returns-clause-takes : goal.returns-clause-takes
returns-clause-takes g c = λ s h. (h.0 ∙ sym c.in_ok-try_clone.ensures, same-made g.P.PhysicalPipedExpr.schema_of s c.in_ok-shared_again.field-0 c.args.self.now.exprs (c.in_ok-shared_again.ensures ∙ ap values_in c.as_slice.ensures) h.1, subst (λ (es : List NamedFormula). IsSchema (hstack_fields s es)) (sym (same-exprs g.P.PhysicalPipedExpr.expr_of c.in_ok-shared_again.field-0 c.args.self.now.exprs (c.in_ok-shared_again.ensures ∙ ap values_in c.as_slice.ensures))) h.2)

pub returns-clause-output : goal.returns-clause-output
returns-clause-output g c =
    let output : List NamedFormula → List Field → List Field = λ es s. hstack_fields s es in
    ap output (same-exprs g.P.PhysicalPipedExpr.expr_of c.in_ok-shared_again.field-0 c.args.self.now.exprs (c.in_ok-shared_again.ensures ∙ ap values_in c.as_slice.ensures))

pub returns-clause-each : goal.returns-clause-each
returns-clause-each g c =
    let each : List NamedFormula → List Field → Unit {0} → Row → List Row = λ es schema s. stacked_row es schema in
    ap each (same-exprs g.P.PhysicalPipedExpr.expr_of c.in_ok-shared_again.field-0 c.args.self.now.exprs (c.in_ok-shared_again.ensures ∙ ap values_in c.as_slice.ensures))
