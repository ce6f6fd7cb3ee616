use Rattle.std.proofs.Common.{List, ap, subst, sym, ◌∙◌}
use Rattle.pipe_schema.specs.Rows.{Row}
use Rattle.pipe_schema.specs.Schema.{IsSchema}
use Rattle.pipe_schema.specs.declared.field.Field.{Field}
use Rattle.pipe_expr.specs.Projections.{select_fields}
use Rattle.pipe_expr.specs.Formula.{NamedFormula}
use Rattle.pipe_ops.specs.Exprs.{values_in, projected_row}
use Rattle.pipe_ops.proofs.SharedValues.{same-exprs, same-made}
use Rattle.pipe_ops.proofs.projection.ProjectionOperatorOperator.split.Goals as goal

pub returns-clause-takes : goal.returns-clause-takes
returns-clause-takes g c = λ s h. (same-made g.P.PhysicalPipedExpr.schema_of s c.in_ok-shared_again.field-0 c.args.self.now.exprs (c.in_ok-shared_again.ensures ∙ ap values_in c.as_slice.ensures) h.0, subst (λ (es : List NamedFormula). IsSchema (select_fields s es)) (sym (same-exprs g.P.PhysicalPipedExpr.expr_of c.in_ok-shared_again.field-0 c.args.self.now.exprs (c.in_ok-shared_again.ensures ∙ ap values_in c.as_slice.ensures))) h.1)

pub returns-clause-output : goal.returns-clause-output
returns-clause-output g c =
    let output : List NamedFormula → List Field → List Field = λ es s. select_fields s es in
    ap output (same-exprs g.P.PhysicalPipedExpr.expr_of c.in_ok-shared_again.field-0 c.args.self.now.exprs (c.in_ok-shared_again.ensures ∙ ap values_in c.as_slice.ensures))

pub returns-clause-each : goal.returns-clause-each
returns-clause-each g c =
    let each : List NamedFormula → List Field → Unit {0} → Row → List Row = λ es schema s. projected_row es schema in
    ap each (same-exprs g.P.PhysicalPipedExpr.expr_of c.in_ok-shared_again.field-0 c.args.self.now.exprs (c.in_ok-shared_again.ensures ∙ ap values_in c.as_slice.ensures))
