use Rattle.pipe_schema.specs.Schema.{has_name}
use Rattle.pipe_expr.specs.Formula.{named_formula_of}
use Rattle.pipe_plan.specs.Faults.{expr_columns}
use Rattle.pipe_rules.specs.Needs.{is_needed}
use Rattle.pipe_optimize.proofs.Steps.{some-next}
use Rattle.pipe_optimize.proofs.reads.columns_read_under.Goals as goal

pub loop-expr-preserved : goal.loop-expr-preserved
loop-expr-preserved c = some-next named_formula_of (is_needed (has_name c.args.needed.now)) expr_columns c.args.exprs.now c.loop-expr.expr-index c.expr-item.result c.loop-expr.read c.push_if_needed.new.read c.loop-expr.invariant c.loop-expr-test.true c.expr-item.is c.in_ok-push_if_needed.ensures
