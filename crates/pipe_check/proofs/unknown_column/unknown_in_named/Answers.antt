use Rattle.std.proofs.Common.{◌≡◌, None, sym, ◌∙◌, arith}
use Rattle.pipe_schema.specs.Schema.{first_unknown}
use Rattle.pipe_expr.specs.Formula.{formula_of}
use Rattle.pipe_expr.specs.Types.{columns_in}
use Rattle.pipe_check.proofs.Unknown.{named_unknown, named_known}
use Rattle.pipe_check.proofs.unknown_column.unknown_in_named.Goals as goal

pub returns-in-Some : goal.returns-in-Some
returns-in-Some c = sym (named_unknown c.args.columns.now c.args.exprs.now c.loop-expr.expr-index c.expr-item.result c.in-Some.name.now c.loop-expr-test.true c.expr-item.is (sym c.in-Some.ensures)) ∙ c.loop-expr.invariant

pub loop-expr-preserved : goal.loop-expr-preserved
loop-expr-preserved c =
    let none : first_unknown c.args.columns.now (columns_in (formula_of c.expr-item.result.expr)) ≡ None = grind arith in
    sym (named_known c.args.columns.now c.args.exprs.now c.loop-expr.expr-index c.expr-item.result c.loop-expr-test.true c.expr-item.is none) ∙ c.loop-expr.invariant
