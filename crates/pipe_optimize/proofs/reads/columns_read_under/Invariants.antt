use Rattle.std.proofs.Common.{map, take, ◌≡◌}
use Rattle.pipe_schema.specs.Schema.{has_name}
use Rattle.pipe_expr.specs.Formula.{named_formula_of}
use Rattle.pipe_rules.specs.Needs.{needed_exprs, columns_read}
use Rattle.pipe_optimize.proofs.reads.columns_read_under.Given as goal

abbrev pub invariant-loop-expr : goal.invariant-loop-expr
invariant-loop-expr l = l.read ≡ columns_read (needed_exprs (has_name l.needed) (map named_formula_of (take l.expr-index l.exprs)))
