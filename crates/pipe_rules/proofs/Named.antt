-- What the first expression of a name says of replaced columns and of plain ones.
use Rattle.std.proofs.Common.{◌≡◌, ℕ, true, false, List, Some, None, map, ap}
use Rattle.pipe_expr.specs.declared.expr.NamedExpr.{NamedExpr}
use Rattle.pipe_expr.specs.Formula.{formula_of, named_formula_of}
use Rattle.pipe_expr.specs.Projections.{expr_named}
use Rattle.pipe_check.specs.Named.{first_named}
use Rattle.pipe_check.proofs.Names.{name_of_expr, formula_there, formula_missing}
use Rattle.pipe_rules.specs.Placing.{column_of, column_under, plain_column, is_replacing}

pub replaced-there : (exprs : List NamedExpr) (name : List ℕ) (x : NamedExpr) → first_named name_of_expr exprs name ≡ Some x → is_replacing (expr_named (map named_formula_of exprs) name) ≡ true
replaced-there exprs name x e = ap is_replacing (formula_there exprs name x e)

pub replaced-missing : (exprs : List NamedExpr) (name : List ℕ) → first_named name_of_expr exprs name ≡ None → is_replacing (expr_named (map named_formula_of exprs) name) ≡ false
replaced-missing exprs name e = ap is_replacing (formula_missing exprs name e)

pub plain-there : (exprs : List NamedExpr) (name : List ℕ) (x : NamedExpr) → first_named name_of_expr exprs name ≡ Some x → plain_column (map named_formula_of exprs) name ≡ column_of (formula_of x.expr)
plain-there exprs name x e = ap column_under (formula_there exprs name x e)

pub plain-missing : (exprs : List NamedExpr) (name : List ℕ) → first_named name_of_expr exprs name ≡ None → plain_column (map named_formula_of exprs) name ≡ None
plain-missing exprs name e = ap column_under (formula_missing exprs name e)

pub ruleset named_rules = (replaced-there, replaced-missing, plain-there, plain-missing)
