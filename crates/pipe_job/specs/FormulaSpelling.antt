-- The spelling of formulas: an object whose one member names the form.
use Rattle.std.specs.Prelude.{◌≡◌, ⊤, codes}
use Rattle.serde_json.specs.Data.{Data, string, object, no_members, member}
use Rattle.pipe_expr.specs.Formula.{Formula, Column, Literal, Add, Sub, Mul, Eq, NotEq, Lt, LtEq, Gt, GtEq, And, Or, Not, IsNull, IsNotNull, formula_of, NamedFormula, named_formula_of}
use Rattle.pipe_expr.specs.declared.expr.Expr.{Expr}
use Rattle.pipe_expr.specs.declared.expr.NamedExpr.{NamedExpr}
use Rattle.pipe_schema.specs.declared.any_value.AnyValue.{AnyValue}
use Rattle.pipe_schema.specs.declared.data_type.DataType.{DataType}
use Rattle.pipe_job.specs.Spelling.{single, couple, type_spelling, cell_spelling, FitsType}

-- a value of a type
abbrev pub literal_spelling : DataType → AnyValue → Data
literal_spelling t value = object (member (codes "type") (type_spelling t) (member (codes "value") (cell_spelling value) no_members))

abbrev pub formula_spelling : Formula → Data
formula_spelling (Column name) = single (codes "col") (string name)
formula_spelling (Literal t value) = single (codes "lit") (literal_spelling t value)
formula_spelling (Add left right) = single (codes "add") (couple (formula_spelling left) (formula_spelling right))
formula_spelling (Sub left right) = single (codes "sub") (couple (formula_spelling left) (formula_spelling right))
formula_spelling (Mul left right) = single (codes "mul") (couple (formula_spelling left) (formula_spelling right))
formula_spelling (Eq left right) = single (codes "eq") (couple (formula_spelling left) (formula_spelling right))
formula_spelling (NotEq left right) = single (codes "not_eq") (couple (formula_spelling left) (formula_spelling right))
formula_spelling (Lt left right) = single (codes "lt") (couple (formula_spelling left) (formula_spelling right))
formula_spelling (LtEq left right) = single (codes "lt_eq") (couple (formula_spelling left) (formula_spelling right))
formula_spelling (Gt left right) = single (codes "gt") (couple (formula_spelling left) (formula_spelling right))
formula_spelling (GtEq left right) = single (codes "gt_eq") (couple (formula_spelling left) (formula_spelling right))
formula_spelling (And left right) = single (codes "and") (couple (formula_spelling left) (formula_spelling right))
formula_spelling (Or left right) = single (codes "or") (couple (formula_spelling left) (formula_spelling right))
formula_spelling (Not inner) = single (codes "not") (formula_spelling inner)
formula_spelling (IsNull inner) = single (codes "is_null") (formula_spelling inner)
formula_spelling (IsNotNull inner) = single (codes "is_not_null") (formula_spelling inner)

-- each literal fits its type
abbrev pub FormulaFits : Formula → Type 0
FormulaFits (Column name) = ⊤
FormulaFits (Literal t value) = FitsType t value
FormulaFits (Add left right) = FormulaFits left × FormulaFits right
FormulaFits (Sub left right) = FormulaFits left × FormulaFits right
FormulaFits (Mul left right) = FormulaFits left × FormulaFits right
FormulaFits (Eq left right) = FormulaFits left × FormulaFits right
FormulaFits (NotEq left right) = FormulaFits left × FormulaFits right
FormulaFits (Lt left right) = FormulaFits left × FormulaFits right
FormulaFits (LtEq left right) = FormulaFits left × FormulaFits right
FormulaFits (Gt left right) = FormulaFits left × FormulaFits right
FormulaFits (GtEq left right) = FormulaFits left × FormulaFits right
FormulaFits (And left right) = FormulaFits left × FormulaFits right
FormulaFits (Or left right) = FormulaFits left × FormulaFits right
FormulaFits (Not inner) = FormulaFits inner
FormulaFits (IsNull inner) = FormulaFits inner
FormulaFits (IsNotNull inner) = FormulaFits inner

abbrev pub named_spelling : NamedFormula → Data
named_spelling e = object (member (codes "expr") (formula_spelling e.formula) (member (codes "name") (string e.name) no_members))

abbrev pub NamedFits : NamedFormula → Type 0
NamedFits e = FormulaFits e.formula

-- ---- expressions, by their formulas

abbrev pub expr_spelling : Expr → Data
expr_spelling e = formula_spelling (formula_of e)

abbrev pub ExprFits : Expr → Type 0
ExprFits e = FormulaFits (formula_of e)

abbrev pub named_expr_spelling : NamedExpr → Data
named_expr_spelling e = named_spelling (named_formula_of e)

abbrev pub NamedExprFits : NamedExpr → Type 0
NamedExprFits e = NamedFits (named_formula_of e)

-- the value spells the expression
abbrev pub IsExpr : Data → Expr → Type 0
IsExpr v e = (v ≡ expr_spelling e) × ExprFits e
