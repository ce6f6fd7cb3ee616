-- The formula of an expression: its operators, names and values, wherever its parts lie in memory.
use Rattle.std.specs.Prelude.{ℕ, List, map}
use Rattle.pipe_schema.specs.declared.any_value.AnyValue.{AnyValue}
use Rattle.pipe_schema.specs.declared.data_type.DataType.{DataType}
use Rattle.pipe_expr.specs.declared.expr.Expr.{Expr, Col, Lit, Add', Sub', Mul', Eq', NotEq', Lt', LtEq', Gt', GtEq', And', Or', Not', IsNull', IsNotNull'}
use Rattle.pipe_expr.specs.declared.expr.NamedExpr.{NamedExpr}

pub data Formula : Type 0 where
  Column : (name : List ℕ) → Formula
  Literal : (dtype : DataType) → (value : AnyValue) → Formula
  Add : (left right : Formula) → Formula
  Sub : (left right : Formula) → Formula
  Mul : (left right : Formula) → Formula
  Eq : (left right : Formula) → Formula
  NotEq : (left right : Formula) → Formula
  Lt : (left right : Formula) → Formula
  LtEq : (left right : Formula) → Formula
  Gt : (left right : Formula) → Formula
  GtEq : (left right : Formula) → Formula
  And : (left right : Formula) → Formula
  Or : (left right : Formula) → Formula
  Not : (inner : Formula) → Formula
  IsNull : (inner : Formula) → Formula
  IsNotNull : (inner : Formula) → Formula

abbrev pub formula_of : Expr → Formula
formula_of (Col name) = Column name
formula_of (Lit dtype value) = Literal dtype value
formula_of (Add' p left q right) = Add (formula_of left) (formula_of right)
formula_of (Sub' p left q right) = Sub (formula_of left) (formula_of right)
formula_of (Mul' p left q right) = Mul (formula_of left) (formula_of right)
formula_of (Eq' p left q right) = Eq (formula_of left) (formula_of right)
formula_of (NotEq' p left q right) = NotEq (formula_of left) (formula_of right)
formula_of (Lt' p left q right) = Lt (formula_of left) (formula_of right)
formula_of (LtEq' p left q right) = LtEq (formula_of left) (formula_of right)
formula_of (Gt' p left q right) = Gt (formula_of left) (formula_of right)
formula_of (GtEq' p left q right) = GtEq (formula_of left) (formula_of right)
formula_of (And' p left q right) = And (formula_of left) (formula_of right)
formula_of (Or' p left q right) = Or (formula_of left) (formula_of right)
formula_of (Not' p inner) = Not (formula_of inner)
formula_of (IsNull' p inner) = IsNull (formula_of inner)
formula_of (IsNotNull' p inner) = IsNotNull (formula_of inner)

abbrev pub formulas_of : List Expr → List Formula
formulas_of exprs = map formula_of exprs

-- a formula with the name of its column
pub record NamedFormula : Type 0 where
  pub name : List ℕ
  pub formula : Formula

abbrev pub named_formula_of : NamedExpr → NamedFormula
named_formula_of e = record { name = e.name; formula = formula_of e.expr }

abbrev pub named_formulas_of : List NamedExpr → List NamedFormula
named_formulas_of exprs = map named_formula_of exprs
