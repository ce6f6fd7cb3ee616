-- Formulas whose columns get other names.
use Rattle.std.specs.Prelude.{ℕ, List}
use Rattle.pipe_expr.specs.Formula.{Formula, Column, Literal, Add, Sub, Mul, Eq, NotEq, Lt, LtEq, Gt, GtEq, And, Or, Not, IsNull, IsNotNull}

-- the formula in which each column has the name that is made of its own
abbrev pub with_names : (List ℕ → List ℕ) → Formula → Formula
with_names name_for (Column name) = Column (name_for name)
with_names name_for (Literal t value) = Literal t value
with_names name_for (Add left right) = Add (with_names name_for left) (with_names name_for right)
with_names name_for (Sub left right) = Sub (with_names name_for left) (with_names name_for right)
with_names name_for (Mul left right) = Mul (with_names name_for left) (with_names name_for right)
with_names name_for (Eq left right) = Eq (with_names name_for left) (with_names name_for right)
with_names name_for (NotEq left right) =
    NotEq (with_names name_for left) (with_names name_for right)
with_names name_for (Lt left right) = Lt (with_names name_for left) (with_names name_for right)
with_names name_for (LtEq left right) = LtEq (with_names name_for left) (with_names name_for right)
with_names name_for (Gt left right) = Gt (with_names name_for left) (with_names name_for right)
with_names name_for (GtEq left right) = GtEq (with_names name_for left) (with_names name_for right)
with_names name_for (And left right) = And (with_names name_for left) (with_names name_for right)
with_names name_for (Or left right) = Or (with_names name_for left) (with_names name_for right)
with_names name_for (Not inner) = Not (with_names name_for inner)
with_names name_for (IsNull inner) = IsNull (with_names name_for inner)
with_names name_for (IsNotNull inner) = IsNotNull (with_names name_for inner)
