-- The value and the type of a formula whose columns have other names.
use Rattle.std.proofs.Common.{◌≡◌, ℕ, List, refl, ap, sym, ◌∙◌}
use Rattle.std.specs.Ordering.{is_eq, is_ne, is_lt, is_le, is_gt, is_ge}
use Rattle.std.specs.List.{AllByRecursion}
use Rattle.pipe_schema.specs.Rows.{Row}
use Rattle.pipe_schema.specs.declared.field.Field.{Field}
use Rattle.pipe_expr.specs.Formula.{Formula, Column, Literal, Add, Sub, Mul, Eq, NotEq, Lt, LtEq, Gt, GtEq, And, Or, Not, IsNull, IsNotNull}
use Rattle.pipe_expr.specs.Types.{columns_in, type_of, type_of_column, arithmetic_type, comparison_type, logic_type, not_type, null_test_type}
use Rattle.pipe_expr.specs.Values.{value_of, named_cell, sum_of, difference_of, product_of, compared, both_of, either_of, opposite_of, is_missing, is_present}
use Rattle.pipe_rules.specs.Names.{with_names}
use Rattle.pipe_rules.proofs.Filters.{all-left, all-right}

two-same : {A B : Type 0} (f : A → A → B) {a b c d : A} → a ≡ b → c ≡ d → f a c ≡ f b d
two-same f {b = b} {c = c} e g = ap (λ x. f x c) e ∙ ap (f b) g

-- each column has its own name
pub own-names : (f : Formula) → with_names (λ name. name) f ≡ f
own-names (Column name) = refl
own-names (Literal t value) = refl
own-names (Add l r) = two-same Add (own-names l) (own-names r)
own-names (Sub l r) = two-same Sub (own-names l) (own-names r)
own-names (Mul l r) = two-same Mul (own-names l) (own-names r)
own-names (Eq l r) = two-same Eq (own-names l) (own-names r)
own-names (NotEq l r) = two-same NotEq (own-names l) (own-names r)
own-names (Lt l r) = two-same Lt (own-names l) (own-names r)
own-names (LtEq l r) = two-same LtEq (own-names l) (own-names r)
own-names (Gt l r) = two-same Gt (own-names l) (own-names r)
own-names (GtEq l r) = two-same GtEq (own-names l) (own-names r)
own-names (And l r) = two-same And (own-names l) (own-names r)
own-names (Or l r) = two-same Or (own-names l) (own-names r)
own-names (Not f) = ap Not (own-names f)
own-names (IsNull f) = ap IsNull (own-names f)
own-names (IsNotNull f) = ap IsNotNull (own-names f)

module _ (name_for : List ℕ → List ℕ) where
  -- what a name reads below is what it reads above
  abbrev pub SameCell : List Field → Row → List Field → Row → List ℕ → Type 0
  SameCell below row above made name = named_cell below row (name_for name) ≡ named_cell above made name

  pub value-renamed : (f : Formula) (below : List Field) (row : Row) (above : List Field) (made : Row) → AllByRecursion (SameCell below row above made) (columns_in f) → value_of (with_names name_for f) below row ≡ value_of f above made
  value-renamed (Column name) s r t u h = h.0
  value-renamed (Literal dtype value) s r t u h = refl
  value-renamed (Add a b) s r t u h = two-same (sum_of) (value-renamed a s r t u (all-left (SameCell s r t u) (columns_in a) (columns_in b) h)) (value-renamed b s r t u (all-right (SameCell s r t u) (columns_in a) (columns_in b) h))
  value-renamed (Sub a b) s r t u h = two-same (difference_of) (value-renamed a s r t u (all-left (SameCell s r t u) (columns_in a) (columns_in b) h)) (value-renamed b s r t u (all-right (SameCell s r t u) (columns_in a) (columns_in b) h))
  value-renamed (Mul a b) s r t u h = two-same (product_of) (value-renamed a s r t u (all-left (SameCell s r t u) (columns_in a) (columns_in b) h)) (value-renamed b s r t u (all-right (SameCell s r t u) (columns_in a) (columns_in b) h))
  value-renamed (Eq a b) s r t u h = two-same (compared is_eq) (value-renamed a s r t u (all-left (SameCell s r t u) (columns_in a) (columns_in b) h)) (value-renamed b s r t u (all-right (SameCell s r t u) (columns_in a) (columns_in b) h))
  value-renamed (NotEq a b) s r t u h = two-same (compared is_ne) (value-renamed a s r t u (all-left (SameCell s r t u) (columns_in a) (columns_in b) h)) (value-renamed b s r t u (all-right (SameCell s r t u) (columns_in a) (columns_in b) h))
  value-renamed (Lt a b) s r t u h = two-same (compared is_lt) (value-renamed a s r t u (all-left (SameCell s r t u) (columns_in a) (columns_in b) h)) (value-renamed b s r t u (all-right (SameCell s r t u) (columns_in a) (columns_in b) h))
  value-renamed (LtEq a b) s r t u h = two-same (compared is_le) (value-renamed a s r t u (all-left (SameCell s r t u) (columns_in a) (columns_in b) h)) (value-renamed b s r t u (all-right (SameCell s r t u) (columns_in a) (columns_in b) h))
  value-renamed (Gt a b) s r t u h = two-same (compared is_gt) (value-renamed a s r t u (all-left (SameCell s r t u) (columns_in a) (columns_in b) h)) (value-renamed b s r t u (all-right (SameCell s r t u) (columns_in a) (columns_in b) h))
  value-renamed (GtEq a b) s r t u h = two-same (compared is_ge) (value-renamed a s r t u (all-left (SameCell s r t u) (columns_in a) (columns_in b) h)) (value-renamed b s r t u (all-right (SameCell s r t u) (columns_in a) (columns_in b) h))
  value-renamed (And a b) s r t u h = two-same (both_of) (value-renamed a s r t u (all-left (SameCell s r t u) (columns_in a) (columns_in b) h)) (value-renamed b s r t u (all-right (SameCell s r t u) (columns_in a) (columns_in b) h))
  value-renamed (Or a b) s r t u h = two-same (either_of) (value-renamed a s r t u (all-left (SameCell s r t u) (columns_in a) (columns_in b) h)) (value-renamed b s r t u (all-right (SameCell s r t u) (columns_in a) (columns_in b) h))
  value-renamed (Not a) s r t u h = ap (opposite_of) (value-renamed a s r t u h)
  value-renamed (IsNull a) s r t u h = ap (is_missing) (value-renamed a s r t u h)
  value-renamed (IsNotNull a) s r t u h = ap (is_present) (value-renamed a s r t u h)

  abbrev pub SameType : List Field → List Field → List ℕ → Type 0
  SameType below above name = type_of_column (name_for name) below ≡ type_of_column name above

  pub type-renamed : (f : Formula) (below above : List Field) → AllByRecursion (SameType below above) (columns_in f) → type_of (with_names name_for f) below ≡ type_of f above
  type-renamed (Column name) s t h = h.0
  type-renamed (Literal dtype value) s t h = refl
  type-renamed (Add a b) s t h = two-same arithmetic_type (type-renamed a s t (all-left (SameType s t) (columns_in a) (columns_in b) h)) (type-renamed b s t (all-right (SameType s t) (columns_in a) (columns_in b) h))
  type-renamed (Sub a b) s t h = two-same arithmetic_type (type-renamed a s t (all-left (SameType s t) (columns_in a) (columns_in b) h)) (type-renamed b s t (all-right (SameType s t) (columns_in a) (columns_in b) h))
  type-renamed (Mul a b) s t h = two-same arithmetic_type (type-renamed a s t (all-left (SameType s t) (columns_in a) (columns_in b) h)) (type-renamed b s t (all-right (SameType s t) (columns_in a) (columns_in b) h))
  type-renamed (Eq a b) s t h = two-same comparison_type (type-renamed a s t (all-left (SameType s t) (columns_in a) (columns_in b) h)) (type-renamed b s t (all-right (SameType s t) (columns_in a) (columns_in b) h))
  type-renamed (NotEq a b) s t h = two-same comparison_type (type-renamed a s t (all-left (SameType s t) (columns_in a) (columns_in b) h)) (type-renamed b s t (all-right (SameType s t) (columns_in a) (columns_in b) h))
  type-renamed (Lt a b) s t h = two-same comparison_type (type-renamed a s t (all-left (SameType s t) (columns_in a) (columns_in b) h)) (type-renamed b s t (all-right (SameType s t) (columns_in a) (columns_in b) h))
  type-renamed (LtEq a b) s t h = two-same comparison_type (type-renamed a s t (all-left (SameType s t) (columns_in a) (columns_in b) h)) (type-renamed b s t (all-right (SameType s t) (columns_in a) (columns_in b) h))
  type-renamed (Gt a b) s t h = two-same comparison_type (type-renamed a s t (all-left (SameType s t) (columns_in a) (columns_in b) h)) (type-renamed b s t (all-right (SameType s t) (columns_in a) (columns_in b) h))
  type-renamed (GtEq a b) s t h = two-same comparison_type (type-renamed a s t (all-left (SameType s t) (columns_in a) (columns_in b) h)) (type-renamed b s t (all-right (SameType s t) (columns_in a) (columns_in b) h))
  type-renamed (And a b) s t h = two-same logic_type (type-renamed a s t (all-left (SameType s t) (columns_in a) (columns_in b) h)) (type-renamed b s t (all-right (SameType s t) (columns_in a) (columns_in b) h))
  type-renamed (Or a b) s t h = two-same logic_type (type-renamed a s t (all-left (SameType s t) (columns_in a) (columns_in b) h)) (type-renamed b s t (all-right (SameType s t) (columns_in a) (columns_in b) h))
  type-renamed (Not a) s t h = ap not_type (type-renamed a s t h)
  type-renamed (IsNull a) s t h = ap null_test_type (type-renamed a s t h)
  type-renamed (IsNotNull a) s t h = ap null_test_type (type-renamed a s t h)

-- a formula has one value and type where the columns that it reads have
pub value-same : (f : Formula) (below : List Field) (row : Row) (above : List Field) (made : Row) → AllByRecursion (λ name. named_cell below row name ≡ named_cell above made name) (columns_in f) → value_of f below row ≡ value_of f above made
value-same f s r t u h = ap (λ g. value_of g s r) (sym (own-names f)) ∙ value-renamed (λ name. name) f s r t u h

pub type-same : (f : Formula) (below above : List Field) → AllByRecursion (λ name. type_of_column name below ≡ type_of_column name above) (columns_in f) → type_of f below ≡ type_of f above
type-same f s t h = ap (λ g. type_of g s) (sym (own-names f)) ∙ type-renamed (λ name. name) f s t h
