-- The value of a formula is of the formula's type.
use Rattle.std.proofs.Common.{◌≡◌, ℕ, suc, ◌+◌, Bool, true, false, cond, List, [], ◌∷◌, refl, ap, ◌∙◌, arith, Option, Some, None}
use Rattle.std.specs.Prelude.{◌&&◌, is_none, ◌-◌, ◌*◌, ◌%◌}
use Rattle.std.specs.Int.{int_wrapping_add, int_wrapping_sub, int_wrapping_mul}
use Rattle.std.specs.Ordering.{is_eq, is_ne, is_lt, is_le, is_gt, is_ge}
use Rattle.std.specs.Str.{bytes_eq}
use Rattle.std.specs.declared.cmp.Ordering.{Ordering}
use Rattle.pipe_schema.specs.Cell.{eq_dtype, fits_dtype, boolean_cell}
use Rattle.pipe_schema.specs.Rows.{Row}
use Rattle.pipe_schema.specs.Schema.{place_from}
use Rattle.pipe_column.specs.Series.{cell_at}
use Rattle.pipe_schema.specs.declared.any_value.AnyValue.{AnyValue}
use Rattle.pipe_schema.specs.declared.any_value.AnyValue.TheVariants as cell
use Rattle.pipe_schema.specs.declared.data_type.DataType.{DataType}
use Rattle.pipe_schema.specs.declared.data_type.DataType.TheVariants as dtype
use Rattle.pipe_schema.specs.declared.field.Field.{Field}
use Rattle.pipe_expr.specs.Formula.{Formula, Column, Literal, Add, Sub, Mul, Eq, NotEq, Lt, LtEq, Gt, GtEq, And, Or, Not, IsNull, IsNotNull}
use Rattle.pipe_expr.specs.Types.{type_of, type_of_column, is_integer, literal_type, arithmetic_type, comparison_type, not_type, logic_type, null_test_type}
use Rattle.pipe_expr.specs.Nullables.{both, either, opposite, null_test}
use Rattle.pipe_expr.specs.Values.{value_of, cell_there, named_cell, Wrapping, wrapped, compared, truth_of}
use Rattle.pipe_expr.specs.Projections.{known_type}
use Rattle.pipe_events.specs.Fits.{FitsRow}

-- a cell is of a type, if there is one
abbrev pub Typed : Option DataType → AnyValue → Type 0
Typed None c = Unit {0}
Typed (Some t) c = fits_dtype t c ≡ true

pub typed-known : (t : Option DataType) (c : AnyValue) → is_none t ≡ false → Typed t c → fits_dtype (known_type t) c ≡ true
typed-known None c n h = cc
typed-known (Some t) c n h = h

known-typed : (t : Option DataType) (c : AnyValue) → fits_dtype (known_type t) c ≡ true → Typed t c
known-typed None c h = tt
known-typed (Some t) c h = h

-- the cell under a name, in a row that stands from a place on
named-from : (name : List ℕ) (fields : List Field) (row whole : Row) (n : ℕ) → FitsRow fields row → ((i : ℕ) → cell_at whole (n + i) ≡ cell_at row i) → fits_dtype (known_type (type_of_column name fields)) (cell_there whole (place_from n name fields)) ≡ true
named-from name [] row whole n h at = refl
named-from name (field ∷ fields) [] whole n h at = absurd h
named-from name (field ∷ fields) (c ∷ row) whole n h at =
    elim (bytes_eq field.name name) as (λ b. fits_dtype (known_type (cond b (Some field.dtype) (type_of_column name fields))) (cell_there whole (cond b (Some n) (place_from (n + 1) name fields))) ≡ true) [
      | true ↦
          let here : cell_at whole n ≡ c = ap (cell_at whole) (let e : n ≡ n + 0 = omega arith in e) ∙ at 0 in
          rw here h.0
      | false ↦ named-from name fields row whole (n + 1) h.1 (λ i. ap (cell_at whole) (let e : n + 1 + i ≡ n + suc i = omega arith in e) ∙ at (suc i))
    ]

pub named-fits : (name : List ℕ) (fields : List Field) (row : Row) → FitsRow fields row → fits_dtype (known_type (type_of_column name fields)) (named_cell fields row name) ≡ true
named-fits name fields row h = named-from name fields row row 0 h (λ i. ap (cell_at row) (let e : 0 + i ≡ i = omega arith in e))

-- ---- operators

wrapped-fits : (op : Wrapping) (t : DataType) (a b : AnyValue) → fits_dtype t a ≡ true → fits_dtype t (wrapped op a b) ≡ true
wrapped-fits op t cell.Null b h = refl
wrapped-fits op t (cell.Int32 a) (cell.Int32 b) h = h
wrapped-fits op t (cell.Int32 a) _ h = refl
wrapped-fits op t (cell.Int64 a) (cell.Int64 b) h = h
wrapped-fits op t (cell.Int64 a) _ h = refl
wrapped-fits op t (cell.UInt32 a) (cell.UInt32 b) h = h
wrapped-fits op t (cell.UInt32 a) _ h = refl
wrapped-fits op t (cell.UInt64 a) (cell.UInt64 b) h = h
wrapped-fits op t (cell.UInt64 a) _ h = refl
wrapped-fits op t (cell.Boolean a) b h = refl
wrapped-fits op t (cell.String a) b h = refl
wrapped-fits op t (cell.Binary a) b h = refl
wrapped-fits op t (cell.Int128 a) (cell.Int128 b) h = h
wrapped-fits op t (cell.Int128 a) _ h = refl

arithmetic-fits : (op : Wrapping) (a b : Option DataType) (x y : AnyValue) → Typed a x → Typed (arithmetic_type a b) (wrapped op x y)
arithmetic-fits op None b x y h = tt
arithmetic-fits op (Some a) None x y h = tt
arithmetic-fits op (Some a) (Some b) x y h = elim (eq_dtype a b && is_integer a) as (λ t. Typed (cond t (Some a) None) (wrapped op x y)) [ true ↦ wrapped-fits op a x y h | false ↦ tt ]

compared-fits : (test : Ordering → Bool) (x y : AnyValue) → fits_dtype dtype.Boolean (compared test x y) ≡ true
compared-fits test cell.Null y = refl
compared-fits test _ cell.Null = refl
compared-fits test _ _ = refl

comparison-fits : (test : Ordering → Bool) (a b : Option DataType) (x y : AnyValue) → Typed (comparison_type a b) (compared test x y)
comparison-fits test None b x y = tt
comparison-fits test (Some a) None x y = tt
comparison-fits test (Some a) (Some b) x y = elim (eq_dtype a b) as (λ t. Typed (cond t (Some dtype.Boolean) None) (compared test x y)) [ true ↦ compared-fits test x y | false ↦ tt ]

truth-fits : (b : Option Bool) → fits_dtype dtype.Boolean (boolean_cell b) ≡ true
truth-fits None = refl
truth-fits (Some b) = refl

logic-fits : (a b : Option DataType) (v : Option Bool) → Typed (logic_type a b) (boolean_cell v)
logic-fits None b v = tt
logic-fits (Some a) None v = tt
logic-fits (Some a) (Some b) v = elim (eq_dtype a dtype.Boolean && eq_dtype b dtype.Boolean) as (λ t. Typed (cond t (Some dtype.Boolean) None) (boolean_cell v)) [ true ↦ truth-fits v | false ↦ tt ]

not-fits : (a : Option DataType) (v : Option Bool) → Typed (not_type a) (boolean_cell v)
not-fits None v = tt
not-fits (Some a) v = elim (eq_dtype a dtype.Boolean) as (λ t. Typed (cond t (Some dtype.Boolean) None) (boolean_cell v)) [ true ↦ truth-fits v | false ↦ tt ]

null_test-fits : (a : Option DataType) (v : Bool) → Typed (null_test_type a) (cell.Boolean v)
null_test-fits None v = tt
null_test-fits (Some a) v = refl

literal-fits : (t : DataType) (v : AnyValue) → Typed (literal_type t v) v
literal-fits t v = elim (fits_dtype t v) as (λ b. fits_dtype t v ≡ b → Typed (cond b (Some t) None) v) [ true ↦ λ e. e | false ↦ λ e. tt ] refl

-- ---- formulas

abbrev adds : Wrapping
adds = record { signed = int_wrapping_add; unsigned = λ modulus a b. (a + b) % modulus }

abbrev subtracts : Wrapping
subtracts = record { signed = int_wrapping_sub; unsigned = λ modulus a b. (a + (modulus - b)) % modulus }

abbrev multiplies : Wrapping
multiplies = record { signed = int_wrapping_mul; unsigned = λ modulus a b. (a * b) % modulus }

pub value-typed : (f : Formula) (fields : List Field) (row : Row) → FitsRow fields row → Typed (type_of f fields) (value_of f fields row)
value-typed (Column name) fields row h = known-typed (type_of_column name fields) (named_cell fields row name) (named-fits name fields row h)
value-typed (Literal t v) fields row h = literal-fits t v
value-typed (Add l r) fields row h = arithmetic-fits adds (type_of l fields) (type_of r fields) (value_of l fields row) (value_of r fields row) (value-typed l fields row h)
value-typed (Sub l r) fields row h = arithmetic-fits subtracts (type_of l fields) (type_of r fields) (value_of l fields row) (value_of r fields row) (value-typed l fields row h)
value-typed (Mul l r) fields row h = arithmetic-fits multiplies (type_of l fields) (type_of r fields) (value_of l fields row) (value_of r fields row) (value-typed l fields row h)
value-typed (Eq l r) fields row h = comparison-fits is_eq (type_of l fields) (type_of r fields) (value_of l fields row) (value_of r fields row)
value-typed (NotEq l r) fields row h = comparison-fits is_ne (type_of l fields) (type_of r fields) (value_of l fields row) (value_of r fields row)
value-typed (Lt l r) fields row h = comparison-fits is_lt (type_of l fields) (type_of r fields) (value_of l fields row) (value_of r fields row)
value-typed (LtEq l r) fields row h = comparison-fits is_le (type_of l fields) (type_of r fields) (value_of l fields row) (value_of r fields row)
value-typed (Gt l r) fields row h = comparison-fits is_gt (type_of l fields) (type_of r fields) (value_of l fields row) (value_of r fields row)
value-typed (GtEq l r) fields row h = comparison-fits is_ge (type_of l fields) (type_of r fields) (value_of l fields row) (value_of r fields row)
value-typed (And l r) fields row h = logic-fits (type_of l fields) (type_of r fields) (both (truth_of (value_of l fields row)) (truth_of (value_of r fields row)))
value-typed (Or l r) fields row h = logic-fits (type_of l fields) (type_of r fields) (either (truth_of (value_of l fields row)) (truth_of (value_of r fields row)))
value-typed (Not inner) fields row h = not-fits (type_of inner fields) (opposite (truth_of (value_of inner fields row)))
value-typed (IsNull inner) fields row h = null_test-fits (type_of inner fields) (null_test true (value_of inner fields row))
value-typed (IsNotNull inner) fields row h = null_test-fits (type_of inner fields) (null_test false (value_of inner fields row))

-- a formula that has a type
pub value-fits : (f : Formula) (fields : List Field) (row : Row) → FitsRow fields row → is_none (type_of f fields) ≡ false → fits_dtype (known_type (type_of f fields)) (value_of f fields row) ≡ true
value-fits f fields row h n = typed-known (type_of f fields) (value_of f fields row) n (value-typed f fields row h)
