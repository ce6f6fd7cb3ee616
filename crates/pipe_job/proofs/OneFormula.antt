-- A value spells one cell and one formula at most.
use Rattle.std.proofs.Common.{◌≡◌, ℕ, List, [], ◌∷◌, refl, ap, ap₂, sym, ◌∙◌, codes, arith, ℤ, pos, negsuc, subst, Result, Ok, Err}
use Rattle.std.specs.Prelude.{if◌then◌else◌}
use Rattle.std.specs.Str.{bytes_eq}
use Rattle.std.specs.Str.Parse.{signed_digits_value}
use Rattle.std.proofs.lemmas.Option.{same_Some}
use Rattle.hex.specs.Hex.{decode_of}
use Rattle.hex.specs.declared.error.FromHexError.{FromHexError}
use Rattle.hex.proofs.HexLemmas.{decode_of-encode_lower}
use Rattle.serde_json.specs.Data.{Data, null, boolean, number, unsigned, negative, string, object, member}
use Rattle.pipe_schema.specs.declared.any_value.AnyValue.{AnyValue}
use Rattle.pipe_schema.specs.declared.any_value.AnyValue.TheVariants as cell
use Rattle.pipe_schema.specs.declared.data_type.DataType.{DataType}
use Rattle.pipe_schema.specs.declared.data_type.DataType.TheVariants as dtype
use Rattle.pipe_expr.specs.Formula.{Formula, Column, Literal, Add, Sub, Mul, Eq, NotEq, Lt, LtEq, Gt, GtEq, And, Or, Not, IsNull, IsNotNull}
use Rattle.pipe_job.specs.Spelling.{type_spelling, cell_spelling, FitsType}
use Rattle.pipe_job.specs.FormulaSpelling.{formula_spelling, FormulaFits}
use Rattle.pipe_job.specs.Shape.{type_at}
use Rattle.pipe_job.proofs.Again.{type_again}
use Rattle.pipe_job.proofs.Decimals.{value_of_decimal}

-- ---- types and cells

pub one_type : (t u : DataType) → type_spelling t ≡ type_spelling u → t ≡ u
one_type t u e = same_Some _ _ (sym (type_again t) ∙ ap type_at e ∙ type_again u)

abbrev int_at : (ℤ → AnyValue) → Data → AnyValue
int_at f (number (unsigned n)) = f (pos n)
int_at f (number (negative z)) = f z
int_at f _ = cell.Null

abbrev nat_at : (ℕ → AnyValue) → Data → AnyValue
nat_at f (number (unsigned n)) = f n
nat_at f _ = cell.Null

abbrev bool_at : Data → AnyValue
bool_at (boolean b) = cell.Boolean b
bool_at _ = cell.Null

abbrev text_at : Data → AnyValue
text_at (string s) = cell.String s
text_at _ = cell.Null

abbrev decoded : Result (List ℕ) FromHexError → AnyValue
decoded (Ok b) = cell.Binary b
decoded (Err e) = cell.Null

abbrev bytes_at : Data → AnyValue
bytes_at (string s) = decoded (decode_of s)
bytes_at _ = cell.Null

abbrev decimal_at : Data → AnyValue
decimal_at (string s) = cell.Int128 (signed_digits_value 10 s)
decimal_at _ = cell.Null

-- the cell of a type that a value spells, if any
abbrev cell_at : DataType → Data → AnyValue
cell_at dtype.Int32 d = int_at cell.Int32 d
cell_at dtype.Int64 d = int_at cell.Int64 d
cell_at dtype.UInt32 d = nat_at cell.UInt32 d
cell_at dtype.UInt64 d = nat_at cell.UInt64 d
cell_at dtype.Boolean d = bool_at d
cell_at dtype.String d = text_at d
cell_at dtype.Binary d = bytes_at d
cell_at dtype.Int128 d = decimal_at d

null_at : (t : DataType) → cell_at t null ≡ cell.Null
null_at dtype.Int32 = refl
null_at dtype.Int64 = refl
null_at dtype.UInt32 = refl
null_at dtype.UInt64 = refl
null_at dtype.Boolean = refl
null_at dtype.String = refl
null_at dtype.Binary = refl
null_at dtype.Int128 = refl

cell_back : (t : DataType) (c : AnyValue) → FitsType t c → cell_at t (cell_spelling c) ≡ c
cell_back t cell.Null h = null_at t
cell_back t (cell.Int32 (pos n)) h = ap (λ (u : DataType). cell_at u (cell_spelling (cell.Int32 (pos n)))) h.0
cell_back t (cell.Int32 (negsuc n)) h = ap (λ (u : DataType). cell_at u (cell_spelling (cell.Int32 (negsuc n)))) h.0
cell_back t (cell.Int64 (pos n)) h = ap (λ (u : DataType). cell_at u (cell_spelling (cell.Int64 (pos n)))) h.0
cell_back t (cell.Int64 (negsuc n)) h = ap (λ (u : DataType). cell_at u (cell_spelling (cell.Int64 (negsuc n)))) h.0
cell_back t (cell.UInt32 n) h = ap (λ (u : DataType). cell_at u (cell_spelling (cell.UInt32 n))) h.0
cell_back t (cell.UInt64 n) h = ap (λ (u : DataType). cell_at u (cell_spelling (cell.UInt64 n))) h.0
cell_back t (cell.Boolean b) h = ap (λ (u : DataType). cell_at u (cell_spelling (cell.Boolean b))) h
cell_back t (cell.String s) h = ap (λ (u : DataType). cell_at u (cell_spelling (cell.String s))) h
cell_back t (cell.Binary b) h = ap (λ (u : DataType). cell_at u (cell_spelling (cell.Binary b))) h.0 ∙ ap decoded (decode_of-encode_lower b h.1)
cell_back t (cell.Int128 z) h = ap (λ (u : DataType). cell_at u (cell_spelling (cell.Int128 z))) h.0 ∙ ap cell.Int128 (value_of_decimal z h.1).1

pub one_cell : (t : DataType) (c d : AnyValue) → FitsType t c → FitsType t d → cell_spelling c ≡ cell_spelling d → c ≡ d
one_cell t c d h k e = sym (cell_back t c h) ∙ ap (cell_at t) e ∙ cell_back t d k

one_literal : (t u : DataType) (c d : AnyValue) → FitsType t c → FitsType u d → type_spelling t ≡ type_spelling u → cell_spelling c ≡ cell_spelling d → (t ≡ u) × (c ≡ d)
one_literal t u c d h k e f = let same = one_type t u e in (same, one_cell u c d (subst (λ (x : DataType). FitsType x c) same h) k f)

-- ---- formulas

abbrev name_of : Data → List ℕ
name_of (object (member k d ms)) = k
name_of _ = []

-- each form has a number
abbrev name_number : List ℕ → ℕ
name_number s =
    if bytes_eq s (codes "col") then 0 else if bytes_eq s (codes "lit") then 1 else if bytes_eq s (codes "add") then 2 else if bytes_eq s (codes "sub") then 3
    else if bytes_eq s (codes "mul") then 4 else if bytes_eq s (codes "eq") then 5 else if bytes_eq s (codes "not_eq") then 6 else if bytes_eq s (codes "lt") then 7
    else if bytes_eq s (codes "lt_eq") then 8 else if bytes_eq s (codes "gt") then 9 else if bytes_eq s (codes "gt_eq") then 10 else if bytes_eq s (codes "and") then 11
    else if bytes_eq s (codes "or") then 12 else if bytes_eq s (codes "not") then 13 else if bytes_eq s (codes "is_null") then 14 else 15

abbrev form_number : Data → ℕ
form_number d = name_number (name_of d)

pub one_formula : (a b : Formula) → FormulaFits a → FormulaFits b → formula_spelling a ≡ formula_spelling b → a ≡ b
one_formula (Column m) (Column n) h k e = cc
one_formula (Literal t c) (Literal u d) h k e = let same = one_literal t u c d h k (cc) (cc) in ap₂ Literal same.0 same.1
one_formula (Add a b) (Add c d) h k e = ap₂ Add (one_formula a c h.0 k.0 (cc)) (one_formula b d h.1 k.1 (cc))
one_formula (Sub a b) (Sub c d) h k e = ap₂ Sub (one_formula a c h.0 k.0 (cc)) (one_formula b d h.1 k.1 (cc))
one_formula (Mul a b) (Mul c d) h k e = ap₂ Mul (one_formula a c h.0 k.0 (cc)) (one_formula b d h.1 k.1 (cc))
one_formula (Eq a b) (Eq c d) h k e = ap₂ Eq (one_formula a c h.0 k.0 (cc)) (one_formula b d h.1 k.1 (cc))
one_formula (NotEq a b) (NotEq c d) h k e = ap₂ NotEq (one_formula a c h.0 k.0 (cc)) (one_formula b d h.1 k.1 (cc))
one_formula (Lt a b) (Lt c d) h k e = ap₂ Lt (one_formula a c h.0 k.0 (cc)) (one_formula b d h.1 k.1 (cc))
one_formula (LtEq a b) (LtEq c d) h k e = ap₂ LtEq (one_formula a c h.0 k.0 (cc)) (one_formula b d h.1 k.1 (cc))
one_formula (Gt a b) (Gt c d) h k e = ap₂ Gt (one_formula a c h.0 k.0 (cc)) (one_formula b d h.1 k.1 (cc))
one_formula (GtEq a b) (GtEq c d) h k e = ap₂ GtEq (one_formula a c h.0 k.0 (cc)) (one_formula b d h.1 k.1 (cc))
one_formula (And a b) (And c d) h k e = ap₂ And (one_formula a c h.0 k.0 (cc)) (one_formula b d h.1 k.1 (cc))
one_formula (Or a b) (Or c d) h k e = ap₂ Or (one_formula a c h.0 k.0 (cc)) (one_formula b d h.1 k.1 (cc))
one_formula (Not a) (Not b) h k e = ap Not (one_formula a b h k (cc))
one_formula (IsNull a) (IsNull b) h k e = ap IsNull (one_formula a b h k (cc))
one_formula (IsNotNull a) (IsNotNull b) h k e = ap IsNotNull (one_formula a b h k (cc))
one_formula _ _ h k e = absurd (omega (arith, ap form_number e))
