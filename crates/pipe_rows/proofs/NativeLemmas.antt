-- Values of fixed width under both encodings.
use Rattle.std.proofs.Common.{◌≡◌, ℕ, ℤ, zero, suc, ◌+◌, ◌<◌, ◌≤◌, Bool, true, false, List, [], ◌∷◌, ◌++◌, Option, Some, None, length, take, drop, map, refl, ap, sym, subst, ◌∙◌, arith}
use Rattle.std.specs.Prelude.{IsTrue}
use Rattle.std.proofs.lemmas.List.{take_at, length-append, take-append-drop}
use Rattle.pipe_schema.specs.Cell.{dtype_of_cell, fits_dtype, is_null_cell, int128_cell}
use Rattle.pipe_column.specs.Column.{nullable_at}
use Rattle.pipe_column.specs.Native.{IsBytes, InRange, has_fixed_width, little_endian, ordered_bytes}
use Rattle.pipe_column.specs.Series.{cell_at}
use Rattle.pipe_schema.specs.Sizes.{width_of}
use Rattle.pipe_schema.specs.declared.any_value.AnyValue.{AnyValue}
use Rattle.pipe_schema.specs.declared.any_value.AnyValue.TheVariants as cell
use Rattle.pipe_schema.specs.declared.data_type.DataType.{DataType}
use Rattle.pipe_schema.specs.declared.data_type.DataType.TheVariants as dtype
use Rattle.pipe_column.proofs.SeriesCells.{cell_at-map}
use Rattle.pipe_rows.specs.Equality.{equality_cell, IsCell}
use Rattle.pipe_rows.specs.Ordered.{directed_bytes, ordered_cell, value_bytes}
use Rattle.pipe_rows.specs.Encodings.{encoded_cell}
use Rattle.pipe_rows.specs.declared.encoding.Encoding.{Encoding}
use Rattle.pipe_rows.specs.declared.encoding.Encoding.TheVariants as encoding
use Rattle.pipe_rows.proofs.OrderedLaw.{fixed_are_bytes}
use Rattle.pipe_rows.proofs.OrderedLemmas.{length-directed}
use Rattle.pipe_rows.proofs.DecodingLemmas.{directed_twice}
use Rattle.pipe_rows.specs.Decoding.{TakesValue, FindsNative, FindsValue}
use Rattle.pipe_rows.specs.declared.decode_value.Decoded.{Decoded}

-- no value has more than sixteen bytes
pub width-small : (t : DataType) → width_of t ≤ 16
width-small dtype.Int32 = omega arith
width-small dtype.Int64 = omega arith
width-small dtype.UInt32 = omega arith
width-small dtype.UInt64 = omega arith
width-small dtype.Boolean = omega arith
width-small dtype.String = omega arith
width-small dtype.Binary = omega arith
width-small dtype.Int128 = omega arith

-- ---- a value of fixed width

pub fixed_not_null : (v : AnyValue) → has_fixed_width v ≡ true → is_null_cell v ≡ false
fixed_not_null cell.Null h = sym h
fixed_not_null (cell.Int32 x) h = refl
fixed_not_null (cell.Int64 x) h = refl
fixed_not_null (cell.UInt32 x) h = refl
fixed_not_null (cell.UInt64 x) h = refl
fixed_not_null (cell.Boolean x) h = refl
fixed_not_null (cell.String x) h = refl
fixed_not_null (cell.Binary x) h = refl
fixed_not_null (cell.Int128 x) h = refl

pub equality_fixed : (v : AnyValue) → has_fixed_width v ≡ true → equality_cell v ≡ 1 ∷ little_endian v
equality_fixed cell.Null h = cc
equality_fixed (cell.Int32 x) h = refl
equality_fixed (cell.Int64 x) h = refl
equality_fixed (cell.UInt32 x) h = refl
equality_fixed (cell.UInt64 x) h = refl
equality_fixed (cell.Boolean x) h = refl
equality_fixed (cell.String x) h = cc
equality_fixed (cell.Binary x) h = cc
equality_fixed (cell.Int128 x) h = refl

pub ordered_fixed : (d nl : Bool) (v : AnyValue) → has_fixed_width v ≡ true → ordered_cell d nl v ≡ 1 ∷ directed_bytes d (ordered_bytes v)
ordered_fixed d nl cell.Null h = cc
ordered_fixed d nl (cell.Int32 x) h = refl
ordered_fixed d nl (cell.Int64 x) h = refl
ordered_fixed d nl (cell.UInt32 x) h = refl
ordered_fixed d nl (cell.UInt64 x) h = refl
ordered_fixed d nl (cell.Boolean x) h = refl
ordered_fixed d nl (cell.String x) h = cc
ordered_fixed d nl (cell.Binary x) h = cc
ordered_fixed d nl (cell.Int128 x) h = refl

value_fixed : (v : AnyValue) → has_fixed_width v ≡ true → value_bytes v ≡ ordered_bytes v
value_fixed cell.Null h = cc
value_fixed (cell.Int32 x) h = refl
value_fixed (cell.Int64 x) h = refl
value_fixed (cell.UInt32 x) h = refl
value_fixed (cell.UInt64 x) h = refl
value_fixed (cell.Boolean x) h = refl
value_fixed (cell.String x) h = cc
value_fixed (cell.Binary x) h = cc
value_fixed (cell.Int128 x) h = refl

-- as many bytes as its type says
little_width : (v : AnyValue) (t : DataType) → has_fixed_width v ≡ true → dtype_of_cell v ≡ Some t → length (little_endian v) ≡ width_of t
little_width cell.Null t h e = cc
little_width (cell.Int32 x) t h e = let is : dtype.Int32 ≡ t = cc in ap width_of is
little_width (cell.Int64 x) t h e = let is : dtype.Int64 ≡ t = cc in ap width_of is
little_width (cell.UInt32 x) t h e = let is : dtype.UInt32 ≡ t = cc in ap width_of is
little_width (cell.UInt64 x) t h e = let is : dtype.UInt64 ≡ t = cc in ap width_of is
little_width (cell.Boolean x) t h e = let is : dtype.Boolean ≡ t = cc in ap width_of is
little_width (cell.String x) t h e = cc
little_width (cell.Binary x) t h e = cc
little_width (cell.Int128 x) t h e = let is : dtype.Int128 ≡ t = cc in ap width_of is

ordered_width : (v : AnyValue) (t : DataType) → has_fixed_width v ≡ true → dtype_of_cell v ≡ Some t → length (ordered_bytes v) ≡ width_of t
ordered_width cell.Null t h e = cc
ordered_width (cell.Int32 x) t h e = let is : dtype.Int32 ≡ t = cc in ap width_of is
ordered_width (cell.Int64 x) t h e = let is : dtype.Int64 ≡ t = cc in ap width_of is
ordered_width (cell.UInt32 x) t h e = let is : dtype.UInt32 ≡ t = cc in ap width_of is
ordered_width (cell.UInt64 x) t h e = let is : dtype.UInt64 ≡ t = cc in ap width_of is
ordered_width (cell.Boolean x) t h e = let is : dtype.Boolean ≡ t = cc in ap width_of is
ordered_width (cell.String x) t h e = cc
ordered_width (cell.Binary x) t h e = cc
ordered_width (cell.Int128 x) t h e = let is : dtype.Int128 ≡ t = cc in ap width_of is

same_dtype : (t : DataType) → IsTrue (fits_dtype t cell.Null)
same_dtype t = refl

own_dtype : (t : DataType) (v : AnyValue) → dtype_of_cell v ≡ Some t → IsTrue (fits_dtype t v)
own_dtype t cell.Null e = refl
own_dtype t (cell.Int32 x) e = let is : dtype.Int32 ≡ t = cc in let P : DataType → Type 0 = λ s. IsTrue (fits_dtype s (cell.Int32 x)) in subst P is refl
own_dtype t (cell.Int64 x) e = let is : dtype.Int64 ≡ t = cc in let P : DataType → Type 0 = λ s. IsTrue (fits_dtype s (cell.Int64 x)) in subst P is refl
own_dtype t (cell.UInt32 x) e = let is : dtype.UInt32 ≡ t = cc in let P : DataType → Type 0 = λ s. IsTrue (fits_dtype s (cell.UInt32 x)) in subst P is refl
own_dtype t (cell.UInt64 x) e = let is : dtype.UInt64 ≡ t = cc in let P : DataType → Type 0 = λ s. IsTrue (fits_dtype s (cell.UInt64 x)) in subst P is refl
own_dtype t (cell.Boolean x) e = let is : dtype.Boolean ≡ t = cc in let P : DataType → Type 0 = λ s. IsTrue (fits_dtype s (cell.Boolean x)) in subst P is refl
own_dtype t (cell.String x) e = let is : dtype.String ≡ t = cc in let P : DataType → Type 0 = λ s. IsTrue (fits_dtype s (cell.String x)) in subst P is refl
own_dtype t (cell.Binary x) e = let is : dtype.Binary ≡ t = cc in let P : DataType → Type 0 = λ s. IsTrue (fits_dtype s (cell.Binary x)) in subst P is refl
own_dtype t (cell.Int128 x) e = let is : dtype.Int128 ≡ t = cc in let P : DataType → Type 0 = λ s. IsTrue (fits_dtype s (cell.Int128 x)) in subst P is refl

-- under either encoding: the byte of a value, and as many as its type says
pub encoded_width : (e : Encoding) (v : AnyValue) (t : DataType) → has_fixed_width v ≡ true → dtype_of_cell v ≡ Some t → length (encoded_cell e v) ≡ 1 + width_of t
encoded_width encoding.Equality v t h own = ap length (equality_fixed v h) ∙ omega (arith, little_width v t h own)
encoded_width (encoding.Ordered field) v t h own = ap length (ordered_fixed field.descending field.nulls_last v h) ∙ omega (arith, length-directed field.descending (ordered_bytes v), ordered_width v t h own)

-- a null has one byte
pub null_width : (e : Encoding) → length (encoded_cell e cell.Null) ≡ 1
null_width encoding.Equality = refl
null_width (encoding.Ordered field) = refl

-- a text is encoded as the byte string that it is
pub text_as_bytes : (e : Encoding) (text : List ℕ) → encoded_cell e (cell.String text) ≡ encoded_cell e (cell.Binary text)
text_as_bytes encoding.Equality text = refl
text_as_bytes (encoding.Ordered field) text = refl

-- ---- the cells of a column of fixed width

module _ {T : Type 0} (of : Option T → AnyValue) (missing : of None ≡ cell.Null) (xs : List (Option T)) (i : ℕ) where
  pub none_at : (x : Option T) → x ≡ nullable_at xs i → x ≡ None → cell_at (map of xs) i ≡ cell.Null
  none_at x e n = cell_at-map of xs i missing ∙ ap of (sym e ∙ n) ∙ missing

  pub some_at : (x : Option T) (y : T) → x ≡ nullable_at xs i → x ≡ Some y → cell_at (map of xs) i ≡ of (Some y)
  some_at x y e s = cell_at-map of xs i missing ∙ ap of (sym e ∙ s)

pub null_cell_is : (v : AnyValue) → v ≡ cell.Null → true ≡ is_null_cell v
null_cell_is v e = sym (ap is_null_cell e)

pub value_cell_is : (v w : AnyValue) → v ≡ w → has_fixed_width w ≡ true → false ≡ is_null_cell v
value_cell_is v w e h = sym (ap is_null_cell e ∙ fixed_not_null w h)

pub null_is_cell : (t : DataType) (v : AnyValue) → v ≡ cell.Null → IsCell t v
null_is_cell t v e = let P : AnyValue → Type 0 = λ x. IsCell t x in subst P (sym e) (refl, tt)

pub value_is_cell : (t : DataType) (v w : AnyValue) → v ≡ w → dtype_of_cell w ≡ Some t → InRange w → IsCell t v
value_is_cell t v w e own range = let P : AnyValue → Type 0 = λ x. IsCell t x in subst P (sym e) (own_dtype t w own, range)

-- ---- a value of fixed width at the front

module _ (t : DataType) (v : AnyValue) (d : Bool) (rest : List ℕ) (fixed : has_fixed_width v ≡ true) (own : dtype_of_cell v ≡ Some t) where
  wide : length (directed_bytes d (ordered_bytes v)) ≡ width_of t
  wide = length-directed d (ordered_bytes v) ∙ ordered_width v t fixed own

  -- its bytes don't fit in fewer
  pub native_short : (more : List ℕ) → directed_bytes d (ordered_bytes v) ++ more ≡ rest → length rest < width_of t → ⊥
  native_short more e lt = absurd (omega (arith, wide, ap length e, length-append (directed_bytes d (ordered_bytes v)) more))

  -- what was read there was taken from there
  pub native_taken : (bytes : List ℕ) → InRange v → IsBytes rest → width_of t ≤ length rest → bytes ≡ directed_bytes d (take (width_of t) rest) → ordered_bytes v ≡ bytes → TakesValue t d rest v (width_of t)
  native_taken bytes range are le e is = record {
    fits = (own_dtype t v own, range);
    not_null = fixed_not_null v fixed;
    within = le;
    is =
        ap (λ l. directed_bytes d l ++ drop (width_of t) rest) (value_fixed v fixed ∙ is ∙ e)
        ∙ ap (λ l. l ++ drop (width_of t) rest) (directed_twice d (take (width_of t) rest) (taken_are_bytes (width_of t) rest are))
        ∙ take-append-drop (width_of t) rest;
  }
    where
      taken_are_bytes : (n : ℕ) (xs : List ℕ) → IsBytes xs → IsBytes (take n xs)
      taken_are_bytes zero xs h = tt
      taken_are_bytes (suc n) [] h = tt
      taken_are_bytes (suc n) (x ∷ xs) h = (h.0, taken_are_bytes n xs h.1)

  -- what stands there is read there
  pub native_read : (bytes more : List ℕ) → bytes ≡ directed_bytes d (take (width_of t) rest) → directed_bytes d (ordered_bytes v) ++ more ≡ rest → ordered_bytes v ≡ bytes
  native_read bytes more e is =
      sym (directed_twice d (ordered_bytes v) (fixed_are_bytes v))
      ∙ ap (directed_bytes d) (sym (take_at (directed_bytes d (ordered_bytes v)) more (width_of t) wide) ∙ ap (take (width_of t)) is)
      ∙ sym e

-- where no value of 128 bits stands at the front, no such cell does
no_int128 : (d : Bool) (rest : List ℕ) (v : AnyValue) (more : List ℕ) → IsCell dtype.Int128 v → is_null_cell v ≡ false → directed_bytes d (value_bytes v) ++ more ≡ rest → ((x : ℤ) (after : List ℕ) → directed_bytes d (ordered_bytes (int128_cell (Some x))) ++ after ≡ rest → ⊥) → ⊥
no_int128 d rest (cell.Int128 x) more fits n e none = none x more e
no_int128 d rest _ more fits n e none = cc

pub finds_int128 : (d : Bool) (rest : List ℕ) (found : Option Decoded) → FindsNative int128_cell dtype.Int128 d rest found → FindsValue dtype.Int128 d rest found
finds_int128 d rest None none = λ v. no_int128 d rest v.value v.more v.fits v.not_null v.is none
finds_int128 d rest (Some _) taken = taken

pub ruleset bytes_rules = (cell_at-map, text_as_bytes, null_width)
