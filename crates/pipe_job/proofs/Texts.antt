-- The pieces that are written are the compact text.
use Rattle.std.proofs.Common.{◌≡◌, ◌<◌, ◌∷◌, ◌++◌, ℕ, zero, suc, ℤ, pos, negsuc, List, [], length, map, Option, Some, None, Bool, true, false, refl, ap, ap₂, sym, ◌∙◌, arith, decimal, slice_index, true≢false}
use Rattle.std.specs.Fmt.{signed_decimal}
use Rattle.std.proofs.lemmas.List.{length-map}
use Rattle.hex.specs.Hex.{lower_digits}
use Rattle.serde_json.specs.Find.{of_integer}
use Rattle.serde_json.specs.Written.{number_text, compact_text}
use Rattle.pipe_schema.specs.declared.any_value.AnyValue.{AnyValue}
use Rattle.pipe_schema.specs.declared.any_value.AnyValue.TheVariants as cell
use Rattle.pipe_schema.specs.declared.data_type.DataType.{DataType}
use Rattle.pipe_schema.specs.declared.data_type.DataType.TheVariants as dtype
use Rattle.pipe_schema.specs.Cell.{int32_cell, int64_cell, uint32_cell, uint64_cell, boolean_cell, string_cell, binary_cell, int128_cell}
use Rattle.pipe_column.specs.Column.{nullable_at}
use Rattle.pipe_column.specs.Series.{cell_at}
use Rattle.pipe_column.proofs.SeriesCells.{cell_at-map}
use Rattle.pipe_job.specs.Spelling.{cell_spelling}
use Rattle.std.proofs.lemmas.Bool.{and_parts}
use Rattle.std.proofs.lemmas.Bool.Decides.{nat_tests}
use Rattle.json.specs.Print.{escape_byte, escape, quoted}
use Rattle.pipe_job.specs.Text.{is_plain, all_plain, text_or_null, boolean_text, quoted_hex, quoted_decimal}

escape_byte-plain : (b : ℕ) → is_plain b ≡ true → escape_byte b ≡ b ∷ []
unfolding escape_byte
escape_byte-plain b h = grind (arith, nat_tests)

-- a text that needs no escape is its own
pub escape_plain : (s : List ℕ) → all_plain s ≡ true → escape s ≡ s
escape_plain [] h = refl
escape_plain (b ∷ s) h = let p = and_parts (is_plain b) (all_plain s) h in ap₂ (λ (x y : List ℕ). x ++ y) (escape_byte-plain b p.0) (escape_plain s p.1)

pub integer_text : (z : ℤ) → number_text (of_integer z) ≡ signed_decimal z
integer_text (pos n) = refl
integer_text (negsuc n) = refl

-- the text of a typed cell
text-int32 : (x : Option ℤ) → compact_text (cell_spelling (int32_cell x)) ≡ text_or_null signed_decimal x
text-int32 None = refl
text-int32 (Some z) = integer_text z

text-int64 : (x : Option ℤ) → compact_text (cell_spelling (int64_cell x)) ≡ text_or_null signed_decimal x
text-int64 None = refl
text-int64 (Some z) = integer_text z

text-uint32 : (x : Option ℕ) → compact_text (cell_spelling (uint32_cell x)) ≡ text_or_null decimal x
text-uint32 None = refl
text-uint32 (Some n) = refl

text-uint64 : (x : Option ℕ) → compact_text (cell_spelling (uint64_cell x)) ≡ text_or_null decimal x
text-uint64 None = refl
text-uint64 (Some n) = refl

text-boolean : (x : Option Bool) → compact_text (cell_spelling (boolean_cell x)) ≡ text_or_null boolean_text x
text-boolean None = refl
text-boolean (Some true) = refl
text-boolean (Some false) = refl

text-string : (x : Option (List ℕ)) → compact_text (cell_spelling (string_cell x)) ≡ text_or_null quoted x
text-string None = refl
text-string (Some s) = refl

text-binary : (x : Option (List ℕ)) → compact_text (cell_spelling (binary_cell x)) ≡ text_or_null quoted_hex x
text-binary None = refl
text-binary (Some b) = refl

text-int128 : (x : Option ℤ) → compact_text (cell_spelling (int128_cell x)) ≡ text_or_null quoted_decimal x
text-int128 None = refl
text-int128 (Some z) = refl

-- what a cell of a typed column is written as
of_cells : {T : Type 0} (f : Option T → AnyValue) (text : T → List ℕ) → ((x : Option T) → compact_text (cell_spelling (f x)) ≡ text_or_null text x) → f None ≡ cell.Null
    → (column : List (Option T)) (cells : List AnyValue) (i : ℕ) → cells ≡ map f column → text_or_null text (nullable_at column i) ≡ compact_text (cell_spelling (cell_at cells i))
of_cells f text same none column cells i e = sym (ap (λ (c : AnyValue). compact_text (cell_spelling c)) (ap (λ (l : List AnyValue). cell_at l i) e ∙ cell_at-map f column i none) ∙ same (nullable_at column i))

pub of_int32 : (column : List (Option ℤ)) (cells : List AnyValue) (i : ℕ) → cells ≡ map int32_cell column → text_or_null signed_decimal (nullable_at column i) ≡ compact_text (cell_spelling (cell_at cells i))
of_int32 = of_cells int32_cell signed_decimal text-int32 refl

pub of_int64 : (column : List (Option ℤ)) (cells : List AnyValue) (i : ℕ) → cells ≡ map int64_cell column → text_or_null signed_decimal (nullable_at column i) ≡ compact_text (cell_spelling (cell_at cells i))
of_int64 = of_cells int64_cell signed_decimal text-int64 refl

pub of_uint32 : (column : List (Option ℕ)) (cells : List AnyValue) (i : ℕ) → cells ≡ map uint32_cell column → text_or_null decimal (nullable_at column i) ≡ compact_text (cell_spelling (cell_at cells i))
of_uint32 = of_cells uint32_cell decimal text-uint32 refl

pub of_uint64 : (column : List (Option ℕ)) (cells : List AnyValue) (i : ℕ) → cells ≡ map uint64_cell column → text_or_null decimal (nullable_at column i) ≡ compact_text (cell_spelling (cell_at cells i))
of_uint64 = of_cells uint64_cell decimal text-uint64 refl

pub of_boolean : (column : List (Option Bool)) (cells : List AnyValue) (i : ℕ) → cells ≡ map boolean_cell column → text_or_null boolean_text (nullable_at column i) ≡ compact_text (cell_spelling (cell_at cells i))
of_boolean = of_cells boolean_cell boolean_text text-boolean refl

pub of_string : (column : List (Option (List ℕ))) (cells : List AnyValue) (i : ℕ) → cells ≡ map string_cell column → text_or_null quoted (nullable_at column i) ≡ compact_text (cell_spelling (cell_at cells i))
of_string = of_cells string_cell quoted text-string refl

pub of_binary : (column : List (Option (List ℕ))) (cells : List AnyValue) (i : ℕ) → cells ≡ map binary_cell column → text_or_null quoted_hex (nullable_at column i) ≡ compact_text (cell_spelling (cell_at cells i))
of_binary = of_cells binary_cell quoted_hex text-binary refl

pub of_int128 : (column : List (Option ℤ)) (cells : List AnyValue) (i : ℕ) → cells ≡ map int128_cell column → text_or_null quoted_decimal (nullable_at column i) ≡ compact_text (cell_spelling (cell_at cells i))
of_int128 = of_cells int128_cell quoted_decimal text-int128 refl

plain_at : (s : List ℕ) (d : ℕ) → all_plain s ≡ true → d < length s → is_plain (slice_index s d) ≡ true
plain_at [] d h lt = absurd (omega arith)
plain_at (b ∷ s) zero h lt = let p = and_parts (is_plain b) (all_plain s) h in p.0
plain_at (b ∷ s) (suc d) h lt = let p = and_parts (is_plain b) (all_plain s) h in plain_at s d p.1 (omega arith)

-- a hexadecimal digit needs no escape
pub escape_byte-digit : (d : ℕ) → d < 16 → escape_byte (slice_index lower_digits d) ≡ slice_index lower_digits d ∷ []
escape_byte-digit d lt = escape_byte-plain (slice_index lower_digits d) (plain_at lower_digits d refl lt)

pub ruleset cell_rules = (of_int32, of_int64, of_uint32, of_uint64, of_boolean, of_string, of_binary, of_int128, length-map)
