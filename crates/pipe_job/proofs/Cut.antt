-- No newline stands inside a line, so cutting the joined lines gives the lines back.
use Rattle.std.proofs.Common.{◌≡◌, ◌≢◌, ◌==◌, ◌/◌, ◌%◌, ℕ, zero, suc, pos, negsuc, map, List, [], ◌∷◌, ◌++◌, Bool, true, false, not, ◌&&◌, cond, flat_map, nat_lt, decimal, refl, ap, ◌∙◌, arith}
use Rattle.std.proofs.lemmas.Bool.Decides.{nat_tests}
use Rattle.std.proofs.lemmas.Bool.{and_parts}
use Rattle.std.specs.Char.{digit_char}
use Rattle.std.specs.Fmt.{digits, digits_onto, digit_glyph, signed_decimal}
use Rattle.json.specs.Print.{escape_letter, escape_byte, escape, quoted}
use Rattle.serde_json.specs.Data.{Data, string}
use Rattle.serde_json.specs.View.{items_of}
use Rattle.serde_json.specs.Written.{compact_text, items_text, comma_if}
use Rattle.hex.specs.Hex.{encode_lower}
use Rattle.pipe_schema.specs.declared.any_value.AnyValue.{AnyValue}
use Rattle.pipe_schema.specs.declared.any_value.AnyValue.TheVariants as cell
use Rattle.pipe_schema.specs.declared.field.Field.{Field}
use Rattle.pipe_schema.specs.Rows.{Row}
use Rattle.pipe_schema.specs.Schema.{names_of}
use Rattle.pipe_job.specs.Spelling.{list, cell_spelling}
use Rattle.pipe_job.specs.Line.{head_line, row_line, lines, onto_first}

abbrev is_clean : List ℕ → Bool
is_clean [] = true
is_clean (b ∷ bs) = not (b == 10) && is_clean bs

-- no byte is a newline
record Clean (s : List ℕ) : Type 0 where
  pub each : is_clean s ≡ true

is_clean-append : (s t : List ℕ) → is_clean s ≡ true → is_clean t ≡ true → is_clean (s ++ t) ≡ true
is_clean-append [] t h k = k
is_clean-append (b ∷ s) t h k = let p = and_parts (not (b == 10)) (is_clean s) h in rw (p.0, is_clean-append s t p.1 k)

none : Clean []
none = record { each = refl }

append : {s t : List ℕ} → Clean s → Clean t → Clean (s ++ t)
append {s} {t} h k = record { each = is_clean-append s t h.each k.each }

one : {b : ℕ} {s : List ℕ} → b ≢ 10 → Clean s → Clean (b ∷ s)
one {b} {s} h k = let other : not (b == 10) ≡ true = grind (arith, nat_tests) in record { each = rw (other, k.each) }

choice : (b : Bool) {s t : List ℕ} → Clean s → Clean t → Clean (cond b s t)
choice true h k = h
choice false h k = k

-- ---- numbers

glyph : (d : ℕ) → digit_glyph false d ≢ 10
glyph d = grind (arith, nat_tests)

Clean-digits_onto : (k n : ℕ) (acc : List ℕ) → Clean acc → Clean (digits_onto k 10 false n acc)
Clean-digits_onto zero n acc h = h
Clean-digits_onto (suc k) n acc h = let more = one (glyph (n % 10)) h in choice (n / 10 == 0) more (Clean-digits_onto k (n / 10) (digit_glyph false (n % 10) ∷ acc) more)

Clean-decimal : (n : ℕ) → Clean (decimal n)
unfolding digits
Clean-decimal n = Clean-digits_onto 64 n [] none

-- ---- texts

letter : (x : ℕ) → escape_letter x ≢ 10
letter x = grind (arith, nat_tests)

hex_digit : (d : ℕ) → digit_char d ≢ 10
hex_digit d = grind (arith, nat_tests)

itself : (b : Bool) (x : ℕ) (s : List ℕ) → nat_lt x 32 ≡ b → Clean s → Clean (cond b s (x ∷ []))
itself true x s e h = h
itself false x s e h = one (grind (arith, nat_tests)) none

Clean-escape_byte : (x : ℕ) → Clean (escape_byte x)
unfolding escape_byte
Clean-escape_byte x =
    choice (nat_lt 0 (escape_letter x)) (one (omega arith) (one (letter x) none))
    (itself (nat_lt x 32) x _ refl (append {s = 92 ∷ 117 ∷ 48 ∷ 48 ∷ []} (record { each = refl }) (one (hex_digit (x / 16)) (one (hex_digit (x % 16)) none))))

Clean-escape : (s : List ℕ) → Clean (escape s)
Clean-escape [] = none
Clean-escape (b ∷ s) = append (Clean-escape_byte b) (Clean-escape s)

Clean-quoted : (s : List ℕ) → Clean (quoted s)
Clean-quoted s = one (omega arith) (append (Clean-escape s) (record { each = refl }))

-- ---- arrays

Clean-cell : (c : AnyValue) → Clean (compact_text (cell_spelling c))
Clean-cell cell.Null = record { each = refl }
Clean-cell (cell.Int32 (pos n)) = Clean-decimal n
Clean-cell (cell.Int32 (negsuc n)) = one (omega arith) (Clean-decimal (suc n))
Clean-cell (cell.Int64 (pos n)) = Clean-decimal n
Clean-cell (cell.Int64 (negsuc n)) = one (omega arith) (Clean-decimal (suc n))
Clean-cell (cell.UInt32 n) = Clean-decimal n
Clean-cell (cell.UInt64 n) = Clean-decimal n
Clean-cell (cell.Boolean true) = record { each = refl }
Clean-cell (cell.Boolean false) = record { each = refl }
Clean-cell (cell.String s) = Clean-quoted s
Clean-cell (cell.Binary b) = Clean-quoted (encode_lower b)
Clean-cell (cell.Int128 z) = Clean-quoted (signed_decimal z)

Clean-comma : (b : Bool) → Clean (comma_if b)
Clean-comma true = record { each = refl }
Clean-comma false = none

Clean-items : {A : Type 0} (spell : A → Data) → ((x : A) → Clean (compact_text (spell x))) → (later : Bool) (xs : List A) → Clean (items_text later (items_of (map spell xs)))
Clean-items spell each later [] = record { each = refl }
Clean-items spell each later (x ∷ xs) = append (Clean-comma later) (append (each x) (Clean-items spell each true xs))

Clean-list : {A : Type 0} (spell : A → Data) → ((x : A) → Clean (compact_text (spell x))) → (xs : List A) → Clean (compact_text (list spell xs))
Clean-list spell each xs = one (omega arith) (Clean-items spell each false xs)

-- ---- cutting

not_ten : (b : ℕ) → not (b == 10) ≡ true → b ≢ 10
not_ten b h = grind (arith, nat_tests)

line_on : (b : ℕ) (bs : List ℕ) → b ≢ 10 → lines (b ∷ bs) ≡ onto_first b (lines bs)
line_on b bs h = grind (arith, nat_tests)

cut : (s rest : List ℕ) → is_clean s ≡ true → lines ((s ++ 10 ∷ []) ++ rest) ≡ (s ++ 10 ∷ []) ∷ lines rest
cut [] rest h = refl
cut (b ∷ s) rest h =
    let p = and_parts (not (b == 10)) (is_clean s) h in
    line_on b ((s ++ 10 ∷ []) ++ rest) (not_ten b p.0) ∙ ap (onto_first b) (cut s rest p.1)

-- the line of a row is cut off
pub lines-row : (row : Row) (rest : List ℕ) → lines (row_line row ++ rest) ≡ row_line row ∷ lines rest
lines-row row rest = let clean = Clean-list cell_spelling Clean-cell row in cut (compact_text (list cell_spelling row)) rest clean.each

-- the line of the column names is cut off
pub lines-head : (fields : List Field) (rest : List ℕ) → lines (head_line fields ++ rest) ≡ head_line fields ∷ lines rest
lines-head fields rest = let clean = Clean-list string Clean-quoted (names_of fields) in cut (compact_text (list string (names_of fields))) rest clean.each

-- the joined lines of rows are those lines
pub lines-rows : (rows : List Row) → lines (flat_map row_line rows) ≡ map row_line rows
lines-rows [] = refl
lines-rows (row ∷ rows) = lines-row row (flat_map row_line rows) ∙ ap (λ (ls : List (List ℕ)). row_line row ∷ ls) (lines-rows rows)

-- a frame's text is cut into the line of its names and the lines of its rows
pub lines-frame : (fields : List Field) (rows : List Row) → lines (head_line fields ++ flat_map row_line rows) ≡ head_line fields ∷ map row_line rows
lines-frame fields rows = lines-head fields (flat_map row_line rows) ∙ ap (λ (ls : List (List ℕ)). head_line fields ∷ ls) (lines-rows rows)

pub ruleset cut_rules = (lines-frame)
