-- The texts of cells, piece by piece: what the writer of a cell appends.
use Rattle.std.specs.Prelude.{ℕ, ℤ, List, [], ◌∷◌, Bool, true, false, ◌&&◌, ◌==◌, not, nat_lt, Option, Some, None, codes}
use Rattle.std.specs.Fmt.{signed_decimal}
use Rattle.json.specs.Print.{quoted}
use Rattle.hex.specs.Hex.{encode_lower}

-- whether a byte stands for itself in a JSON string
abbrev pub is_plain : ℕ → Bool
is_plain byte = not (nat_lt byte 32) && not (byte == 34) && not (byte == 92)

-- whether each byte stands for itself
abbrev pub all_plain : List ℕ → Bool
all_plain [] = true
all_plain (byte ∷ text) = is_plain byte && all_plain text

-- null, or the text of what is there
abbrev pub text_or_null : {A : Type 0} → (A → List ℕ) → Option A → List ℕ
text_or_null text None = codes "null"
text_or_null text (Some x) = text x

abbrev pub boolean_text : Bool → List ℕ
boolean_text true = codes "true"
boolean_text false = codes "false"

-- the digits of bytes as a JSON string
abbrev pub quoted_hex : List ℕ → List ℕ
quoted_hex bytes = quoted (encode_lower bytes)

-- the decimal digits of a whole number as a JSON string
abbrev pub quoted_decimal : ℤ → List ℕ
quoted_decimal z = quoted (signed_decimal z)
