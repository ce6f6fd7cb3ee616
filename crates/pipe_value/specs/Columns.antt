-- The items of packed columns.
use Rattle.std.specs.Prelude.{◌≡◌, ℕ, ℤ, List, [], ◌∷◌, ◌++◌, map, Bool, true, false, Option, Some, None}
use Rattle.serde_json.specs.Data.{Data, null, number, unsigned, string}
use Rattle.serde_json.specs.Find.{of_integer}
use Rattle.pipe_value.specs.declared.columns.Columns.{Columns}

abbrev pub integer_data : Option ℤ → Data
integer_data None = null
integer_data (Some z) = number (of_integer z)

abbrev pub whole_data : Option ℕ → Data
whole_data None = null
whole_data (Some n) = number (unsigned n)

abbrev pub text_data : Option (List ℕ) → Data
text_data None = null
text_data (Some s) = string s

-- the integers, then the whole numbers, then the texts
abbrev pub columns_data : Columns → List Data
columns_data c = map integer_data c.integers ++ (map whole_data c.wholes ++ map text_data c.texts)

-- whether the item was put at the end, or nothing changed
abbrev pub Puts : List Data → Data → List Data → Bool → Type 0
Puts old d new true = new ≡ old ++ d ∷ []
Puts old d new false = new ≡ old
