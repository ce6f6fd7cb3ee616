-- The order of a schema's names, by which a name is found.
use Rattle.std.specs.Borrow.{Bor}
use Rattle.std.specs.Cmp.Lexicographic.{slice_cmp}
use Rattle.std.specs.List.{Contains, range_with_len}
use Rattle.std.specs.List.Sorted.{IsSortedBy}
use Rattle.std.specs.Ordering.{is_lt, nat_cmp}
use Rattle.std.specs.Prelude.{◌≡◌, ℕ, ◌<◌, All, length, slice_index_or, List, [], Bool, map}
use Rattle.pipe_schema.specs.Schema.{names_of}
use Rattle.pipe_schema.specs.declared.field.Field.{Field}

-- the name of the field at a place
abbrev pub name_at : List Field → ℕ → List ℕ
name_at fields place = slice_index_or (names_of fields) place []

-- whether a name is before another, byte by byte
abbrev pub name_lt : List ℕ → List ℕ → Bool
name_lt a b = is_lt (slice_cmp nat_cmp a b)

-- whether the name at a place is before that at another
abbrev pub place_lt : List Field → ℕ → ℕ → Bool
place_lt fields a b = name_lt (name_at fields a) (name_at fields b)

-- the places of all fields, in the order of their names
pub record IsNameOrder (fields : List Field) (order : List ℕ) : Type 0 where
  pub inside : All (λ place. place < length fields) order
  pub each : (place : ℕ) → place < length fields → Contains order place
  pub sorted : IsSortedBy (place_lt fields) order

-- the order of a wide schema; a narrow one has none
abbrev pub OrdersIfWide : List Field → List ℕ → Type 0
OrdersIfWide fields order = 0 < length order → IsNameOrder fields order

-- a name with the place of its field
abbrev pub IsNamePlace : List Field → Bor (List ℕ) × ℕ → Type 0
IsNamePlace fields pair = (pair.1 < length fields) × (pair.0.now ≡ name_at fields pair.1)

-- the place of such a pair
abbrev pub place_in_pair : Bor (List ℕ) × ℕ → ℕ
place_in_pair pair = pair.1

abbrev pub places_in_pairs : List (Bor (List ℕ) × ℕ) → List ℕ
places_in_pairs pairs = map place_in_pair pairs

-- the places of all fields, in order
abbrev pub all_places : List Field → List ℕ
all_places fields = range_with_len 0 (length fields)
