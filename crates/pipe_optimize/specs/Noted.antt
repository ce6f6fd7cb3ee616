-- Names found by where each stands first.
use Rattle.std.specs.Prelude.{◌≡◌, ◌≤◌, ◌+◌, ℕ, List, [], ◌∷◌, Bool, false, ltb, if◌then◌else◌, Option, Some, None, take, length}
use Rattle.std.specs.BTreeMap.{get_by_text}
use Rattle.std.specs.Str.{bytes_eq}
use Rattle.pipe_optimize.specs.declared.first_places.FirstPlaces.{FirstPlaces}

-- where a name stands first among some, which are counted from a number on
abbrev pub place_from : ℕ → List ℕ → List (List ℕ) → Option ℕ
place_from m name [] = None
place_from m name (n ∷ names) = if bytes_eq n name then Some m else place_from (m + 1) name names

-- a place, or another one where there is none
abbrev pub or_place : Option ℕ → Option ℕ → Option ℕ
or_place None other = other
or_place (Some place) other = Some place

-- whether there is a place below a number
abbrev pub is_below : ℕ → Option ℕ → Bool
is_below n None = false
is_below n (Some place) = ltb place n

-- the first places of the first so many of some names are noted
pub record AreNoted (index : FirstPlaces) (names : List (List ℕ)) : Type 0 where
  pub within : index.count ≤ length names
  pub each : (q : List ℕ) → get_by_text index.places q ≡ place_from 0 q (take index.count names)
