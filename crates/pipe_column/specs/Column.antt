-- A column of values of one type: at each place a value, or none where it is missing.
use Rattle.std.specs.Str.{IsUtf8}
use Rattle.std.specs.Prelude.{◌≡◌, ℕ, ◌+◌, ◌-◌, ◌≤◌, Bool, true, false, List, [], ◌∷◌, Option, Some, None, map, slice_index_or, slice_range}

-- a nullable value: the value where it is valid, and else none
abbrev pub nullable : {T : Type 0} → Bool → T → Option T
nullable true x = Some x
nullable false x = None

-- the nullable values of a column, by its validity and its values
abbrev pub nullables : {T : Type 0} → List Bool → List T → List (Option T)
nullables (true ∷ validity) (x ∷ xs) = Some x ∷ nullables validity xs
nullables (false ∷ validity) (x ∷ xs) = None ∷ nullables validity xs
nullables _ _ = []

-- what stands at a place of a column
abbrev pub nullable_at : {T : Type 0} → List (Option T) → ℕ → Option T
nullable_at column i = slice_index_or column i None

-- what stands at a place of a column, or a missing value where there is no place
abbrev pub nullable_in : {T : Type 0} → List (Option T) → Option ℕ → Option T
nullable_in column (Some i) = nullable_at column i
nullable_in column None = None

-- what stands at these places of a column
abbrev pub nullables_in : {T : Type 0} → List (Option T) → List (Option ℕ) → List (Option T)
nullables_in column places = map (nullable_in column) places

-- the value at a place, or another where there is none
abbrev pub value_at : {T : Type 0} → List T → T → Option ℕ → T
value_at values other (Some i) = slice_index_or values i other
value_at values other None = other

-- the values at these places, another where there is none
abbrev pub values_at : {T : Type 0} → List T → T → List (Option ℕ) → List T
values_at values other places = map (value_at values other) places

-- byte strings that stand one after another, the first from a start on, each told by where it ends
abbrev pub pieces_from : ℕ → List ℕ → List ℕ → List (List ℕ)
pieces_from start bytes [] = []
pieces_from start bytes (end ∷ ends) = slice_range bytes start end ∷ pieces_from end bytes ends

-- the ends rise from a start on up to a total
abbrev pub EndsFrom : ℕ → ℕ → List ℕ → Type 0
EndsFrom start total [] = start ≡ total
EndsFrom start total (end ∷ ends) = (start ≤ end) × EndsFrom end total ends

-- an end counted from a later start, and from an earlier one
abbrev pub less : ℕ → ℕ → ℕ
less start end = end - start

abbrev pub more : ℕ → ℕ → ℕ
more start end = start + end

-- each value that isn't missing is UTF-8
abbrev pub AreTexts : List (Option (List ℕ)) → Type 0
AreTexts [] = Unit {0}
AreTexts (Some text ∷ column) = IsUtf8 text × AreTexts column
AreTexts (None ∷ column) = AreTexts column
