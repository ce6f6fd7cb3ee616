-- A schema: one field or more, each name once.
use Rattle.std.specs.Prelude.{◌≡◌, ◌⊎◌, ℕ, ◌+◌, List, [], ◌∷◌, Bool, false, ◌||◌, if◌then◌else◌, Option, Some, None, map, option_map}
use Rattle.std.specs.Str.{bytes_eq}
use Rattle.pipe_schema.specs.declared.field.Field.{Field}
use Rattle.pipe_schema.specs.declared.error.FrameError.{FrameError}
use Rattle.pipe_schema.specs.declared.error.FrameError.TheVariants as fault

-- whether a name stands among some names
abbrev pub has_name : List (List ℕ) → List ℕ → Bool
has_name [] name = false
has_name (n ∷ names) name = bytes_eq n name || has_name names name

-- the first of some names that stands again further on
abbrev pub first_repeated : List (List ℕ) → Option (List ℕ)
first_repeated [] = None
first_repeated (name ∷ names) = if has_name names name then Some name else first_repeated names

abbrev pub name_of : Field → List ℕ
name_of field = field.name

abbrev pub names_of : List Field → List (List ℕ)
names_of fields = map name_of fields

-- what is wrong with some names, if anything is
abbrev pub names_fault : List (List ℕ) → Option FrameError
names_fault [] = Some fault.NoColumns
names_fault (name ∷ names) = option_map fault.DuplicateName (first_repeated (name ∷ names))

-- an error tells want of memory, or what is wrong
abbrev pub MemoryOr : Option FrameError → FrameError → Type 0
MemoryOr wrong e = (e ≡ fault.Memory) ⊎ (wrong ≡ Some e)

-- the fields are those of a schema
abbrev pub IsSchema : List Field → Type 0
IsSchema fields = names_fault (names_of fields) ≡ None

-- where the first field of a name stands, counted from n
abbrev pub place_from : ℕ → List ℕ → List Field → Option ℕ
place_from n name [] = None
place_from n name (field ∷ fields) =
    if bytes_eq field.name name then Some n else place_from (n + 1) name fields

-- where the first field of a name stands
abbrev pub place_of : List ℕ → List Field → Option ℕ
place_of name fields = place_from 0 name fields

-- the first of some names that no field has
abbrev pub first_unknown : List Field → List (List ℕ) → Option (List ℕ)
first_unknown fields [] = None
first_unknown fields (name ∷ names) =
    if has_name (names_of fields) name then first_unknown fields names else Some name
