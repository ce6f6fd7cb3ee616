-- A name stands among those of a schema exactly where it has a place.
use Rattle.std.proofs.Common.{◌≡◌, ℕ, ◌+◌, true, false, cond, List, [], ◌∷◌, Some, is_some, refl, ap}
use Rattle.std.specs.Prelude.{not, ◌||◌}
use Rattle.std.specs.Str.{bytes_eq}
use Rattle.pipe_schema.specs.Schema.{has_name, names_of, place_from, place_of}
use Rattle.pipe_schema.specs.declared.field.Field.{Field}

pub placed : (n : ℕ) (name : List ℕ) (fields : List Field) → has_name (names_of fields) name ≡ is_some (place_from n name fields)
placed n name [] = refl
placed n name (field ∷ fields) =
    let later = placed (n + 1) name fields in
    elim (bytes_eq field.name name) as (λ b. (b || has_name (names_of fields) name) ≡ is_some (cond b (Some n) (place_from (n + 1) name fields))) [ true ↦ refl | false ↦ later ]

pub new_name : (name : List ℕ) (fields : List Field) → not (has_name (names_of fields) name) ≡ not (is_some (place_of name fields))
new_name name fields = ap not (placed 0 name fields)
