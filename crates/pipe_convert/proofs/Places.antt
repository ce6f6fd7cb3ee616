-- The place of a name, or the first where it has none, is below the width of a schema; and keys, one more each time.
use Rattle.std.proofs.Common.{◌≡◌, ℕ, ◌<◌, List, [], ◌∷◌, length, Option, Some, None, unwrap_or, refl, arith}
use Rattle.pipe_schema.specs.Schema.{IsSchema, place_of}
use Rattle.pipe_schema.specs.declared.field.Field.{Field}
use Rattle.pipe_ops.proofs.NamedFields.{field-placed}

some_field : (schema : List Field) → IsSchema schema → 0 < length schema
some_field [] h = cc
some_field (field ∷ fields) h = omega arith

pub place_below : (name : List ℕ) (schema : List Field) → IsSchema schema → unwrap_or (place_of name schema) 0 < length schema
place_below name schema good =
    let split : (o : Option ℕ) → place_of name schema ≡ o → unwrap_or o 0 < length schema = elim [
      | Some i ↦ λ e. (field-placed name schema i e).0
      | None ↦ λ e. some_field schema good
    ] in split (place_of name schema) refl
