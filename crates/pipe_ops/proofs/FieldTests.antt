-- Fields that a schema has, each by its name and its type.
use Rattle.std.proofs.Common.{◌≡◌, ℕ, Bool, true, false, cond, ◌||◌, List, [], ◌∷◌, Option, Some, None, refl, ap, ◌∙◌}
use Rattle.std.specs.List.{list_all}
use Rattle.std.specs.Str.{bytes_eq}
use Rattle.std.proofs.lemmas.Bool.{and_from, and_parts}
use Rattle.pipe_schema.specs.Schema.{has_name, names_of, first_unknown}
use Rattle.pipe_schema.specs.declared.data_type.DataType.{DataType}
use Rattle.pipe_schema.specs.declared.field.Field.{Field}
use Rattle.pipe_expr.specs.Types.{type_of_column}
use Rattle.pipe_expr.specs.Projections.{known_type, field_named, fields_named}
use Rattle.pipe_ops.specs.Each.{HasFields, has_type, has_field}
use Rattle.pipe_ops.proofs.SameTypes.{equal_dtypes, dtype_itself}

-- a name is known where its column has a type
typed-known : (name : List ℕ) (schema : List Field) (t : DataType) → type_of_column name schema ≡ Some t → has_name (names_of schema) name ≡ true
typed-known name [] t e = cc
typed-known name (field ∷ fields) t e =
    let split : (b : Bool) → bytes_eq field.name name ≡ b → cond b (Some field.dtype) (type_of_column name fields) ≡ Some t → (b || has_name (names_of fields) name) ≡ true = elim [
      | true ↦ λ is h. refl
      | false ↦ λ is h. typed-known name fields t h
    ] in split (bytes_eq field.name name) refl e

-- and the other way
known-typed : (name : List ℕ) (schema : List Field) → has_name (names_of schema) name ≡ true → type_of_column name schema ≡ Some (known_type (type_of_column name schema))
known-typed name [] e = cc
known-typed name (field ∷ fields) e =
    let split : (b : Bool) → (b || has_name (names_of fields) name) ≡ true → cond b (Some field.dtype) (type_of_column name fields) ≡ Some (known_type (cond b (Some field.dtype) (type_of_column name fields))) = elim [
      | true ↦ λ h. refl
      | false ↦ λ h. known-typed name fields h
    ] in split (bytes_eq field.name name) e

first_item : (a b : Field) (l m : List Field) → a ∷ l ≡ b ∷ m → a ≡ b
first_item a b l m h = cc

other_items : (a b : Field) (l m : List Field) → a ∷ l ≡ b ∷ m → l ≡ m
other_items a b l m h = cc

-- the type that is there
typed-as : (o : Option DataType) (t : DataType) → has_type o t ≡ true → o ≡ Some t
typed-as None t h = cc
typed-as (Some u) t h = ap Some (equal_dtypes u t h)

pub has_each : (schema fields : List Field) → list_all (has_field schema) fields ≡ true → HasFields schema fields
has_each schema [] h = record { known = refl; same = refl }
has_each schema (field ∷ fields) h =
    let parts = and_parts (has_field schema field) (list_all (has_field schema) fields) h in
    let typed : type_of_column field.name schema ≡ Some field.dtype = typed-as (type_of_column field.name schema) field.dtype parts.0 in
    let there : has_name (names_of schema) field.name ≡ true = typed-known field.name schema field.dtype typed in
    let rest = has_each schema fields parts.1 in
    let first : field_named schema field.name ≡ field = ap (λ o. record { name = field.name; dtype = known_type o }) typed in
    record {
      known = ap (λ b. cond b (first_unknown schema (names_of fields)) (Some field.name)) there ∙ rest.known;
      same = ap (λ f. f ∷ fields_named schema (names_of fields)) first ∙ ap (λ l. field ∷ l) rest.same;
    }

pub each_has : (schema fields : List Field) → HasFields schema fields → list_all (has_field schema) fields ≡ true
each_has schema [] h = refl
each_has schema (field ∷ fields) h =
    let split : (b : Bool) → has_name (names_of schema) field.name ≡ b → cond b (first_unknown schema (names_of fields)) (Some field.name) ≡ None → (b ≡ true) × (first_unknown schema (names_of fields) ≡ None) = elim [
      | true ↦ λ is e. (refl, e)
      | false ↦ λ is e. cc
    ] in
    let known = split (has_name (names_of schema) field.name) refl h.known in
    let first : field_named schema field.name ≡ field = first_item (field_named schema field.name) field (fields_named schema (names_of fields)) fields h.same in
    let others : fields_named schema (names_of fields) ≡ fields = other_items (field_named schema field.name) field (fields_named schema (names_of fields)) fields h.same in
    let type_is : known_type (type_of_column field.name schema) ≡ field.dtype = ap (λ f. f.dtype) first in
    let typed : type_of_column field.name schema ≡ Some field.dtype = known-typed field.name schema known.0 ∙ ap Some type_is in
    and_from (has_field schema field) (list_all (has_field schema) fields)
    (ap (λ o. has_type o field.dtype) typed ∙ dtype_itself field.dtype)
    (each_has schema fields (record { known = known.1; same = others }))
