-- Names of a schema: each stands once, so a field's name finds its place.
use Rattle.std.proofs.Common.{◌≡◌, ℕ, zero, suc, ◌+◌, ◌<◌, Bool, true, false, cond, List, [], ◌∷◌, Option, Some, None, length, get_or, map, drop, refl, ap, sym, ◌∙◌, arith}
use Rattle.std.specs.Prelude.{is_some, option_map, ◌||◌}
use Rattle.std.specs.Str.{bytes_eq}
use Rattle.std.specs.Cmp.Lexicographic.{bytes_decides}
use Rattle.std.proofs.lemmas.List.{drop_more}
use Rattle.pipe_schema.specs.Schema.{has_name, first_repeated, names_of, place_from, place_of, first_unknown, IsSchema}
use Rattle.pipe_schema.specs.declared.field.Field.{Field}
use Rattle.pipe_schema.specs.declared.error.FrameError.TheVariants as fault

bytes_eq-refl : (a : List ℕ) → bytes_eq a a ≡ true
bytes_eq-refl a = (bytes_decides a a).1 refl

-- a name that is among some names is found there
has_name-at : (fields : List Field) (k : ℕ) (d : Field) → k < length fields → has_name (names_of fields) (get_or fields k d).name ≡ true
has_name-at [] k d lt = absurd (omega arith)
has_name-at (field ∷ fields) zero d lt = rw bytes_eq-refl refl
has_name-at (field ∷ fields) (suc k) d lt =
    let later = has_name-at fields k d (omega arith) in
    elim (bytes_eq field.name (get_or fields k d).name) as (λ b. (b || has_name (names_of fields) (get_or fields k d).name) ≡ true) [ true ↦ refl | false ↦ later ]

-- a name has a place where it is among the names
pub is_some-place_from : (n : ℕ) (name : List ℕ) (fields : List Field) → is_some (place_from n name fields) ≡ has_name (names_of fields) name
is_some-place_from n name [] = refl
is_some-place_from n name (field ∷ fields) =
    elim (bytes_eq field.name name) as (λ b. is_some (cond b (Some n) (place_from (n + 1) name fields)) ≡ (b || has_name (names_of fields) name)) [ true ↦ refl | false ↦ is_some-place_from (n + 1) name fields ]

-- the names of some things from a place on
pub names_more : {N : Type 0} (f : N → List ℕ) (items : List N) (i : ℕ) (item : N) (name : List ℕ) → i < length items → item ≡ get_or items i item → name ≡ f item → map f (drop i items) ≡ name ∷ map f (drop (i + 1) items)
names_more f items i item name lt is named = ap (map f) (drop_more items i item lt) ∙ ap (λ n. n ∷ map f (drop (i + 1) items)) (ap f (sym is) ∙ sym named)

-- a name that no field has, and one that a field has
pub unknown_here : (fields : List Field) (name : List ℕ) (rest : List (List ℕ)) (r : Option ℕ) → r ≡ place_of name fields → r ≡ None → first_unknown fields (name ∷ rest) ≡ Some name
unknown_here fields name rest r e none = ap (λ b. cond b (first_unknown fields rest) (Some name)) (sym (is_some-place_from 0 name fields) ∙ ap is_some (sym e ∙ none))

pub known_here : (fields : List Field) (name : List ℕ) (rest : List (List ℕ)) (r : Option ℕ) → r ≡ place_of name fields → is_some r ≡ true → first_unknown fields (name ∷ rest) ≡ first_unknown fields rest
known_here fields name rest r e some = ap (λ b. cond b (first_unknown fields rest) (Some name)) (sym (is_some-place_from 0 name fields) ∙ ap is_some (sym e) ∙ some)

-- names of which none stands again
pub record IsDistinct (fields : List Field) : Type 0 where
  pub none : first_repeated (names_of fields) ≡ None

distinct-tail : (field : Field) (fields : List Field) → IsDistinct (field ∷ fields) → (has_name (names_of fields) field.name ≡ false) × IsDistinct fields
distinct-tail field fields h =
    let split : (b : Bool) → has_name (names_of fields) field.name ≡ b → cond b (Some field.name) (first_repeated (names_of fields)) ≡ None → (has_name (names_of fields) field.name ≡ false) × IsDistinct fields = elim [
      | true ↦ λ e some. cc
      | false ↦ λ e none. (e, record { none = none })
    ] in split (has_name (names_of fields) field.name) refl h.none

place_from-name : (fields : List Field) (n k : ℕ) (d : Field) → IsDistinct fields → k < length fields → place_from n (get_or fields k d).name fields ≡ Some (n + k)
place_from-name [] n k d h lt = absurd (omega arith)
place_from-name (field ∷ fields) n zero d h lt = rw bytes_eq-refl (ap Some (let e : n ≡ n + 0 = omega arith in e))
place_from-name (field ∷ fields) n (suc k) d h lt =
    let tail = distinct-tail field fields h in
    let there = has_name-at fields k d (omega arith) in
    let name = (get_or fields k d).name in
    let split : (b : Bool) → bytes_eq field.name name ≡ b → cond b (Some n) (place_from (n + 1) name fields) ≡ Some (n + suc k) = elim [
      | true ↦ λ e. (let same : field.name ≡ name = (bytes_decides field.name name).0 e in let again : has_name (names_of fields) field.name ≡ true = rw same there in let no = tail.0 in cc)
      | false ↦ λ e. place_from-name fields (n + 1) k d tail.1 (omega arith) ∙ ap Some (let m : (n + 1) + k ≡ n + suc k = omega arith in m)
    ] in split (bytes_eq field.name name) refl

schema_distinct : (fields : List Field) → IsSchema fields → IsDistinct fields
schema_distinct [] h = cc
schema_distinct (field ∷ fields) h =
    let split : (o : Option (List ℕ)) → first_repeated (names_of (field ∷ fields)) ≡ o → option_map fault.DuplicateName o ≡ None → IsDistinct (field ∷ fields) = elim [
      | Some name ↦ λ e some. cc
      | None ↦ λ e none. record { none = e }
    ] in split (first_repeated (names_of (field ∷ fields))) refl h

-- a schema has a field
pub some_field : (fields : List Field) → IsSchema fields → 0 < length fields
some_field [] h = cc
some_field (field ∷ fields) h = omega arith

-- the place of a field's name in a schema is the field's
pub place_of-name : (fields : List Field) (k : ℕ) (d : Field) → IsSchema fields → k < length fields → place_of (get_or fields k d).name fields ≡ Some k
place_of-name fields k d h lt = place_from-name fields 0 k d (schema_distinct fields h) lt ∙ ap Some (let e : 0 + k ≡ k = omega arith in e)
