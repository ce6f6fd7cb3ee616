-- The field at the place of a name is the first of that name.
use Rattle.std.proofs.Common.{◌≡◌, ℕ, suc, ◌+◌, ◌-◌, ◌<◌, ◌≤◌, Bool, true, false, cond, List, [], ◌∷◌, Option, Some, None, length, refl, ap, sym, ◌∙◌, arith}
use Rattle.std.specs.Prelude.{slice_get}
use Rattle.std.specs.Str.{bytes_eq}
use Rattle.pipe_schema.specs.Schema.{name_of, place_from, place_of}
use Rattle.pipe_schema.specs.declared.field.Field.{Field}
use Rattle.pipe_check.specs.Named.{first_named}

-- where a name stands, counted from n
record IsFound (fields : List Field) (name : List ℕ) (n i : ℕ) : Type 0 where
  behind : n ≤ i
  within : i - n < length fields
  first : first_named name_of fields name ≡ slice_get fields (i - n)

found-from : (fields : List Field) (name : List ℕ) (n i : ℕ) → place_from n name fields ≡ Some i → IsFound fields name n i
found-from [] name n i e = cc
found-from (x ∷ xs) name n i e =
    let split : (b : Bool) → bytes_eq x.name name ≡ b → cond b (Some n) (place_from (n + 1) name xs) ≡ Some i → IsFound (x ∷ xs) name n i = elim [
      | true ↦ λ is h. (
          let same : n ≡ i = cc in
          let none : i - n ≡ 0 = omega arith in
          record {
            behind = omega arith;
            within = omega arith;
            first = rw (is, none) refl;
          })
      | false ↦ λ is h. (
          let more = found-from xs name (n + 1) i h in
          let next : i - n ≡ suc (i - (n + 1)) = omega (arith, more.behind) in
          record {
            behind = omega (arith, more.behind);
            within = omega (arith, more.behind, more.within);
            first = rw (is, next) more.first;
          })
    ] in split (bytes_eq x.name name) refl e

missing-from : (fields : List Field) (name : List ℕ) (n : ℕ) → place_from n name fields ≡ None → first_named name_of fields name ≡ None
missing-from [] name n e = refl
missing-from (x ∷ xs) name n e =
    let split : (b : Bool) → bytes_eq x.name name ≡ b → cond b (Some n) (place_from (n + 1) name xs) ≡ None → cond b (Some x) (first_named name_of xs name) ≡ None = elim [
      | true ↦ λ is h. cc
      | false ↦ λ is h. missing-from xs name (n + 1) h
    ] in split (bytes_eq x.name name) refl e

pub place_within : (fields : List Field) (name : List ℕ) (r : Option ℕ) (i : ℕ) → r ≡ place_of name fields → r ≡ Some i → i < length fields
place_within fields name r i e is =
    let found = found-from fields name 0 i (sym e ∙ is) in omega (arith, found.within)

pub place_first : (fields : List Field) (name : List ℕ) (r : Option ℕ) (i : ℕ) (x : Field) → r ≡ place_of name fields → r ≡ Some i → slice_get fields i ≡ Some x → Some x ≡ first_named name_of fields name
place_first fields name r i x e is at =
    let found = found-from fields name 0 i (sym e ∙ is) in
    let none : i - 0 ≡ i = omega arith in
    sym (found.first ∙ ap (slice_get fields) none ∙ at)

pub place_missing : (fields : List Field) (name : List ℕ) (r : Option ℕ) → r ≡ place_of name fields → r ≡ None → first_named name_of fields name ≡ None
place_missing fields name r e none = missing-from fields name 0 (sym e ∙ none)

pub ruleset place_rules = (place_within, place_first, place_missing)
