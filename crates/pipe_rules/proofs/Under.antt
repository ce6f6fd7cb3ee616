-- The cell and the type under a name, along a row and its fields.
use Rattle.std.proofs.Common.{◌≡◌, ℕ, zero, suc, ◌+◌, Bool, true, false, cond, List, [], ◌∷◌, Option, Some, None, refl, ap, sym, ◌∙◌, subst, arith}
use Rattle.std.specs.Prelude.{◌||◌, if◌then◌else◌}
use Rattle.std.specs.Str.{bytes_eq}
use Rattle.std.specs.List.{AllByRecursion}
use Rattle.std.specs.Cmp.Lexicographic.{bytes_decides}
use Rattle.pipe_schema.specs.Rows.{Row}
use Rattle.pipe_schema.specs.Schema.{has_name, names_of, first_repeated, first_unknown, place_from}
use Rattle.pipe_column.specs.Series.{cell_at}
use Rattle.pipe_schema.specs.declared.any_value.AnyValue.{AnyValue}
use Rattle.pipe_schema.specs.declared.any_value.AnyValue.TheVariants as cell
use Rattle.pipe_schema.specs.declared.field.Field.{Field}
use Rattle.pipe_expr.specs.Values.{cell_there, named_cell}

-- the cell under the first field of a name
abbrev pub cell_under : List ℕ → List Field → Row → AnyValue
cell_under name [] row = cell.Null
cell_under name (field ∷ fields) [] = cell.Null
cell_under name (field ∷ fields) (c ∷ row) = if bytes_eq field.name name then c else cell_under name fields row

no-cell : (i : ℕ) → cell_at [] i ≡ cell.Null
no-cell zero = refl
no-cell (suc i) = refl

none-under : (name : List ℕ) (fields : List Field) → cell_under name fields [] ≡ cell.Null
none-under name [] = refl
none-under name (field ∷ fields) = refl

from-place : (name : List ℕ) (fields : List Field) (row whole : Row) (n : ℕ) → ((i : ℕ) → cell_at whole (n + i) ≡ cell_at row i) → cell_there whole (place_from n name fields) ≡ cell_under name fields row
from-place name [] row whole n at = refl
from-place name (field ∷ fields) [] whole n at =
    elim (bytes_eq field.name name) as (λ b. cell_there whole (cond b (Some n) (place_from (n + 1) name fields)) ≡ cell.Null) [
      | true ↦ ap (cell_at whole) (let e : n ≡ n + 0 = omega arith in e) ∙ at 0 ∙ no-cell 0
      | false ↦ from-place name fields [] whole (n + 1) (λ i. ap (cell_at whole) (let e : n + 1 + i ≡ n + suc i = omega arith in e) ∙ at (suc i) ∙ no-cell (suc i) ∙ sym (no-cell i)) ∙ none-under name fields
    ]
from-place name (field ∷ fields) (c ∷ row) whole n at =
    elim (bytes_eq field.name name) as (λ b. cell_there whole (cond b (Some n) (place_from (n + 1) name fields)) ≡ cond b c (cell_under name fields row)) [
      | true ↦ ap (cell_at whole) (let e : n ≡ n + 0 = omega arith in e) ∙ at 0
      | false ↦ from-place name fields row whole (n + 1) (λ i. ap (cell_at whole) (let e : n + 1 + i ≡ n + suc i = omega arith in e) ∙ at (suc i))
    ]

pub named-under : (name : List ℕ) (fields : List Field) (row : Row) → named_cell fields row name ≡ cell_under name fields row
named-under name fields row = from-place name fields row row 0 (λ i. ap (cell_at row) (let e : 0 + i ≡ i = omega arith in e))

pub own-name : (name : List ℕ) → bytes_eq name name ≡ true
own-name name = (bytes_decides name name).1 refl

pub same-name : (a b : List ℕ) → bytes_eq a b ≡ true → a ≡ b
same-name a b e = (bytes_decides a b).0 e

-- a name that stands among some isn't one that doesn't
pub other-name : (names : List (List ℕ)) (a b : List ℕ) → has_name names a ≡ false → has_name names b ≡ true → bytes_eq a b ≡ false
other-name names a b out inside =
    let split : (t : Bool) → bytes_eq a b ≡ t → t ≡ false = elim [
      | true ↦ λ e. (let same : a ≡ b = same-name a b e in let here : has_name names a ≡ true = subst (λ n. has_name names n ≡ true) (sym same) inside in cc)
      | false ↦ λ e. refl
    ]
    in split (bytes_eq a b) refl

unrepeated : (b : Bool) (name : List ℕ) (rest : Option (List ℕ)) → cond b (Some name) rest ≡ None → (b ≡ false) × (rest ≡ None)
unrepeated true name rest e = cc
unrepeated false name rest e = (refl, e)

pub once-first : (name : List ℕ) (names : List (List ℕ)) → first_repeated (name ∷ names) ≡ None → has_name names name ≡ false
once-first name names e = (unrepeated (has_name names name) name (first_repeated names) e).0

pub once-rest : (name : List ℕ) (names : List (List ℕ)) → first_repeated (name ∷ names) ≡ None → first_repeated names ≡ None
once-rest name names e = (unrepeated (has_name names name) name (first_repeated names) e).1

-- a name among a first and others that isn't the first
pub in-rest : (b : Bool) (rest : Bool) → b ≡ false → (b || rest) ≡ true → rest ≡ true
in-rest true rest e h = cc
in-rest false rest e h = h

pub known-both : (b : Bool) (name : List ℕ) (rest : Option (List ℕ)) → cond b rest (Some name) ≡ None → (b ≡ true) × (rest ≡ None)
known-both true name rest e = (refl, e)
known-both false name rest e = cc

-- each of some names that are known is a field's
pub each-known : (fields : List Field) (names : List (List ℕ)) → first_unknown fields names ≡ None → AllByRecursion (λ name. has_name (names_of fields) name ≡ true) names
each-known fields [] e = tt
each-known fields (name ∷ names) e =
    let b = known-both (has_name (names_of fields) name) name (first_unknown fields names) e in
    (b.0, each-known fields names b.1)
