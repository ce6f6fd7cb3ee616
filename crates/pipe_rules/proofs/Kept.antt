-- Cells and types under names that are kept.
use Rattle.std.proofs.Common.{◌≡◌, ℕ, Bool, true, false, cond, ◌||◌, List, [], ◌∷◌, map, Some, None, refl, ap, sym, ◌∙◌, subst}
use Rattle.std.specs.Prelude.{filter}
use Rattle.std.specs.Str.{bytes_eq}
use Rattle.std.specs.List.{AllByRecursion}
use Rattle.pipe_schema.specs.Rows.{Row, Same}
use Rattle.pipe_schema.specs.Schema.{has_name, names_of, first_repeated, first_unknown}
use Rattle.pipe_schema.specs.declared.field.Field.{Field}
use Rattle.pipe_expr.specs.Formula.{Formula}
use Rattle.pipe_expr.specs.Types.{columns_in, type_of, type_of_column}
use Rattle.pipe_expr.specs.Values.{value_of, named_cell}
use Rattle.pipe_expr.specs.Projections.{field_named, fields_named, row_named, known_type}
use Rattle.pipe_events.specs.Fits.{FitsRow, FitRows}
use Rattle.pipe_events.proofs.Lists.{all-filter}
use Rattle.pipe_rules.proofs.Filters.{all-of, all-both}
use Rattle.pipe_rules.proofs.Renamed.{value-same, type-same}
use Rattle.pipe_rules.proofs.Under.{cell_under, named-under, own-name, same-name, other-name, once-first, once-rest, each-known}
use Rattle.pipe_rules.proofs.Columns.{of-named}
use Rattle.pipe_rules.proofs.ColumnTypes.{named-type}
use Rattle.pipe_rules.specs.Needs.{Names}
use Rattle.pipe_rules.specs.Narrowed.{kept_names, narrow_fields, narrow_row}

-- ---- names

or-right : (a b : Bool) → b ≡ true → (a || b) ≡ true
or-right true b e = refl
or-right false b e = e

pub has-kept : (keep : Names) (names : List (List ℕ)) (name : List ℕ) → has_name names name ≡ true → keep name ≡ true → has_name (filter keep names) name ≡ true
has-kept keep [] name h k = cc
has-kept keep (n ∷ names) name h k =
    let split : (b c : Bool) → bytes_eq n name ≡ b → keep n ≡ c → (b || has_name names name) ≡ true → has_name (cond c (n ∷ filter keep names) (filter keep names)) name ≡ true = elim [
      | true ↦ elim [
        | true ↦ λ e f g. rw e refl
        | false ↦ λ e f g. (let yes : keep n ≡ true = ap keep (same-name n name e) ∙ k in cc)
      ]
      | false ↦ elim [
        | true ↦ λ e f g. or-right (bytes_eq n name) (has_name (filter keep names) name) (has-kept keep names name g k)
        | false ↦ λ e f g. has-kept keep names name g k
      ]
    ] in split (bytes_eq n name) (keep n) refl refl h

pub kept-has : (keep : Names) (names : List (List ℕ)) (name : List ℕ) → has_name (filter keep names) name ≡ true → (has_name names name ≡ true) × (keep name ≡ true)
kept-has keep [] name h = absurd (let no_ : false ≡ true = h in cc)
kept-has keep (n ∷ names) name h =
    let split : (b c : Bool) → bytes_eq n name ≡ b → keep n ≡ c → has_name (cond c (n ∷ filter keep names) (filter keep names)) name ≡ true → ((b || has_name names name) ≡ true) × (keep name ≡ true) = elim [
      | true ↦ elim [
        | true ↦ λ e f g. (refl, ap keep (sym (same-name n name e)) ∙ f)
        | false ↦ λ e f g. (refl, (kept-has keep names name g).1)
      ]
      | false ↦ elim [
        | true ↦ λ e f g. kept-has keep names name (sym (ap (λ b. b || has_name (filter keep names) name) e) ∙ g)
        | false ↦ λ e f g. kept-has keep names name g
      ]
    ] in split (bytes_eq n name) (keep n) refl refl h

not-kept : (keep : Names) (names : List (List ℕ)) (name : List ℕ) → has_name names name ≡ false → has_name (filter keep names) name ≡ false
not-kept keep names name out =
    let split : (b : Bool) → has_name (filter keep names) name ≡ b → b ≡ false = elim [
      | true ↦ λ e. (let yes = (kept-has keep names name e).0 in cc)
      | false ↦ λ e. refl
    ] in split (has_name (filter keep names) name) refl

-- names that stand once do so still
pub kept-once : (keep : Names) (names : List (List ℕ)) → first_repeated names ≡ None → first_repeated (filter keep names) ≡ None
kept-once keep [] once = refl
kept-once keep (n ∷ names) once =
    let rest = kept-once keep names (once-rest n names once) in
    elim (keep n) as (λ b. first_repeated (cond b (n ∷ filter keep names) (filter keep names)) ≡ None) [
      | true ↦ ap (λ b. cond b (Some n) (first_repeated (filter keep names))) (not-kept keep names n (once-first n names once)) ∙ rest
      | false ↦ rest
    ]

-- each of some names stands among them
pub all-in : (names : List (List ℕ)) → AllByRecursion (λ name. has_name names name ≡ true) names
all-in [] = tt
all-in (n ∷ names) = (
  (let own = own-name n in rw own refl),
  all-of (λ name. has_name names name ≡ true) (λ name. has_name (n ∷ names) name ≡ true) (λ name h. or-right (bytes_eq n name) (has_name names name) h) names (all-in names),
)

pub all-known : (fields : List Field) (names : List (List ℕ)) → AllByRecursion (λ name. has_name (names_of fields) name ≡ true) names → first_unknown fields names ≡ None
all-known fields [] h = refl
all-known fields (name ∷ names) h = ap (λ b. cond b (first_unknown fields names) (Some name)) h.0 ∙ all-known fields names h.1

pub kept-known : (keep : Names) (s : List Field) → first_unknown s (kept_names keep s) ≡ None
kept-known keep s = all-known s (kept_names keep s) (all-filter (λ name. has_name (names_of s) name ≡ true) keep (names_of s) (all-in (names_of s)))

pub names-named : (s : List Field) (columns : List (List ℕ)) → names_of (fields_named s columns) ≡ columns
names-named s [] = refl
names-named s (column ∷ columns) = ap (λ l. column ∷ l) (names-named s columns)

pub has-named : (s : List Field) (columns : List (List ℕ)) (name : List ℕ) → has_name columns name ≡ true → has_name (names_of (fields_named s columns)) name ≡ true
has-named s columns name h = ap (λ l. has_name l name) (names-named s columns) ∙ h

pub map-all : {A B : Type 0} (f g : A → B) (xs : List A) → AllByRecursion (λ x. f x ≡ g x) xs → map f xs ≡ map g xs
map-all f g [] h = refl
map-all f g (x ∷ xs) h = ap (λ y. y ∷ map f xs) h.0 ∙ ap (λ l. g x ∷ l) (map-all f g xs h.1)

-- ---- cells and types

-- a name that is kept, and is there
pub record IsThere (keep : Names) (s : List Field) (name : List ℕ) : Type 0 where
  pub kept : keep name ≡ true
  pub there : has_name (names_of s) name ≡ true

module _ (keep : Names) (s : List Field) where
  pub narrow-has : (name : List ℕ) → IsThere keep s name → has_name (names_of (narrow_fields keep s)) name ≡ true
  narrow-has name h = has-named s (kept_names keep s) name (has-kept keep (names_of s) name h.there h.kept)

  pub narrow-cell : (row : Row) (name : List ℕ) → IsThere keep s name → named_cell (narrow_fields keep s) (narrow_row keep s row) name ≡ named_cell s row name
  narrow-cell row name h = named-under name (narrow_fields keep s) (narrow_row keep s row) ∙ of-named name s row (kept_names keep s) (narrow-has name h)

  pub narrow-type : (name : List ℕ) → IsThere keep s name → type_of_column name (narrow_fields keep s) ≡ type_of_column name s
  narrow-type name h = named-type name s (kept_names keep s) (kept-known keep s) (narrow-has name h)

  pub narrow-value : (row : Row) (f : Formula) → AllByRecursion (IsThere keep s) (columns_in f) → value_of f (narrow_fields keep s) (narrow_row keep s row) ≡ value_of f s row
  narrow-value row f h = value-same f (narrow_fields keep s) (narrow_row keep s row) s row (all-of (IsThere keep s) (λ name. named_cell (narrow_fields keep s) (narrow_row keep s row) name ≡ named_cell s row name) (narrow-cell row) (columns_in f) h)

  pub narrow-formula : (f : Formula) → AllByRecursion (IsThere keep s) (columns_in f) → type_of f (narrow_fields keep s) ≡ type_of f s
  narrow-formula f h = type-same f (narrow_fields keep s) s (all-of (IsThere keep s) (λ name. type_of_column name (narrow_fields keep s) ≡ type_of_column name s) narrow-type (columns_in f) h)

  -- names that are read are kept
  pub there-all : (names : List (List ℕ)) → ((name : List ℕ) → has_name (names_of s) name ≡ true → has_name names name ≡ true → keep name ≡ true) → first_unknown s names ≡ None → AllByRecursion (IsThere keep s) names
  there-all names h known =
      all-of (λ name. (has_name (names_of s) name ≡ true) × (has_name names name ≡ true)) (IsThere keep s)
      (λ name both. record { kept = h name both.0 both.1; there = both.0 })
      names (all-both (λ name. has_name (names_of s) name ≡ true) (λ name. has_name names name ≡ true) names (each-known s names known) (all-in names))

-- ---- rows as far as some names go

pub same-fields : (names : List (List ℕ)) (s t : List Field) → AllByRecursion (λ name. type_of_column name t ≡ type_of_column name s) names → fields_named t names ≡ fields_named s names
same-fields names s t h = map-all (field_named t) (field_named s) names (all-of (λ name. type_of_column name t ≡ type_of_column name s) (λ name. field_named t name ≡ field_named s name) (λ name e. ap (λ o. record { name = name; dtype = known_type o }) e) names h)

pub same-row : (names : List (List ℕ)) (s t : List Field) (row other : Row) → AllByRecursion (λ name. named_cell t other name ≡ named_cell s row name) names → row_named t names other ≡ row_named s names row
same-row names s t row other h = map-all (named_cell t other) (named_cell s row) names h

pub same-list : (a b : List Row) → a ≡ b → Same a b
same-list a b e = subst (Same a) e (record { each = λ row. refl })

-- rows one by one
pub map-maps : {A : Type 0} (P : A → Type 0) (f : Row → Row) (g : Row → Row) (h k : A → Row) (xs : List A) → ((x : A) → P x → f (h x) ≡ g (k x)) → AllByRecursion P xs → map f (map h xs) ≡ map g (map k xs)
map-maps P f g h k [] same all = refl
map-maps P f g h k (x ∷ xs) same all = ap (λ y. y ∷ map f (map h xs)) (same x all.0) ∙ ap (λ l. g (k x) ∷ l) (map-maps P f g h k xs same all.1)

pub map-own : {A : Type 0} (xs : List A) → map (λ x. x) xs ≡ xs
map-own [] = refl
map-own (x ∷ xs) = ap (λ l. x ∷ l) (map-own xs)

-- ---- all columns

pub fields-in : (fields part : List Field) → AllByRecursion (λ name. has_name (names_of fields) name ≡ true) (names_of part) → AllByRecursion (λ f. has_name (names_of fields) f.name ≡ true) part
fields-in fields [] h = tt
fields-in fields (f ∷ part) h = (h.0, fields-in fields part h.1)

pub own-types : (s : List Field) → first_repeated (names_of s) ≡ None → AllByRecursion (λ f. type_of_column f.name s ≡ Some f.dtype) s
own-types [] once = tt
own-types (field ∷ fields) once = (
  (let own = own-name field.name in rw own refl),
  all-of (λ f. (type_of_column f.name fields ≡ Some f.dtype) × (has_name (names_of fields) f.name ≡ true)) (λ f. type_of_column f.name (field ∷ fields) ≡ Some f.dtype)
      (λ f both. (let apart = other-name (names_of fields) field.name f.name (once-first field.name (names_of fields) once) both.1 in rw apart both.0))
      fields
      (all-both (λ f. type_of_column f.name fields ≡ Some f.dtype) (λ f. has_name (names_of fields) f.name ≡ true) fields (own-types fields (once-rest field.name (names_of fields) once)) (fields-in fields fields (all-in (names_of fields)))),
)

pub all-true : (keep : Names) (names : List (List ℕ)) → AllByRecursion (λ name. keep name ≡ true) names → filter keep names ≡ names
all-true keep [] h = refl
all-true keep (n ∷ names) h = ap (λ b. cond b (n ∷ filter keep names) (filter keep names)) h.0 ∙ ap (λ l. n ∷ l) (all-true keep names h.1)

pub named-own : (s part : List Field) → AllByRecursion (λ f. type_of_column f.name s ≡ Some f.dtype) part → fields_named s (names_of part) ≡ part
named-own s [] h = refl
named-own s (f ∷ part) h =
    ap (λ o. record { name = f.name; dtype = known_type o } ∷ fields_named s (names_of part)) h.0
    ∙ ap (λ l. f ∷ l) (named-own s part h.1)

cells-own : (s : List Field) (row : Row) → first_repeated (names_of s) ≡ None → FitsRow s row → map (λ name. cell_under name s row) (names_of s) ≡ row
cells-own [] [] once fits = refl
cells-own [] (c ∷ row) once fits = absurd fits
cells-own (field ∷ fields) [] once fits = absurd fits
cells-own (field ∷ fields) (c ∷ row) once fits =
    let own = own-name field.name in
    let rest = map-all (λ name. cell_under name (field ∷ fields) (c ∷ row)) (λ name. cell_under name fields row) (names_of fields)
    (all-of (λ name. has_name (names_of fields) name ≡ true) (λ name. cell_under name (field ∷ fields) (c ∷ row) ≡ cell_under name fields row)
    (λ name h. (let apart = other-name (names_of fields) field.name name (once-first field.name (names_of fields) once) h in rw apart refl))
    (names_of fields) (all-in (names_of fields))) in
    ap (λ b. cond b c (cell_under field.name fields row) ∷ map (λ name. cell_under name (field ∷ fields) (c ∷ row)) (names_of fields)) own
    ∙ ap (λ l. c ∷ l) (rest ∙ cells-own fields row (once-rest field.name (names_of fields) once) fits.1)

module _ (keep : Names) (s : List Field) (once : first_repeated (names_of s) ≡ None) (whole : (name : List ℕ) → has_name (names_of s) name ≡ true → keep name ≡ true) where
  all-kept : kept_names keep s ≡ names_of s
  all-kept = all-true keep (names_of s) (all-of (λ name. has_name (names_of s) name ≡ true) (λ name. keep name ≡ true) whole (names_of s) (all-in (names_of s)))

  pub whole-fields : narrow_fields keep s ≡ s
  whole-fields = ap (fields_named s) all-kept ∙ named-own s s (own-types s once)

  whole-row : (row : Row) → FitsRow s row → narrow_row keep s row ≡ row
  whole-row row fits =
      ap (λ l. row_named s l row) all-kept
      ∙ map-all (named_cell s row) (λ name. cell_under name s row) (names_of s) (all-of (λ name. has_name (names_of s) name ≡ true) (λ name. named_cell s row name ≡ cell_under name s row) (λ name _. named-under name s row) (names_of s) (all-in (names_of s)))
      ∙ cells-own s row once fits

  pub whole-rows : (rows : List Row) → FitRows s rows → map (narrow_row keep s) rows ≡ rows
  whole-rows [] fits = refl
  whole-rows (row ∷ rows) fits = ap (λ r. r ∷ map (narrow_row keep s) rows) (whole-row row fits.0) ∙ ap (λ l. row ∷ l) (whole-rows rows fits.1)
