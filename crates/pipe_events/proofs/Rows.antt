-- What projections, functions and joins make of rows that fit their schemas fits theirs.
use Rattle.std.proofs.Common.{◌≡◌, ℕ, Bool, true, false, cond, List, [], ◌∷◌, ◌++◌, map, refl, ap, sym, ◌∙◌, subst, Option, Some, None}
use Rattle.std.specs.Prelude.{filter, not, is_none, ◌&&◌}
use Rattle.std.specs.List.{AllByRecursion, list_any}
use Rattle.std.specs.Str.{bytes_eq}
use Rattle.std.specs.Cmp.Lexicographic.{pointwise, bytes_decides}
use Rattle.pipe_schema.specs.Cell.{eq_dtype, fits_dtype}
use Rattle.pipe_schema.specs.Rows.{Row}
use Rattle.pipe_schema.specs.Schema.{has_name, names_of, first_repeated}
use Rattle.pipe_schema.specs.declared.any_value.AnyValue.TheVariants as cell
use Rattle.pipe_schema.specs.declared.data_type.DataType.{DataType}
use Rattle.pipe_schema.specs.declared.data_type.DataType.TheVariants as dtype
use Rattle.pipe_schema.specs.declared.field.Field.{Field}
use Rattle.pipe_expr.specs.Formula.{Formula, NamedFormula, Column}
use Rattle.pipe_expr.specs.Types.{type_of, type_of_column}
use Rattle.pipe_expr.specs.Values.{value_of, named_cell}
use Rattle.pipe_expr.specs.Projections.{known_type, fields_named, row_named, expr_field, expr_cell, select_fields, select_row, expr_named, is_new, new_exprs, replaced_field, stacked_field, hstack_fields, replaced_cell, stacked_cell, hstack_row, renamed_field, function_fields, unpivoted_row, function_rows}
use Rattle.pipe_expr.specs.Joins.{Join, is_kept, suffixed, pair_fields, join_fields, makes_pairs, kept_cells, null_of, pair, pad_left, pad_right, partner_cell, left_padding, matches, pairs_of, pairs, has_right_match, lacks_right_match, lacks_left_match, unmatched_left, unmatched_right, rows_by, join_rows}
use Rattle.pipe_expr.specs.declared.join_words.JoinType.{JoinType}
use Rattle.pipe_expr.specs.declared.join_words.JoinType.TheVariants as how
use Rattle.pipe_expr.specs.declared.join_words.RenamePair.{RenamePair}
use Rattle.pipe_expr.specs.declared.join_words.FunctionIR.{FunctionIR}
use Rattle.pipe_expr.specs.declared.join_words.FunctionIR.TheVariants as function
use Rattle.pipe_plan.specs.Faults.{is_named_untyped, eq_types, keys_differ, is_mistyped_function, eq_field}
use Rattle.pipe_events.specs.Fits.{FitsRow, FitRows}
use Rattle.pipe_events.proofs.Cells.{Typed, named-fits, value-typed, value-fits}
use Rattle.pipe_events.proofs.Lists.{all-append, all-map, all-flat, all-filter, or-first, or-second}

pub same-dtype : (a b : DataType) → eq_dtype a b ≡ true → a ≡ b
same-dtype dtype.Int32 dtype.Int32 e = refl
same-dtype dtype.Int64 dtype.Int64 e = refl
same-dtype dtype.UInt32 dtype.UInt32 e = refl
same-dtype dtype.UInt64 dtype.UInt64 e = refl
same-dtype dtype.Boolean dtype.Boolean e = refl
same-dtype dtype.String dtype.String e = refl
same-dtype dtype.Binary dtype.Binary e = refl
same-dtype dtype.Int128 dtype.Int128 e = refl
same-dtype _ _ e = cc

not-false : (b : Bool) → not b ≡ false → b ≡ true
not-false true e = refl
not-false false e = cc

and-first : (a b : Bool) → (a && b) ≡ true → a ≡ true
and-first true b e = refl
and-first false b e = cc

and-second : (a b : Bool) → (a && b) ≡ true → b ≡ true
and-second true b e = e
and-second false b e = cc

pub row-append : (f g : List Field) (a b : Row) → FitsRow f a → FitsRow g b → FitsRow (f ++ g) (a ++ b)
row-append [] g [] b ha hb = hb
row-append [] g (_ ∷ _) b ha hb = absurd ha
row-append (_ ∷ _) g [] b ha hb = absurd ha
row-append (field ∷ f) g (c ∷ a) b ha hb = (ha.0, row-append f g a b ha.1 hb)

-- ---- projections

pub named-row : (fields : List Field) (names : List (List ℕ)) (row : Row) → FitsRow fields row → FitsRow (fields_named fields names) (row_named fields names row)
named-row fields [] row h = tt
named-row fields (name ∷ names) row h = (named-fits name fields row h, named-row fields names row h)

pub selected-row : (fields : List Field) (exprs : List NamedFormula) (row : Row) → list_any (is_named_untyped fields) exprs ≡ false → FitsRow fields row → FitsRow (select_fields fields exprs) (select_row fields exprs row)
selected-row fields [] row typed h = tt
selected-row fields (e ∷ exprs) row typed h = (value-fits e.formula fields row h (or-first (is_named_untyped fields e) (list_any (is_named_untyped fields) exprs) typed), selected-row fields exprs row (or-second (is_named_untyped fields e) (list_any (is_named_untyped fields) exprs) typed) h)

-- the type under each name of a part of a schema
abbrev pub Owns : List Field → List Field → Type 0
Owns fields part = AllByRecursion (λ field. type_of_column field.name fields ≡ Some field.dtype) part

apart : (a b : List ℕ) → bytes_eq a b ≡ false → bytes_eq b a ≡ false
apart a b e =
    let split : (t : Bool) → bytes_eq b a ≡ t → t ≡ false = elim [
      | true ↦ λ f. (let same = (bytes_decides b a).0 f in let yes = (bytes_decides a b).1 (sym same) in cc)
      | false ↦ λ f. refl
    ]
    in split (bytes_eq b a) refl

owns-more : (first : Field) (fields part : List Field) → has_name (names_of part) first.name ≡ false → Owns fields part → Owns (first ∷ fields) part
owns-more first fields [] e h = tt
owns-more first fields (field ∷ part) e h =
    let other : bytes_eq first.name field.name ≡ false = apart field.name first.name (or-first (bytes_eq field.name first.name) (has_name (names_of part) first.name) e) in
    (rw other h.0, owns-more first fields part (or-second (bytes_eq field.name first.name) (has_name (names_of part) first.name) e) h.1)

unrepeated : (b : Bool) (name : List ℕ) (rest : Option (List ℕ)) → cond b (Some name) rest ≡ None → (b ≡ false) × (rest ≡ None)
unrepeated true name rest e = cc
unrepeated false name rest e = (refl, e)

-- where no name stands twice
pub owns-all : (fields : List Field) → first_repeated (names_of fields) ≡ None → Owns fields fields
owns-all [] e = tt
owns-all (field ∷ fields) e =
    let both = unrepeated (has_name (names_of fields) field.name) field.name (first_repeated (names_of fields)) e in
    let self : bytes_eq field.name field.name ≡ true = (bytes_decides field.name field.name).1 refl in
    (rw self refl, owns-more field fields fields both.0 (owns-all fields both.1))

own-fits : (fields : List Field) (row : Row) (field : Field) → FitsRow fields row → type_of_column field.name fields ≡ Some field.dtype → fits_dtype field.dtype (named_cell fields row field.name) ≡ true
own-fits fields row field h own = subst (λ t. fits_dtype (known_type t) (named_cell fields row field.name) ≡ true) own (named-fits field.name fields row h)

found-typed : (fields : List Field) (exprs : List NamedFormula) (name : List ℕ) (e : NamedFormula) → list_any (is_named_untyped fields) exprs ≡ false → expr_named exprs name ≡ Some e → is_none (type_of e.formula fields) ≡ false
found-typed fields [] name e typed is = cc
found-typed fields (first ∷ exprs) name e typed is =
    let split : (b : Bool) → cond b (Some first) (expr_named exprs name) ≡ Some e → is_none (type_of e.formula fields) ≡ false = elim [
      | true ↦ λ f. (let same : first ≡ e = cc in subst (λ x. is_none (type_of x.formula fields) ≡ false) same (or-first (is_named_untyped fields first) (list_any (is_named_untyped fields) exprs) typed))
      | false ↦ λ f. found-typed fields exprs name e (or-second (is_named_untyped fields first) (list_any (is_named_untyped fields) exprs) typed) f
    ]
    in split (bytes_eq first.name name) is

stacked-row : (fields : List Field) (exprs : List NamedFormula) (row : Row) → list_any (is_named_untyped fields) exprs ≡ false → FitsRow fields row → (part : List Field) → Owns fields part → FitsRow (map (stacked_field fields exprs) part) (map (stacked_cell fields exprs row) part)
stacked-row fields exprs row typed h [] own = tt
stacked-row fields exprs row typed h (field ∷ part) own =
    let split : (o : Option NamedFormula) → expr_named exprs field.name ≡ o → fits_dtype (replaced_field fields field o).dtype (replaced_cell fields row field.name o) ≡ true = elim [
      | None ↦ λ is. own-fits fields row field h own.0
      | Some e ↦ λ is. value-fits e.formula fields row h (found-typed fields exprs field.name e typed is)
    ]
    in (split (expr_named exprs field.name) refl, stacked-row fields exprs row typed h part own.1)

filter-typed : (fields : List Field) (test : NamedFormula → Bool) (exprs : List NamedFormula) → list_any (is_named_untyped fields) exprs ≡ false → list_any (is_named_untyped fields) (filter test exprs) ≡ false
filter-typed fields test [] typed = refl
filter-typed fields test (e ∷ exprs) typed =
    let here = or-first (is_named_untyped fields e) (list_any (is_named_untyped fields) exprs) typed in
    let rest = filter-typed fields test exprs (or-second (is_named_untyped fields e) (list_any (is_named_untyped fields) exprs) typed) in
    elim (test e) as (λ b. list_any (is_named_untyped fields) (cond b (e ∷ filter test exprs) (filter test exprs)) ≡ false) [ true ↦ rw here rest | false ↦ rest ]

pub hstack-row : (fields : List Field) (exprs : List NamedFormula) (row : Row) → list_any (is_named_untyped fields) exprs ≡ false → first_repeated (names_of fields) ≡ None → FitsRow fields row → FitsRow (hstack_fields fields exprs) (hstack_row fields exprs row)
hstack-row fields exprs row typed once h =
    row-append (map (stacked_field fields exprs) fields) (map (expr_field fields) (new_exprs fields exprs)) (map (stacked_cell fields exprs row) fields) (map (expr_cell fields row) (new_exprs fields exprs))
    (stacked-row fields exprs row typed h fields (owns-all fields once))
    (selected-row fields (new_exprs fields exprs) row (filter-typed fields (is_new fields) exprs typed) h)

-- ---- functions

same-types : (a b : Option DataType) → eq_types a b ≡ true → a ≡ b
same-types None None e = cc
same-types None (Some b) e = cc
same-types (Some a) None e = cc
same-types (Some a) (Some b) e = ap Some (same-dtype a b e)

unpivoted : (fields : List Field) (index : List (List ℕ)) (variable value : List ℕ) (t : Option DataType) (row : Row) → FitsRow fields row → (on : List (List ℕ)) → list_any (λ n. not (eq_types t (type_of_column n fields))) on ≡ false → FitRows (fields_named fields index ++ record { name = variable; dtype = dtype.String } ∷ record { name = value; dtype = known_type t } ∷ []) (map (unpivoted_row fields index row) on)
unpivoted fields index variable value t row h [] e = tt
unpivoted fields index variable value t row h (name ∷ on) e =
    let same : t ≡ type_of_column name fields = same-types t (type_of_column name fields) (not-false (eq_types t (type_of_column name fields)) (or-first (not (eq_types t (type_of_column name fields))) _ e)) in
    let last : fits_dtype (known_type t) (named_cell fields row name) ≡ true = subst (λ s. fits_dtype (known_type s) (named_cell fields row name) ≡ true) (sym same) (named-fits name fields row h) in (
      row-append (fields_named fields index) (record { name = variable; dtype = dtype.String } ∷ record { name = value; dtype = known_type t } ∷ []) (row_named fields index row) (cell.String name ∷ named_cell fields row name ∷ []) (named-row fields index row h) (refl, (last, tt)),
      unpivoted fields index variable value t row h on (or-second (not (eq_types t (type_of_column name fields))) _ e),
    )

renamed-row : (pairs : List RenamePair) (fields : List Field) (row : Row) → FitsRow fields row → FitsRow (map (renamed_field pairs) fields) row
renamed-row pairs [] row h = h
renamed-row pairs (field ∷ fields) [] h = absurd h
renamed-row pairs (field ∷ fields) (c ∷ row) h = (h.0, renamed-row pairs fields row h.1)

first-unpivoted : (fields : List Field) (index : List (List ℕ)) (variable value name : List ℕ) (row : Row) → FitsRow fields row → FitsRow (fields_named fields index ++ record { name = variable; dtype = dtype.String } ∷ record { name = value; dtype = known_type (type_of_column name fields) } ∷ []) (unpivoted_row fields index row name)
first-unpivoted fields index variable value name row h = row-append (fields_named fields index) (record { name = variable; dtype = dtype.String } ∷ record { name = value; dtype = known_type (type_of_column name fields) } ∷ []) (row_named fields index row) (cell.String name ∷ named_cell fields row name ∷ []) (named-row fields index row h) (refl, (named-fits name fields row h, tt))

pub function-rows : (f : FunctionIR) (fields : List Field) (row : Row) → is_mistyped_function fields f ≡ false → FitsRow fields row → FitRows (function_fields f fields) (function_rows f fields row)
function-rows (function.Unpivot [] index variable value) fields row e h = tt
function-rows (function.Unpivot (name ∷ on) index variable value) fields row e h = (first-unpivoted fields index variable value name row h, unpivoted fields index variable value (type_of_column name fields) row h on e)
function-rows (function.Rename pairs) fields row e h = (renamed-row pairs fields row h, tt)

-- ---- unions

pub united-row : (f g : List Field) (row : Row) → pointwise eq_field f g ≡ true → FitsRow g row → FitsRow f row
united-row [] [] row e h = h
united-row [] (_ ∷ _) row e h = cc
united-row (_ ∷ _) [] row e h = cc
united-row (a ∷ f) (b ∷ g) [] e h = absurd h
united-row (a ∷ f) (b ∷ g) (c ∷ row) e h =
    let here : eq_field a b ≡ true = and-first (eq_field a b) (pointwise eq_field f g) e in
    let same : a.dtype ≡ b.dtype = same-dtype a.dtype b.dtype (and-second (bytes_eq a.name b.name) (eq_dtype a.dtype b.dtype) here) in
    (subst (λ t. fits_dtype t c ≡ true) (sym same) h.0, united-row f g row (and-second (eq_field a b) (pointwise eq_field f g) e) h.1)

-- ---- joins

module _ (j : Join) where
  kept-row : (fields : List Field) (row : Row) → FitsRow fields row → FitsRow (map (suffixed j) (filter (is_kept j) fields)) (kept_cells (is_kept j) fields row)
  kept-row [] [] h = tt
  kept-row [] (_ ∷ _) h = absurd h
  kept-row (field ∷ fields) [] h = absurd h
  kept-row (field ∷ fields) (c ∷ row) h =
      let rest = kept-row fields row h.1 in
      elim (is_kept j field) as (λ b. FitsRow (map (suffixed j) (cond b (field ∷ filter (is_kept j) fields) (filter (is_kept j) fields))) (cond b (c ∷ kept_cells (is_kept j) fields row) (kept_cells (is_kept j) fields row))) [ true ↦ (h.0, rest) | false ↦ rest ]

  nulls-row : (fields : List Field) → FitsRow (map (suffixed j) fields) (map null_of fields)
  nulls-row [] = tt
  nulls-row (field ∷ fields) = (refl, nulls-row fields)

  partner-fits : (r : Row) → FitsRow j.right r → (name : List ℕ) (t : DataType) → type_of_column name j.left ≡ Some t → (left_on right_on : List Formula) → keys_differ j.left j.right left_on right_on ≡ false → fits_dtype t (partner_cell j.right r left_on right_on name) ≡ true
  partner-fits r h name t own [] right_on e = refl
  partner-fits r h name t own (Column n ∷ left_on) [] e = refl
  partner-fits r h name t own (Column n ∷ left_on) (on ∷ right_on) e =
      let here = not-false (eq_types (type_of_column n j.left) (type_of on j.right)) (or-first (not (eq_types (type_of_column n j.left) (type_of on j.right))) (keys_differ j.left j.right left_on right_on) e) in
      let rest = or-second (not (eq_types (type_of_column n j.left) (type_of on j.right))) (keys_differ j.left j.right left_on right_on) e in
      let split : (b : Bool) → bytes_eq n name ≡ b → fits_dtype t (cond b (value_of on j.right r) (partner_cell j.right r left_on right_on name)) ≡ true = elim [
        | true ↦ λ is.
            let same : type_of on j.right ≡ Some t = sym (same-types (type_of_column n j.left) (type_of on j.right) here) ∙ ap (λ m. type_of_column m j.left) ((bytes_decides n name).0 is) ∙ own in
            subst (λ s. Typed s (value_of on j.right r)) same (value-typed on j.right r h)
        | false ↦ λ is. partner-fits r h name t own left_on right_on rest
      ]
      in split (bytes_eq n name) refl
  partner-fits r h name t own (l ∷ left_on) [] e = refl
  partner-fits r h name t own (l ∷ left_on) (on ∷ right_on) e = partner-fits r h name t own left_on right_on (or-second (not (eq_types (type_of l j.left) (type_of on j.right))) (keys_differ j.left j.right left_on right_on) e)

  padding-row : (r : Row) → FitsRow j.right r → keys_differ j.left j.right j.left_on j.right_on ≡ false → (part : List Field) → Owns j.left part → FitsRow part (map (left_padding j r) part)
  padding-row r h e [] own = tt
  padding-row r h e (field ∷ part) own =
      let here : fits_dtype field.dtype (left_padding j r field) ≡ true = elim j.coalesced as (λ b. fits_dtype field.dtype (cond b (partner_cell j.right r j.left_on j.right_on field.name) cell.Null) ≡ true) [ true ↦ partner-fits r h field.name field.dtype own.0 j.left_on j.right_on e | false ↦ refl ] in
      (here, padding-row r h e part own.1)

  pair-row : (l r : Row) → FitsRow j.left l → FitsRow j.right r → FitsRow (pair_fields j) (pair j l r)
  pair-row l r hl hr = row-append j.left (map (suffixed j) (filter (is_kept j) j.right)) l (kept_cells (is_kept j) j.right r) hl (kept-row j.right r hr)

  left-row : (l : Row) → FitsRow j.left l → FitsRow (pair_fields j) (pad_left j l)
  left-row l hl = row-append j.left (map (suffixed j) (filter (is_kept j) j.right)) l (map null_of (filter (is_kept j) j.right)) hl (nulls-row (filter (is_kept j) j.right))

  module _ (left right : List Row) (hl : FitRows j.left left) (hr : FitRows j.right right) where
    pairs-fit : FitRows (pair_fields j) (pairs j left right)
    pairs-fit = all-flat (FitsRow j.left) (FitsRow (pair_fields j)) (pairs_of j right) (λ l h. all-map (FitsRow j.right) (FitsRow (pair_fields j)) (pair j l) (λ r k. pair-row l r h k) (filter (matches j l) right) (all-filter (FitsRow j.right) (matches j l) right hr)) left hl

    lefts-fit : FitRows (pair_fields j) (map (pad_left j) (unmatched_left j left right))
    lefts-fit = all-map (FitsRow j.left) (FitsRow (pair_fields j)) (pad_left j) left-row (unmatched_left j left right) (all-filter (FitsRow j.left) (lacks_right_match j right) left hl)

    module _ (once : first_repeated (names_of j.left) ≡ None) (keys : keys_differ j.left j.right j.left_on j.right_on ≡ false) where
      rights-fit : FitRows (pair_fields j) (map (pad_right j) (unmatched_right j left right))
      rights-fit = all-map (FitsRow j.right) (FitsRow (pair_fields j)) (pad_right j) (λ r h. row-append j.left (map (suffixed j) (filter (is_kept j) j.right)) (map (left_padding j r) j.left) (kept_cells (is_kept j) j.right r) (padding-row r h keys j.left (owns-all j.left once)) (kept-row j.right r h)) (unmatched_right j left right) (all-filter (FitsRow j.right) (lacks_left_match j left) right hr)

      by-kind : (kind : JoinType) → FitRows (cond (makes_pairs kind) (pair_fields j) j.left) (rows_by kind j left right)
      by-kind how.Inner = pairs-fit
      by-kind how.Left = all-append (FitsRow (pair_fields j)) (pairs j left right) (map (pad_left j) (unmatched_left j left right)) pairs-fit lefts-fit
      by-kind how.Full = all-append (FitsRow (pair_fields j)) (pairs j left right ++ map (pad_left j) (unmatched_left j left right)) (map (pad_right j) (unmatched_right j left right)) (all-append (FitsRow (pair_fields j)) (pairs j left right) (map (pad_left j) (unmatched_left j left right)) pairs-fit lefts-fit) rights-fit
      by-kind how.Cross = pairs-fit
      by-kind how.Semi = all-filter (FitsRow j.left) (has_right_match j right) left hl
      by-kind how.Anti = all-filter (FitsRow j.left) (lacks_right_match j right) left hl

      pub joined-rows : FitRows (join_fields j) (join_rows j left right)
      joined-rows = by-kind j.how
