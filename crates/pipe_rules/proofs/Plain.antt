-- Nodes of one input, over an input that is narrowed.
use Rattle.std.proofs.Common.{◌≡◌, ℕ, Bool, true, false, cond, ◌||◌, List, [], ◌∷◌, ◌++◌, map, Option, Some, None, refl, ap, sym, ◌∙◌, subst}
use Rattle.std.specs.Prelude.{filter}
use Rattle.std.specs.Str.{bytes_eq}
use Rattle.std.specs.List.{AllByRecursion, flat_map}
use Rattle.pipe_schema.specs.Cell.{is_true_cell}
use Rattle.pipe_schema.specs.Rows.{Row}
use Rattle.pipe_schema.specs.Schema.{has_name, names_of, first_repeated, first_unknown}
use Rattle.pipe_schema.specs.declared.any_value.AnyValue.TheVariants as cell
use Rattle.pipe_schema.specs.declared.data_type.DataType.TheVariants as dtype
use Rattle.pipe_schema.specs.declared.field.Field.{Field}
use Rattle.pipe_expr.specs.Formula.{Formula, NamedFormula}
use Rattle.pipe_expr.specs.Types.{columns_in, type_of_column}
use Rattle.pipe_expr.specs.Values.{named_cell}
use Rattle.pipe_expr.specs.Projections.{passes, filter_rows, fields_named, row_named, known_type, select_fields, select_row, expr_named, new_exprs, hstack_fields, hstack_row, renamed, renamed_field, function_fields, function_rows, unpivoted_row, on_type}
use Rattle.pipe_expr.specs.declared.join_words.RenamePair.{RenamePair}
use Rattle.pipe_expr.specs.declared.join_words.FunctionIR.TheVariants as function
use Rattle.pipe_events.specs.Fits.{FitsRow, FitRows}
use Rattle.pipe_events.proofs.Lists.{all-filter}
use Rattle.pipe_rules.specs.Placing.{is_replacing, old_name}
use Rattle.pipe_rules.proofs.Filters.{all-of, all-always, filter-map}
use Rattle.pipe_rules.proofs.Under.{cell_under, named-under, own-name, same-name, each-known}
use Rattle.pipe_rules.proofs.Columns.{of-named, of-hstack, of-renamed, old-in}
use Rattle.pipe_rules.proofs.ColumnTypes.{named-type, hstack-type, renamed-type}
use Rattle.pipe_rules.specs.Needs.{Names, needed_exprs, columns_read}
use Rattle.pipe_rules.specs.Narrowed.{narrow_fields, narrow_row, is_existing}
use Rattle.pipe_rules.specs.NeedLaws.{IsWanted, HasSameType, AreSameAt}
use Rattle.pipe_rules.proofs.Kept.{has-kept, all-known, has-named, names-named, map-all, map-maps, map-own, IsThere, narrow-has, narrow-cell, narrow-type, narrow-value, narrow-formula, same-fields, same-row, same-list}
use Rattle.pipe_rules.proofs.Exprs.{expr-kept, one-read, no-expr, select-cell, select-type, hstack-cell, hstack-type-of, not-new}

-- a schema has its own types
pub same-types : (names : List (List ℕ)) (s : List Field) → AllByRecursion (HasSameType s s) names
same-types names s = all-always (HasSameType s s) (λ name. refl) names

-- one node over rows, and another over the same rows made narrower, by what they make of a row
pub by-row : (names : List (List ℕ)) (s t : List Field) (f g : Row → Row) (P : Row → Type 0) (rows : List Row) → AllByRecursion P rows → AllByRecursion (λ name. type_of_column name t ≡ type_of_column name s) names → ((row : Row) → P row → AllByRecursion (λ name. named_cell t (g row) name ≡ named_cell s (f row) name) names) → AreSameAt names s (map f rows) t (map g rows)
by-row names s t f g P rows all types cells = record {
  types = types;
  same = same-list (map (row_named t names) (map g rows)) (map (row_named s names) (map f rows)) (map-maps P (row_named t names) (row_named s names) g f rows (λ row h. same-row names s t (f row) (g row) (cells row h)) all);
}

-- what holds of each row
abbrev Always : Row → Type 0
Always row = Unit {0}

map-map : {A B C : Type 0} (g : B → C) (f : A → B) (xs : List A) → map g (map f xs) ≡ map (λ x. g (f x)) xs
map-map g f [] = refl
map-map g f (x ∷ xs) = ap (λ l. g (f x) ∷ l) (map-map g f xs)

or-later : (a b : Bool) → b ≡ true → (a || b) ≡ true
or-later true b e = refl
or-later false b e = e

needed-known : (needed : Names) (P : List ℕ → Type 0) (columns : List (List ℕ)) → AllByRecursion P columns → AllByRecursion (λ name. (needed name ≡ true) × P name) (filter needed columns)
needed-known needed P [] h = tt
needed-known needed P (n ∷ columns) h =
    let rest = needed-known needed P columns h.1 in
    let split : (b : Bool) → needed n ≡ b → AllByRecursion (λ name. (needed name ≡ true) × P name) (cond b (n ∷ filter needed columns) (filter needed columns)) = elim [
      | true ↦ λ e. ((e, h.0), rest)
      | false ↦ λ e. rest
    ] in split (needed n) refl

module _ (needed : Names) (names : List (List ℕ)) where
  -- ---- scans

  -- the needed names among some of a frame's columns
  scan-names : (s : List Field) (columns : List (List ℕ)) (name : List ℕ) → needed name ≡ true → has_name (names_of (fields_named s columns)) name ≡ true → has_name (filter needed columns) name ≡ true
  scan-names s columns name h there = has-kept needed columns name (sym (ap (λ l. has_name l name) (names-named s columns)) ∙ there) h

  scan-known : (s : List Field) (columns : List (List ℕ)) → first_unknown s columns ≡ None → first_unknown s (filter needed columns) ≡ None
  scan-known s columns known = all-known s (filter needed columns) (all-filter (λ name. has_name (names_of s) name ≡ true) needed columns (each-known s columns known))

  -- some columns, and those of them that are needed
  pub columns-narrow : (s : List Field) (columns : List (List ℕ)) (rows : List Row) → first_unknown s columns ≡ None → AllByRecursion (IsWanted needed (fields_named s columns)) names → AreSameAt names (fields_named s columns) (map (row_named s columns) rows) (fields_named s (filter needed columns)) (map (row_named s (filter needed columns)) rows)
  columns-narrow s columns rows known want =
      let some = filter needed columns in
      let there : (name : List ℕ) → IsWanted needed (fields_named s columns) name → has_name (names_of (fields_named s some)) name ≡ true = λ name w. has-named s some name (scan-names s columns name w.wanted w.there) in
      by-row names (fields_named s columns) (fields_named s some) (row_named s columns) (row_named s some) Always rows (all-always Always (λ row. tt) rows)
      (all-of (IsWanted needed (fields_named s columns)) (λ name. type_of_column name (fields_named s some) ≡ type_of_column name (fields_named s columns)) (λ name w. named-type name s some (scan-known s columns known) (there name w) ∙ sym (named-type name s columns known w.there)) names want)
      (λ row _. all-of (IsWanted needed (fields_named s columns)) (λ name. named_cell (fields_named s some) (row_named s some row) name ≡ named_cell (fields_named s columns) (row_named s columns row) name) (λ name w.
      named-under name (fields_named s some) (row_named s some row) ∙ of-named name s row some (there name w)
      ∙ sym (of-named name s row columns w.there) ∙ sym (named-under name (fields_named s columns) (row_named s columns row))) names want)

  -- ---- one input

  module _ (keep : Names) (s : List Field) where
    -- rows that are handed on
    pub handed-on : (some : List Row) → AllByRecursion (IsThere keep s) names → AreSameAt names s some (narrow_fields keep s) (map (narrow_row keep s) some)
    handed-on some there =
        subst (λ l. AreSameAt names s l (narrow_fields keep s) (map (narrow_row keep s) some)) (map-own some)
        (by-row names s (narrow_fields keep s) (λ row. row) (narrow_row keep s) Always some (all-always Always (λ row. tt) some)
        (all-of (IsThere keep s) (λ name. type_of_column name (narrow_fields keep s) ≡ type_of_column name s) (narrow-type keep s) names there)
        (λ row _. all-of (IsThere keep s) (λ name. named_cell (narrow_fields keep s) (narrow_row keep s row) name ≡ named_cell s row name) (narrow-cell keep s row) names there))

  module _ (keep : Names) (s : List Field) (rows : List Row) (fit : FitRows s rows) where
    abbrev t : List Field
    t = narrow_fields keep s

    abbrev slim : Row → Row
    slim = narrow_row keep s

    first-type : (on : List (List ℕ)) → AllByRecursion (IsThere keep s) on → on_type t on ≡ on_type s on
    first-type [] h = refl
    first-type (name ∷ on) h = ap known_type (narrow-type keep s name h.0)

    flat-same : (f g : Row → List Row) (h : Row → Row) (xs : List Row) → ((row : Row) → f (h row) ≡ g row) → flat_map f (map h xs) ≡ flat_map g xs
    flat-same f g h [] same = refl
    flat-same f g h (x ∷ xs) same = ap (λ l. l ++ flat_map f (map h xs)) (same x) ∙ ap (λ l. g x ++ l) (flat-same f g h xs same)

    -- a row made of a row, and of the narrower one
    over-narrow : (out narrower : List Field) (f g : Row → Row) → AllByRecursion (λ name. type_of_column name narrower ≡ type_of_column name out) names → ((row : Row) → FitsRow s row → AllByRecursion (λ name. named_cell narrower (g (slim row)) name ≡ named_cell out (f row) name) names) → AreSameAt names out (map f rows) narrower (map g (map slim rows))
    over-narrow out narrower f g types cells =
        subst (AreSameAt names out (map f rows) narrower) (sym (map-map g slim rows))
        (by-row names out narrower f (λ row. g (slim row)) (FitsRow s) rows fit types cells)

    pub filter-narrow : (predicate : Formula) → AllByRecursion (IsThere keep s) (columns_in predicate) → AllByRecursion (IsThere keep s) names → AreSameAt names s (filter_rows predicate s rows) t (filter_rows predicate t (map slim rows))
    filter-narrow predicate reads there =
        let passed : filter_rows predicate t (map slim rows) ≡ map slim (filter_rows predicate s rows) =
        filter-map (passes predicate t) (passes predicate s) slim rows (all-always (λ row. passes predicate t (slim row) ≡ passes predicate s row) (λ row. ap is_true_cell (narrow-value keep s row predicate reads)) rows) in
        subst (AreSameAt names s (filter_rows predicate s rows) t) (sym passed)
        (handed-on keep s (filter_rows predicate s rows) there)

    pub projection-narrow : (columns : List (List ℕ)) → first_unknown s columns ≡ None → ((name : List ℕ) → needed name ≡ true → has_name (names_of s) name ≡ true → keep name ≡ true) → AllByRecursion (IsWanted needed (fields_named s columns)) names → AreSameAt names (fields_named s columns) (map (row_named s columns) rows) (fields_named t (filter needed columns)) (map (row_named t (filter needed columns)) (map slim rows))
    projection-narrow columns known met want =
        let some = filter needed columns in
        let in-some : AllByRecursion (λ name. (needed name ≡ true) × (has_name (names_of s) name ≡ true)) some = needed-known needed (λ name. has_name (names_of s) name ≡ true) columns (each-known s columns known) in
        let kept : AllByRecursion (IsThere keep s) some = all-of (λ name. (needed name ≡ true) × (has_name (names_of s) name ≡ true)) (IsThere keep s) (λ name both. record { kept = met name both.0 both.1; there = both.1 }) some in-some in
        let fields : fields_named t some ≡ fields_named s some = same-fields some s t (all-of (IsThere keep s) (λ name. type_of_column name t ≡ type_of_column name s) (narrow-type keep s) some kept) in
        let lists : map (row_named t some) (map slim rows) ≡ map (row_named s some) rows =
        map-map (row_named t some) slim rows
        ∙ map-all (λ row. row_named t some (slim row)) (row_named s some) rows (all-always (λ row. row_named t some (slim row) ≡ row_named s some row) (λ row. same-row some s t row (slim row) (all-of (IsThere keep s) (λ name. named_cell t (slim row) name ≡ named_cell s row name) (narrow-cell keep s row) some kept)) rows) in
        subst (λ f. AreSameAt names (fields_named s columns) (map (row_named s columns) rows) f (map (row_named t some) (map slim rows))) (sym fields)
        (subst (AreSameAt names (fields_named s columns) (map (row_named s columns) rows) (fields_named s some)) (sym lists)
        (columns-narrow s columns rows known want))

    pub select-narrow : (exprs : List NamedFormula) → AllByRecursion (IsThere keep s) (columns_read (needed_exprs needed exprs)) → AllByRecursion (IsWanted needed (select_fields s exprs)) names → AreSameAt names (select_fields s exprs) (map (select_row s exprs) rows) (select_fields t (needed_exprs needed exprs)) (map (select_row t (needed_exprs needed exprs)) (map slim rows))
    select-narrow exprs reads want =
        let some = needed_exprs needed exprs in
        let types : AllByRecursion (λ name. type_of_column name (select_fields t some) ≡ type_of_column name (select_fields s exprs)) names = all-of (IsWanted needed (select_fields s exprs)) (λ name. type_of_column name (select_fields t some) ≡ type_of_column name (select_fields s exprs)) (λ name w. (
        let split : (o : Option NamedFormula) → expr_named exprs name ≡ o → type_of_column name (select_fields t some) ≡ type_of_column name (select_fields s exprs) = elim [
          | None ↦ λ is. (let no_ : has_name (names_of (select_fields s exprs)) name ≡ false = no-expr s exprs name is in let yes = w.there in cc)
          | Some e ↦ λ is. (
              let still = expr-kept needed exprs name w.wanted ∙ is in
              select-type t some name e still
              ∙ ap (λ o. Some (known_type o)) (narrow-formula keep s e.formula (one-read (IsThere keep s) some name e reads still))
              ∙ sym (select-type s exprs name e is))
        ] in split (expr_named exprs name) refl)) names want in
        let lists : (row : Row) → FitsRow s row → AllByRecursion (λ name. named_cell (select_fields t some) (select_row t some (slim row)) name ≡ named_cell (select_fields s exprs) (select_row s exprs row) name) names = λ row _. all-of (IsWanted needed (select_fields s exprs)) (λ name. named_cell (select_fields t some) (select_row t some (slim row)) name ≡ named_cell (select_fields s exprs) (select_row s exprs row) name) (λ name w. (
        let split : (o : Option NamedFormula) → expr_named exprs name ≡ o → named_cell (select_fields t some) (select_row t some (slim row)) name ≡ named_cell (select_fields s exprs) (select_row s exprs row) name = elim [
          | None ↦ λ is. (let no_ : has_name (names_of (select_fields s exprs)) name ≡ false = no-expr s exprs name is in let yes = w.there in cc)
          | Some e ↦ λ is. (
              let still = expr-kept needed exprs name w.wanted ∙ is in
              named-under name (select_fields t some) (select_row t some (slim row))
              ∙ select-cell t (slim row) some name e still
              ∙ narrow-value keep s row e.formula (one-read (IsThere keep s) some name e reads still)
              ∙ sym (select-cell s row exprs name e is)
              ∙ sym (named-under name (select_fields s exprs) (select_row s exprs row)))
        ] in split (expr_named exprs name) refl)) names want in
        over-narrow (select_fields s exprs) (select_fields t some) (select_row s exprs) (select_row t some) types lists

    pub hstack-narrow : (exprs : List NamedFormula) → AllByRecursion (IsThere keep s) (columns_read (needed_exprs needed exprs)) → ((name : List ℕ) → needed name ≡ true → has_name (names_of s) name ≡ true → keep name ≡ true) → AllByRecursion (IsWanted needed (hstack_fields s exprs)) names → AreSameAt names (hstack_fields s exprs) (map (hstack_row s exprs) rows) (hstack_fields t (needed_exprs needed exprs)) (map (hstack_row t (needed_exprs needed exprs)) (map slim rows))
    hstack-narrow exprs reads met want =
        let some = needed_exprs needed exprs in
        let out = hstack_fields s exprs in
        let narrower = hstack_fields t some in
        let own : (name : List ℕ) → IsWanted needed out name → expr_named exprs name ≡ None → IsThere keep s name = λ name w is. (let there = not-new s s exprs name is w.there in record { kept = met name w.wanted there; there = there }) in
        let unreplaced : (es : List NamedFormula) (name : List ℕ) → expr_named es name ≡ None → is_replacing (expr_named es name) ≡ false = λ es name is. ap is_replacing is in
        let types : AllByRecursion (λ name. type_of_column name narrower ≡ type_of_column name out) names = all-of (IsWanted needed out) (λ name. type_of_column name narrower ≡ type_of_column name out) (λ name w. (
        let split : (o : Option NamedFormula) → expr_named exprs name ≡ o → type_of_column name narrower ≡ type_of_column name out = elim [
          | None ↦ λ is. (
              let h = own name w is in
              let still = expr-kept needed exprs name w.wanted ∙ is in
              hstack-type name t some (select_fields t (new_exprs t some)) t (narrow-has keep s name h) (unreplaced some name still)
              ∙ narrow-type keep s name h
              ∙ sym (hstack-type name s exprs (select_fields s (new_exprs s exprs)) s h.there (unreplaced exprs name is)))
          | Some e ↦ λ is. (
              let still = expr-kept needed exprs name w.wanted ∙ is in
              hstack-type-of t some name e still
              ∙ ap (λ o. Some (known_type o)) (narrow-formula keep s e.formula (one-read (IsThere keep s) some name e reads still))
              ∙ sym (hstack-type-of s exprs name e is))
        ] in split (expr_named exprs name) refl)) names want in
        let lists : (row : Row) → FitsRow s row → AllByRecursion (λ name. named_cell narrower (hstack_row t some (slim row)) name ≡ named_cell out (hstack_row s exprs row) name) names = λ row _. all-of (IsWanted needed out) (λ name. named_cell narrower (hstack_row t some (slim row)) name ≡ named_cell out (hstack_row s exprs row) name) (λ name w. (
        let split : (o : Option NamedFormula) → expr_named exprs name ≡ o → named_cell narrower (hstack_row t some (slim row)) name ≡ named_cell out (hstack_row s exprs row) name = elim [
          | None ↦ λ is. (
              let h = own name w is in
              let still = expr-kept needed exprs name w.wanted ∙ is in
              named-under name narrower (hstack_row t some (slim row))
              ∙ of-hstack name t (slim row) some (select_fields t (new_exprs t some)) (select_row t (new_exprs t some) (slim row)) t (narrow-has keep s name h) (unreplaced some name still)
              ∙ narrow-cell keep s row name h
              ∙ sym (of-hstack name s row exprs (select_fields s (new_exprs s exprs)) (select_row s (new_exprs s exprs) row) s h.there (unreplaced exprs name is))
              ∙ sym (named-under name out (hstack_row s exprs row)))
          | Some e ↦ λ is. (
              let still = expr-kept needed exprs name w.wanted ∙ is in
              named-under name narrower (hstack_row t some (slim row))
              ∙ hstack-cell t (slim row) some name e still
              ∙ narrow-value keep s row e.formula (one-read (IsThere keep s) some name e reads still)
              ∙ sym (hstack-cell s row exprs name e is)
              ∙ sym (named-under name out (hstack_row s exprs row)))
        ] in split (expr_named exprs name) refl)) names want in
        over-narrow out narrower (hstack_row s exprs) (hstack_row t some) types lists

    -- ---- functions

    pub unpivot-narrow : (on index : List (List ℕ)) (variable value : List ℕ) → AllByRecursion (IsThere keep s) on → AllByRecursion (IsThere keep s) index → (let f = function.Unpivot on index variable value in AreSameAt names (function_fields f s) (flat_map (function_rows f s) rows) (function_fields f t) (flat_map (function_rows f t) (map slim rows)))
    unpivot-narrow on index variable value reads kept =
        let f = function.Unpivot on index variable value in
        let types : (cs : List (List ℕ)) → AllByRecursion (IsThere keep s) cs → AllByRecursion (λ name. type_of_column name t ≡ type_of_column name s) cs = λ cs h. all-of (IsThere keep s) (λ name. type_of_column name t ≡ type_of_column name s) (narrow-type keep s) cs h in
        let fields : function_fields f t ≡ function_fields f s =
        ap (λ l. l ++ record { name = variable; dtype = dtype.String } ∷ record { name = value; dtype = on_type t on } ∷ []) (same-fields index s t (types index kept))
        ∙ ap (λ d. fields_named s index ++ record { name = variable; dtype = dtype.String } ∷ record { name = value; dtype = d } ∷ []) (first-type on reads) in
        let one : (row : Row) → map (unpivoted_row t index (slim row)) on ≡ map (unpivoted_row s index row) on = λ row.
        map-all (unpivoted_row t index (slim row)) (unpivoted_row s index row) on (all-of (IsThere keep s) (λ name. unpivoted_row t index (slim row) name ≡ unpivoted_row s index row name) (λ name h.
        ap (λ l. l ++ cell.String name ∷ named_cell t (slim row) name ∷ []) (same-row index s t row (slim row) (all-of (IsThere keep s) (λ n. named_cell t (slim row) n ≡ named_cell s row n) (narrow-cell keep s row) index kept))
        ∙ ap (λ c. row_named s index row ++ cell.String name ∷ c ∷ []) (narrow-cell keep s row name h)) on reads) in
        let lists : flat_map (function_rows f t) (map slim rows) ≡ flat_map (function_rows f s) rows = flat-same (function_rows f t) (function_rows f s) slim rows one in
        subst (λ g. AreSameAt names (function_fields f s) (flat_map (function_rows f s) rows) g (flat_map (function_rows f t) (map slim rows))) (sym fields)
        (subst (AreSameAt names (function_fields f s) (flat_map (function_rows f s) rows) (function_fields f s)) (sym lists)
        (record { types = same-types names (function_fields f s); same = same-list (map (row_named (function_fields f s) names) (flat_map (function_rows f s) rows)) (map (row_named (function_fields f s) names) (flat_map (function_rows f s) rows)) refl }))

    renamed-has : (pairs : List RenamePair) (name old : List ℕ) (part : List Field) → has_name (names_of part) old ≡ true → renamed pairs old ≡ name → has_name (names_of (map (renamed_field pairs) part)) name ≡ true
    renamed-has pairs name old [] h is = cc
    renamed-has pairs name old (field ∷ part) h is =
        let split : (b : Bool) → bytes_eq field.name old ≡ b → (b || has_name (names_of part) old) ≡ true → (bytes_eq (renamed pairs field.name) name || has_name (names_of (map (renamed_field pairs) part)) name) ≡ true = elim [
          | true ↦ λ f k. (
              let at : renamed pairs field.name ≡ name = ap (renamed pairs) (same-name field.name old f) ∙ is in
              let own = own-name name in
              ap (λ n. bytes_eq n name || has_name (names_of (map (renamed_field pairs) part)) name) at ∙ ap (λ b. b || has_name (names_of (map (renamed_field pairs) part)) name) own)
          | false ↦ λ f k. or-later (bytes_eq (renamed pairs field.name) name) (has_name (names_of (map (renamed_field pairs) part)) name) (renamed-has pairs name old part k is)
        ] in split (bytes_eq field.name old) refl h

    -- a renaming gives the names that it gave, as far as columns are there
    pub renamed-kept : (pairs : List RenamePair) (name : List ℕ) → has_name (names_of t) name ≡ true → renamed (filter (is_existing t) pairs) name ≡ renamed pairs name
    renamed-kept [] name h = refl
    renamed-kept (pair ∷ pairs) name h =
        let some = filter (is_existing t) pairs in
        let split : (b c : Bool) → bytes_eq pair.existing name ≡ b → is_existing t pair ≡ c → renamed (cond c (pair ∷ some) some) name ≡ cond b pair.new_name (renamed pairs name) = elim [
          | true ↦ elim [
            | true ↦ λ f g. ap (λ b. cond b pair.new_name (renamed some name)) f
            | false ↦ λ f g. (let yes : is_existing t pair ≡ true = ap (has_name (names_of t)) (same-name pair.existing name f) ∙ h in cc)
          ]
          | false ↦ elim [
            | true ↦ λ f g. ap (λ b. cond b pair.new_name (renamed some name)) f ∙ renamed-kept pairs name h
            | false ↦ λ f g. renamed-kept pairs name h
          ]
        ] in split (bytes_eq pair.existing name) (is_existing t pair) refl refl

    renamed-fields : (pairs : List RenamePair) (part : List Field) → AllByRecursion (λ f. has_name (names_of t) f.name ≡ true) part → map (renamed_field (filter (is_existing t) pairs)) part ≡ map (renamed_field pairs) part
    renamed-fields pairs part h = map-all (renamed_field (filter (is_existing t) pairs)) (renamed_field pairs) part (all-of (λ f. has_name (names_of t) f.name ≡ true) (λ f. renamed_field (filter (is_existing t) pairs) f ≡ renamed_field pairs f) (λ f e. ap (λ n. record { name = n; dtype = f.dtype }) (renamed-kept pairs f.name e)) part h)

    -- the old name of a needed one is found among those that are kept
    old-kept : (pairs : List RenamePair) (name : List ℕ) (part : List Field) → keep (old_name pairs part name) ≡ true → has_name (names_of (map (renamed_field pairs) part)) name ≡ true → old_name pairs (fields_named s (filter keep (names_of part))) name ≡ old_name pairs part name
    old-kept pairs name [] k h = refl
    old-kept pairs name (field ∷ part) k h =
        let rest = filter keep (names_of part) in
        let split : (b c : Bool) → bytes_eq (renamed pairs field.name) name ≡ b → keep field.name ≡ c → keep (cond b field.name (old_name pairs part name)) ≡ true → (b || has_name (names_of (map (renamed_field pairs) part)) name) ≡ true → old_name pairs (fields_named s (cond c (field.name ∷ rest) rest)) name ≡ cond b field.name (old_name pairs part name) = elim [
          | true ↦ elim [
            | true ↦ λ f g k h. ap (λ b. cond b field.name (old_name pairs (fields_named s rest) name)) f
            | false ↦ λ f g k h. cc
          ]
          | false ↦ elim [
            | true ↦ λ f g k h. ap (λ b. cond b field.name (old_name pairs (fields_named s rest) name)) f ∙ old-kept pairs name part k h
            | false ↦ λ f g k h. old-kept pairs name part k h
          ]
        ] in split (bytes_eq (renamed pairs field.name) name) (keep field.name) refl refl k h

    -- what a field is renamed to is the name that was looked for
    back : (pairs : List RenamePair) (name : List ℕ) (part : List Field) → has_name (names_of (map (renamed_field pairs) part)) name ≡ true → renamed pairs (old_name pairs part name) ≡ name
    back pairs name [] h = cc
    back pairs name (field ∷ part) h =
        let split : (b : Bool) → bytes_eq (renamed pairs field.name) name ≡ b → (b || has_name (names_of (map (renamed_field pairs) part)) name) ≡ true → renamed pairs (cond b field.name (old_name pairs part name)) ≡ name = elim [
          | true ↦ λ f k. same-name (renamed pairs field.name) name f
          | false ↦ λ f k. back pairs name part k
        ] in split (bytes_eq (renamed pairs field.name) name) refl h

    pub rename-narrow : (pairs : List RenamePair) → first_repeated (names_of s) ≡ None → first_repeated (names_of t) ≡ None → AllByRecursion (λ f. has_name (names_of t) f.name ≡ true) t → ((name : List ℕ) → has_name (names_of s) name ≡ true → needed (renamed pairs name) ≡ true → keep name ≡ true) → AllByRecursion (IsWanted needed (map (renamed_field pairs) s)) names → AreSameAt names (map (renamed_field pairs) s) (map (λ row. row) rows) (map (renamed_field (filter (is_existing t) pairs)) t) (map (λ row. row) (map slim rows))
    rename-narrow pairs once once_t own met want =
        let out = map (renamed_field pairs) s in
        let narrower = map (renamed_field pairs) t in
        let old : List ℕ → List ℕ = old_name pairs s in
        let there : (name : List ℕ) → IsWanted needed out name → IsThere keep s (old name) = λ name w. (
        let inside = old-in name pairs s w.there in record {
          kept = met (old name) inside (ap needed (back pairs name s w.there) ∙ w.wanted);
          there = inside;
        }) in
        let same : (name : List ℕ) → IsWanted needed out name → old_name pairs t name ≡ old name = λ name w. old-kept pairs name s (there name w).kept w.there in
        let shown : (name : List ℕ) → IsWanted needed out name → has_name (names_of narrower) name ≡ true = λ name w. renamed-has pairs name (old name) t (narrow-has keep s (old name) (there name w)) (back pairs name s w.there) in
        subst (λ f. AreSameAt names out (map (λ row. row) rows) f (map (λ row. row) (map slim rows))) (sym (renamed-fields pairs t own))
        (over-narrow out narrower (λ row. row) (λ row. row)
        (all-of (IsWanted needed out) (λ name. type_of_column name narrower ≡ type_of_column name out) (λ name w.
        renamed-type name pairs t once_t (shown name w) ∙ ap (λ n. type_of_column n t) (same name w) ∙ narrow-type keep s (old name) (there name w) ∙ sym (renamed-type name pairs s once w.there)) names want)
        (λ row _. all-of (IsWanted needed out) (λ name. named_cell narrower (slim row) name ≡ named_cell out row name) (λ name w.
        named-under name narrower (slim row)
        ∙ of-renamed name pairs t (slim row) once_t (shown name w)
        ∙ ap (λ n. cell_under n t (slim row)) (same name w)
        ∙ sym (named-under (old name) t (slim row))
        ∙ narrow-cell keep s row (old name) (there name w)
        ∙ named-under (old name) s row
        ∙ sym (of-renamed name pairs s row once w.there)
        ∙ sym (named-under name out row)) names want))
