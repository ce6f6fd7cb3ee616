-- What stands under a name above each kind of node, by what stands under a name below it.
use Rattle.std.proofs.Common.{◌≡◌, ℕ, Bool, true, false, cond, List, [], ◌∷◌, ◌++◌, Option, Some, None, map, refl, ap, sym, ◌∙◌, subst}
use Rattle.std.specs.Prelude.{◌||◌, ◌&&◌, filter}
use Rattle.std.specs.Str.{bytes_eq}
use Rattle.pipe_schema.specs.Rows.{Row}
use Rattle.pipe_schema.specs.Schema.{has_name, names_of, first_repeated}
use Rattle.pipe_schema.specs.declared.field.Field.{Field}
use Rattle.pipe_expr.specs.Formula.{Formula, NamedFormula, Column}
use Rattle.pipe_expr.specs.Values.{value_of, named_cell}
use Rattle.pipe_expr.specs.Projections.{fields_named, row_named, expr_cell, select_fields, select_row, expr_named, stacked_field, stacked_cell, replaced_field, replaced_cell, renamed, renamed_field}
use Rattle.pipe_expr.specs.Joins.{Join, is_kept, suffixed, suffixed_name, kept_cells}
use Rattle.pipe_expr.specs.declared.join_words.RenamePair.{RenamePair}
use Rattle.pipe_events.specs.Fits.{FitsRow}
use Rattle.pipe_rules.specs.Placing.{column_of, column_under, is_there, is_plain, name_or, plain_name, is_replacing, old_name, right_name}
use Rattle.pipe_rules.proofs.Under.{cell_under, own-name, same-name, other-name, once-first, once-rest, in-rest}

-- ---- the named columns, and others behind them

pub of-named : (name : List ℕ) (s : List Field) (row : Row) (columns : List (List ℕ)) → has_name (names_of (fields_named s columns)) name ≡ true → cell_under name (fields_named s columns) (row_named s columns row) ≡ named_cell s row name
of-named name s row [] h = cc
of-named name s row (column ∷ columns) h =
    let split : (b : Bool) → bytes_eq column name ≡ b → cond b (named_cell s row column) (cell_under name (fields_named s columns) (row_named s columns row)) ≡ named_cell s row name = elim [
      | true ↦ λ e. ap (named_cell s row) (same-name column name e)
      | false ↦ λ e. of-named name s row columns (in-rest (bytes_eq column name) (has_name (names_of (fields_named s columns)) name) e h)
    ]
    in split (bytes_eq column name) refl

pub of-index : (name : List ℕ) (s : List Field) (row : Row) (more : List Field) (cells : Row) (index : List (List ℕ)) → has_name index name ≡ true → cell_under name (fields_named s index ++ more) (row_named s index row ++ cells) ≡ named_cell s row name
of-index name s row more cells [] h = cc
of-index name s row more cells (column ∷ index) h =
    let split : (b : Bool) → bytes_eq column name ≡ b → cond b (named_cell s row column) (cell_under name (fields_named s index ++ more) (row_named s index row ++ cells)) ≡ named_cell s row name = elim [
      | true ↦ λ e. ap (named_cell s row) (same-name column name e)
      | false ↦ λ e. of-index name s row more cells index (in-rest (bytes_eq column name) (has_name index name) e h)
    ]
    in split (bytes_eq column name) refl

-- ---- one column per expression

column-cell : (f : Formula) (name : List ℕ) (s : List Field) (row : Row) → is_there (column_of f) ≡ true → value_of f s row ≡ named_cell s row (name_or name (column_of f))
column-cell (Column n) name s row h = refl
column-cell _ name s row h = cc

pub of-select : (name : List ℕ) (s : List Field) (row : Row) (exprs : List NamedFormula) → is_plain exprs name ≡ true → cell_under name (select_fields s exprs) (select_row s exprs row) ≡ named_cell s row (plain_name exprs name)
of-select name s row [] h = cc
of-select name s row (e ∷ exprs) h =
    let split : (b : Bool) → is_there (column_under (cond b (Some e) (expr_named exprs name))) ≡ true → cond b (value_of e.formula s row) (cell_under name (select_fields s exprs) (select_row s exprs row)) ≡ named_cell s row (name_or name (column_under (cond b (Some e) (expr_named exprs name)))) = elim [
      | true ↦ λ k. column-cell e.formula name s row k
      | false ↦ λ k. of-select name s row exprs k
    ]
    in split (bytes_eq e.name name) h

-- ---- the input's columns, with those of expressions

pub named-expr : (exprs : List NamedFormula) (name : List ℕ) (e : NamedFormula) → expr_named exprs name ≡ Some e → bytes_eq e.name name ≡ true
named-expr [] name e h = cc
named-expr (first ∷ exprs) name e h =
    let split : (b : Bool) → bytes_eq first.name name ≡ b → cond b (Some first) (expr_named exprs name) ≡ Some e → bytes_eq e.name name ≡ true = elim [
      | true ↦ λ is k. (let same : first ≡ e = cc in subst (λ x. bytes_eq x.name name ≡ true) same is)
      | false ↦ λ is k. named-expr exprs name e k
    ]
    in split (bytes_eq first.name name) refl h

pub of-hstack : (name : List ℕ) (s : List Field) (row : Row) (exprs : List NamedFormula) (more : List Field) (cells : Row) (part : List Field) → has_name (names_of part) name ≡ true → is_replacing (expr_named exprs name) ≡ false → cell_under name (map (stacked_field s exprs) part ++ more) (map (stacked_cell s exprs row) part ++ cells) ≡ named_cell s row name
of-hstack name s row exprs more cells [] h none = cc
of-hstack name s row exprs more cells (field ∷ part) h none =
    let rest = cell_under name (map (stacked_field s exprs) part ++ more) (map (stacked_cell s exprs row) part ++ cells) in
    let split : (o : Option NamedFormula) → expr_named exprs field.name ≡ o → (b : Bool) → bytes_eq field.name name ≡ b → cond (bytes_eq (replaced_field s field o).name name) (replaced_cell s row field.name o) rest ≡ named_cell s row name = elim [
      | None ↦ λ at. elim [
        | true ↦ λ e. rw e (ap (named_cell s row) (same-name field.name name e))
        | false ↦ λ e. rw e (of-hstack name s row exprs more cells part (in-rest (bytes_eq field.name name) (has_name (names_of part) name) e h) none)
      ]
      | Some x ↦ λ at. (
          let is : x.name ≡ field.name = same-name x.name field.name (named-expr exprs field.name x at) in
          elim [
            | true ↦ λ e. (
                let here : is_replacing (expr_named exprs name) ≡ true = ap (λ n. is_replacing (expr_named exprs n)) (sym (same-name field.name name e)) ∙ ap is_replacing at in
                cc)
            | false ↦ λ e.
                ap (λ n. cond (bytes_eq n name) (expr_cell s row x) rest) is
                ∙ ap (λ b. cond b (expr_cell s row x) rest) e
                ∙ of-hstack name s row exprs more cells part (in-rest (bytes_eq field.name name) (has_name (names_of part) name) e h) none
          ])
    ]
    in split (expr_named exprs field.name) refl (bytes_eq field.name name) refl

-- ---- renamings

pub old-in : (name : List ℕ) (pairs : List RenamePair) (fields : List Field) → has_name (names_of (map (renamed_field pairs) fields)) name ≡ true → has_name (names_of fields) (old_name pairs fields name) ≡ true
old-in name pairs [] h = cc
old-in name pairs (field ∷ fields) h =
    let split : (b : Bool) → (b || has_name (names_of (map (renamed_field pairs) fields)) name) ≡ true → has_name (names_of (field ∷ fields)) (cond b field.name (old_name pairs fields name)) ≡ true = elim [
      | true ↦ λ k. (let own = own-name field.name in rw own refl)
      | false ↦ λ k. (let more = old-in name pairs fields k in elim (bytes_eq field.name (old_name pairs fields name)) as (λ b. (b || has_name (names_of fields) (old_name pairs fields name)) ≡ true) [ true ↦ refl | false ↦ more ])
    ]
    in split (bytes_eq (renamed pairs field.name) name) h

pub of-renamed : (name : List ℕ) (pairs : List RenamePair) (fields : List Field) (row : Row) → first_repeated (names_of fields) ≡ None → has_name (names_of (map (renamed_field pairs) fields)) name ≡ true → cell_under name (map (renamed_field pairs) fields) row ≡ cell_under (old_name pairs fields name) fields row
of-renamed name pairs [] row once h = refl
of-renamed name pairs (field ∷ fields) [] once h = refl
of-renamed name pairs (field ∷ fields) (c ∷ row) once h =
    let split : (b : Bool) → (b || has_name (names_of (map (renamed_field pairs) fields)) name) ≡ true → cond b c (cell_under name (map (renamed_field pairs) fields) row) ≡ cell_under (cond b field.name (old_name pairs fields name)) (field ∷ fields) (c ∷ row) = elim [
      | true ↦ λ k. (let own = own-name field.name in rw own refl)
      | false ↦ λ k. (
          let apart = other-name (names_of fields) field.name (old_name pairs fields name) (once-first field.name (names_of fields) once) (old-in name pairs fields k) in
          rw apart (of-renamed name pairs fields row (once-rest field.name (names_of fields) once) k))
    ]
    in split (bytes_eq (renamed pairs field.name) name) h

-- ---- joins

pub of-left : (name : List ℕ) (fields more : List Field) (row cells : Row) → FitsRow fields row → has_name (names_of fields) name ≡ true → cell_under name (fields ++ more) (row ++ cells) ≡ cell_under name fields row
of-left name [] more row cells fits h = cc
of-left name (field ∷ fields) more [] cells fits h = absurd fits
of-left name (field ∷ fields) more (c ∷ row) cells fits h =
    let split : (b : Bool) → (b || has_name (names_of fields) name) ≡ true → cond b c (cell_under name (fields ++ more) (row ++ cells)) ≡ cond b c (cell_under name fields row) = elim [
      | true ↦ λ k. refl
      | false ↦ λ k. of-left name fields more row cells fits.1 k
    ]
    in split (bytes_eq field.name name) h

pub past-left : (name : List ℕ) (fields more : List Field) (row cells : Row) → FitsRow fields row → has_name (names_of fields) name ≡ false → cell_under name (fields ++ more) (row ++ cells) ≡ cell_under name more cells
past-left name [] more [] cells fits h = refl
past-left name [] more (c ∷ row) cells fits h = absurd fits
past-left name (field ∷ fields) more [] cells fits h = absurd fits
past-left name (field ∷ fields) more (c ∷ row) cells fits h =
    let split : (b : Bool) → (b || has_name (names_of fields) name) ≡ false → cond b c (cell_under name (fields ++ more) (row ++ cells)) ≡ cell_under name more cells = elim [
      | true ↦ λ k. cc
      | false ↦ λ k. past-left name fields more row cells fits.1 k
    ]
    in split (bytes_eq field.name name) h

pub in-more : (name : List ℕ) (fields more : List Field) → has_name (names_of fields) name ≡ false → has_name (names_of (fields ++ more)) name ≡ true → has_name (names_of more) name ≡ true
in-more name [] more out h = h
in-more name (field ∷ fields) more out h =
    let split : (b : Bool) → (b || has_name (names_of fields) name) ≡ false → (b || has_name (names_of (fields ++ more)) name) ≡ true → has_name (names_of more) name ≡ true = elim [
      | true ↦ λ k _. cc
      | false ↦ λ k l. in-more name fields more k l
    ]
    in split (bytes_eq field.name name) out h

module _ (j : Join) where
  abbrev pub shown : List Field → List Field
  shown fields = map (suffixed j) (filter (is_kept j) fields)

  pub right-in : (name : List ℕ) (fields : List Field) → has_name (names_of (shown fields)) name ≡ true → has_name (names_of fields) (right_name j fields name) ≡ true
  right-in name [] h = cc
  right-in name (field ∷ fields) h =
      let later : has_name (names_of (shown fields)) name ≡ true → has_name (names_of (field ∷ fields)) (right_name j fields name) ≡ true =
      λ k. (let more = right-in name fields k in elim (bytes_eq field.name (right_name j fields name)) as (λ b. (b || has_name (names_of fields) (right_name j fields name)) ≡ true) [ true ↦ refl | false ↦ more ]) in
      let split : (kept same : Bool) → bytes_eq (suffixed_name j field.name) name ≡ same → has_name (names_of (map (suffixed j) (cond kept (field ∷ filter (is_kept j) fields) (filter (is_kept j) fields)))) name ≡ true → has_name (names_of (field ∷ fields)) (cond (kept && same) field.name (right_name j fields name)) ≡ true = elim [
        | true ↦ elim [
          | true ↦ λ e k. (let own = own-name field.name in rw own refl)
          | false ↦ λ e k. later (in-rest (bytes_eq (suffixed_name j field.name) name) (has_name (names_of (shown fields)) name) e k)
        ]
        | false ↦ λ same e k. later k
      ]
      in split (is_kept j field) (bytes_eq (suffixed_name j field.name) name) refl h

  pub of-right : (name : List ℕ) (fields : List Field) (row : Row) → FitsRow fields row → first_repeated (names_of fields) ≡ None → has_name (names_of (shown fields)) name ≡ true → cell_under name (shown fields) (kept_cells (is_kept j) fields row) ≡ cell_under (right_name j fields name) fields row
  of-right name [] [] fits once h = refl
  of-right name [] (c ∷ row) fits once h = absurd fits
  of-right name (field ∷ fields) [] fits once h = absurd fits
  of-right name (field ∷ fields) (c ∷ row) fits once h =
      let later : has_name (names_of (shown fields)) name ≡ true → cell_under name (shown fields) (kept_cells (is_kept j) fields row) ≡ cell_under (right_name j fields name) (field ∷ fields) (c ∷ row) =
      λ k. (
      let apart = other-name (names_of fields) field.name (right_name j fields name) (once-first field.name (names_of fields) once) (right-in name fields k) in
      rw apart (of-right name fields row fits.1 (once-rest field.name (names_of fields) once) k)) in
      let split : (kept same : Bool) → bytes_eq (suffixed_name j field.name) name ≡ same → has_name (names_of (map (suffixed j) (cond kept (field ∷ filter (is_kept j) fields) (filter (is_kept j) fields)))) name ≡ true → cell_under name (map (suffixed j) (cond kept (field ∷ filter (is_kept j) fields) (filter (is_kept j) fields))) (cond kept (c ∷ kept_cells (is_kept j) fields row) (kept_cells (is_kept j) fields row)) ≡ cell_under (cond (kept && same) field.name (right_name j fields name)) (field ∷ fields) (c ∷ row) = elim [
        | true ↦ elim [
          | true ↦ λ e k. (let own = own-name field.name in rw (e, own) refl)
          | false ↦ λ e k. rw e (later (in-rest (bytes_eq (suffixed_name j field.name) name) (has_name (names_of (shown fields)) name) e k))
        ]
        | false ↦ λ same e k. later k
      ]
      in split (is_kept j field) (bytes_eq (suffixed_name j field.name) name) refl h
