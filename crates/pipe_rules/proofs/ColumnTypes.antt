-- The type of what stands under a name above each kind of node, by that of what stands under a name below it.
use Rattle.std.proofs.Common.{◌≡◌, ℕ, Bool, true, false, cond, List, [], ◌∷◌, ◌++◌, Option, Some, None, is_some, is_none, map, refl, ap, sym, ◌∙◌}
use Rattle.std.specs.Prelude.{◌||◌, ◌&&◌, filter}
use Rattle.std.specs.Str.{bytes_eq}
use Rattle.std.specs.List.{list_any}
use Rattle.pipe_schema.specs.Schema.{has_name, names_of, first_repeated, first_unknown}
use Rattle.pipe_schema.specs.declared.data_type.DataType.{DataType}
use Rattle.pipe_schema.specs.declared.field.Field.{Field}
use Rattle.pipe_expr.specs.Formula.{Formula, NamedFormula, Column}
use Rattle.pipe_expr.specs.Types.{type_of, type_of_column}
use Rattle.pipe_expr.specs.Projections.{known_type, fields_named, expr_field, select_fields, expr_named, stacked_field, replaced_field, renamed, renamed_field}
use Rattle.pipe_expr.specs.Joins.{Join, is_kept, suffixed, suffixed_name}
use Rattle.pipe_expr.specs.declared.join_words.RenamePair.{RenamePair}
use Rattle.pipe_expr.proofs.Known.{named_type}
use Rattle.pipe_plan.specs.Faults.{is_named_untyped}
use Rattle.pipe_rules.specs.Placing.{column_of, column_under, is_there, is_plain, name_or, plain_name, is_replacing, old_name, right_name}
use Rattle.pipe_rules.proofs.Under.{own-name, same-name, other-name, once-first, once-rest, in-rest, known-both}
use Rattle.pipe_rules.proofs.Columns.{named-expr, old-in, shown, right-in}

or-first : (a b : Bool) → (a || b) ≡ false → a ≡ false
or-first true b e = cc
or-first false b e = refl

or-second : (a b : Bool) → (a || b) ≡ false → b ≡ false
or-second true b e = cc
or-second false b e = e

sure : (t : Option DataType) → is_some t ≡ true → Some (known_type t) ≡ t
sure None e = cc
sure (Some t) e = refl

typed : (t : Option DataType) → is_none t ≡ false → is_some t ≡ true
typed None e = cc
typed (Some t) e = refl

-- ---- the named columns, and others behind them

pub named-type : (name : List ℕ) (s : List Field) (columns : List (List ℕ)) → first_unknown s columns ≡ None → has_name (names_of (fields_named s columns)) name ≡ true → type_of_column name (fields_named s columns) ≡ type_of_column name s
named-type name s [] known h = cc
named-type name s (column ∷ columns) known h =
    let both = known-both (has_name (names_of s) column) column (first_unknown s columns) known in
    let split : (b : Bool) → bytes_eq column name ≡ b → cond b (Some (known_type (type_of_column column s))) (type_of_column name (fields_named s columns)) ≡ type_of_column name s = elim [
      | true ↦ λ e. sure (type_of_column column s) (named_type column s ∙ both.0) ∙ ap (λ n. type_of_column n s) (same-name column name e)
      | false ↦ λ e. named-type name s columns both.1 (in-rest (bytes_eq column name) (has_name (names_of (fields_named s columns)) name) e h)
    ]
    in split (bytes_eq column name) refl

pub index-type : (name : List ℕ) (s more : List Field) (index : List (List ℕ)) → first_unknown s index ≡ None → has_name index name ≡ true → type_of_column name (fields_named s index ++ more) ≡ type_of_column name s
index-type name s more [] known h = cc
index-type name s more (column ∷ index) known h =
    let both = known-both (has_name (names_of s) column) column (first_unknown s index) known in
    let split : (b : Bool) → bytes_eq column name ≡ b → cond b (Some (known_type (type_of_column column s))) (type_of_column name (fields_named s index ++ more)) ≡ type_of_column name s = elim [
      | true ↦ λ e. sure (type_of_column column s) (named_type column s ∙ both.0) ∙ ap (λ n. type_of_column n s) (same-name column name e)
      | false ↦ λ e. index-type name s more index both.1 (in-rest (bytes_eq column name) (has_name index name) e h)
    ]
    in split (bytes_eq column name) refl

-- ---- one column per expression

column-type : (f : Formula) (name : List ℕ) (s : List Field) → is_there (column_of f) ≡ true → type_of f s ≡ type_of_column (name_or name (column_of f)) s
column-type (Column n) name s h = refl
column-type _ name s h = cc

pub select-type : (name : List ℕ) (s : List Field) (exprs : List NamedFormula) → list_any (is_named_untyped s) exprs ≡ false → is_plain exprs name ≡ true → type_of_column name (select_fields s exprs) ≡ type_of_column (plain_name exprs name) s
select-type name s [] types h = cc
select-type name s (e ∷ exprs) types h =
    let split : (b : Bool) → is_there (column_under (cond b (Some e) (expr_named exprs name))) ≡ true → cond b (Some (known_type (type_of e.formula s))) (type_of_column name (select_fields s exprs)) ≡ type_of_column (name_or name (column_under (cond b (Some e) (expr_named exprs name)))) s = elim [
      | true ↦ λ k. sure (type_of e.formula s) (typed (type_of e.formula s) (or-first (is_named_untyped s e) (list_any (is_named_untyped s) exprs) types)) ∙ column-type e.formula name s k
      | false ↦ λ k. select-type name s exprs (or-second (is_named_untyped s e) (list_any (is_named_untyped s) exprs) types) k
    ]
    in split (bytes_eq e.name name) h

-- ---- the input's columns, with those of expressions

pub hstack-type : (name : List ℕ) (s : List Field) (exprs : List NamedFormula) (more part : List Field) → has_name (names_of part) name ≡ true → is_replacing (expr_named exprs name) ≡ false → type_of_column name (map (stacked_field s exprs) part ++ more) ≡ type_of_column name part
hstack-type name s exprs more [] h none = cc
hstack-type name s exprs more (field ∷ part) h none =
    let rest = type_of_column name (map (stacked_field s exprs) part ++ more) in
    let split : (o : Option NamedFormula) → expr_named exprs field.name ≡ o → (b : Bool) → bytes_eq field.name name ≡ b → cond (bytes_eq (replaced_field s field o).name name) (Some (replaced_field s field o).dtype) rest ≡ cond b (Some field.dtype) (type_of_column name part) = elim [
      | None ↦ λ at. elim [
        | true ↦ λ e. rw e refl
        | false ↦ λ e. rw e (hstack-type name s exprs more part (in-rest (bytes_eq field.name name) (has_name (names_of part) name) e h) none)
      ]
      | Some x ↦ λ at. (
          let is : x.name ≡ field.name = same-name x.name field.name (named-expr exprs field.name x at) in
          elim [
            | true ↦ λ e. (
                let here : is_replacing (expr_named exprs name) ≡ true = ap (λ n. is_replacing (expr_named exprs n)) (sym (same-name field.name name e)) ∙ ap is_replacing at in
                cc)
            | false ↦ λ e.
                ap (λ n. cond (bytes_eq n name) (Some (expr_field s x).dtype) rest) is
                ∙ ap (λ b. cond b (Some (expr_field s x).dtype) rest) e
                ∙ hstack-type name s exprs more part (in-rest (bytes_eq field.name name) (has_name (names_of part) name) e h) none
          ])
    ]
    in split (expr_named exprs field.name) refl (bytes_eq field.name name) refl

-- ---- renamings

pub renamed-type : (name : List ℕ) (pairs : List RenamePair) (fields : List Field) → first_repeated (names_of fields) ≡ None → has_name (names_of (map (renamed_field pairs) fields)) name ≡ true → type_of_column name (map (renamed_field pairs) fields) ≡ type_of_column (old_name pairs fields name) fields
renamed-type name pairs [] once h = refl
renamed-type name pairs (field ∷ fields) once h =
    let split : (b : Bool) → (b || has_name (names_of (map (renamed_field pairs) fields)) name) ≡ true → cond b (Some field.dtype) (type_of_column name (map (renamed_field pairs) fields)) ≡ type_of_column (cond b field.name (old_name pairs fields name)) (field ∷ fields) = elim [
      | true ↦ λ k. (let own = own-name field.name in rw own refl)
      | false ↦ λ k. (
          let apart = other-name (names_of fields) field.name (old_name pairs fields name) (once-first field.name (names_of fields) once) (old-in name pairs fields k) in
          rw apart (renamed-type name pairs fields (once-rest field.name (names_of fields) once) k))
    ]
    in split (bytes_eq (renamed pairs field.name) name) h

-- ---- joins

pub left-type : (name : List ℕ) (fields more : List Field) → has_name (names_of fields) name ≡ true → type_of_column name (fields ++ more) ≡ type_of_column name fields
left-type name [] more h = cc
left-type name (field ∷ fields) more h =
    let split : (b : Bool) → (b || has_name (names_of fields) name) ≡ true → cond b (Some field.dtype) (type_of_column name (fields ++ more)) ≡ cond b (Some field.dtype) (type_of_column name fields) = elim [
      | true ↦ λ k. refl
      | false ↦ λ k. left-type name fields more k
    ]
    in split (bytes_eq field.name name) h

pub past-left-type : (name : List ℕ) (fields more : List Field) → has_name (names_of fields) name ≡ false → type_of_column name (fields ++ more) ≡ type_of_column name more
past-left-type name [] more h = refl
past-left-type name (field ∷ fields) more h =
    let split : (b : Bool) → (b || has_name (names_of fields) name) ≡ false → cond b (Some field.dtype) (type_of_column name (fields ++ more)) ≡ type_of_column name more = elim [
      | true ↦ λ k. cc
      | false ↦ λ k. past-left-type name fields more k
    ]
    in split (bytes_eq field.name name) h

module _ (j : Join) where
  pub right-type : (name : List ℕ) (fields : List Field) → first_repeated (names_of fields) ≡ None → has_name (names_of (shown j fields)) name ≡ true → type_of_column name (shown j fields) ≡ type_of_column (right_name j fields name) fields
  right-type name [] once h = refl
  right-type name (field ∷ fields) once h =
      let later : has_name (names_of (shown j fields)) name ≡ true → type_of_column name (shown j fields) ≡ type_of_column (right_name j fields name) (field ∷ fields) =
      λ k. (
      let apart = other-name (names_of fields) field.name (right_name j fields name) (once-first field.name (names_of fields) once) (right-in j name fields k) in
      rw apart (right-type name fields (once-rest field.name (names_of fields) once) k)) in
      let split : (kept same : Bool) → bytes_eq (suffixed_name j field.name) name ≡ same → has_name (names_of (map (suffixed j) (cond kept (field ∷ filter (is_kept j) fields) (filter (is_kept j) fields)))) name ≡ true → type_of_column name (map (suffixed j) (cond kept (field ∷ filter (is_kept j) fields) (filter (is_kept j) fields))) ≡ type_of_column (cond (kept && same) field.name (right_name j fields name)) (field ∷ fields) = elim [
        | true ↦ elim [
          | true ↦ λ e k. (let own = own-name field.name in rw (e, own) refl)
          | false ↦ λ e k. rw e (later (in-rest (bytes_eq (suffixed_name j field.name) name) (has_name (names_of (shown j fields)) name) e k))
        ]
        | false ↦ λ same e k. later k
      ]
      in split (is_kept j field) (bytes_eq (suffixed_name j field.name) name) refl h
