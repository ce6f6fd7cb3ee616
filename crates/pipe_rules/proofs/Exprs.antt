-- What stands under a name in a projection or an extension, by the expression under it.
use Rattle.std.proofs.Common.{◌≡◌, ℕ, Bool, true, false, cond, ◌||◌, List, [], ◌∷◌, ◌++◌, map, Option, Some, None, refl, ap, sym, ◌∙◌, subst}
use Rattle.std.specs.Prelude.{not}
use Rattle.std.specs.Str.{bytes_eq}
use Rattle.std.specs.List.{AllByRecursion}
use Rattle.pipe_schema.specs.Rows.{Row}
use Rattle.pipe_schema.specs.Schema.{has_name, names_of}
use Rattle.pipe_schema.specs.declared.field.Field.{Field}
use Rattle.pipe_expr.specs.Formula.{NamedFormula}
use Rattle.pipe_expr.specs.Types.{columns_in, type_of, type_of_column}
use Rattle.pipe_expr.specs.Values.{value_of}
use Rattle.pipe_expr.specs.Projections.{known_type, select_fields, select_row, expr_named, is_new, new_exprs, stacked_field, stacked_cell, replaced_field, replaced_cell}
use Rattle.pipe_plan.specs.Faults.{expr_columns}
use Rattle.pipe_rules.proofs.Filters.{all-left, all-right}
use Rattle.pipe_rules.proofs.Under.{cell_under, same-name}
use Rattle.pipe_rules.proofs.Columns.{named-expr}
use Rattle.pipe_events.proofs.Lists.{all-append}
use Rattle.pipe_rules.specs.Needs.{Names, needed_exprs, columns_read}

-- ---- expressions by their names

pub expr-kept : (needed : Names) (exprs : List NamedFormula) (name : List ℕ) → needed name ≡ true → expr_named (needed_exprs needed exprs) name ≡ expr_named exprs name
expr-kept needed [] name h = refl
expr-kept needed (e ∷ exprs) name h =
    let split : (b c : Bool) → bytes_eq e.name name ≡ b → needed e.name ≡ c → expr_named (cond c (e ∷ needed_exprs needed exprs) (needed_exprs needed exprs)) name ≡ cond b (Some e) (expr_named exprs name) = elim [
      | true ↦ elim [
        | true ↦ λ f g. ap (λ b. cond b (Some e) (expr_named (needed_exprs needed exprs) name)) f
        | false ↦ λ f g. (let yes : needed e.name ≡ true = ap needed (same-name e.name name f) ∙ h in cc)
      ]
      | false ↦ elim [
        | true ↦ λ f g. ap (λ b. cond b (Some e) (expr_named (needed_exprs needed exprs) name)) f ∙ expr-kept needed exprs name h
        | false ↦ λ f g. expr-kept needed exprs name h
      ]
    ] in split (bytes_eq e.name name) (needed e.name) refl refl

-- what is read by some is read by those that are needed
pub kept-read : (P : List ℕ → Type 0) (needed : Names) (exprs : List NamedFormula) → AllByRecursion P (columns_read exprs) → AllByRecursion P (columns_read (needed_exprs needed exprs))
kept-read P needed [] h = tt
kept-read P needed (e ∷ exprs) h =
    let first = all-left P (expr_columns e) (columns_read exprs) h in
    let rest = kept-read P needed exprs (all-right P (expr_columns e) (columns_read exprs) h) in
    elim (needed e.name) as (λ b. AllByRecursion P (columns_read (cond b (e ∷ needed_exprs needed exprs) (needed_exprs needed exprs)))) [
      | true ↦ all-append P (expr_columns e) (columns_read (needed_exprs needed exprs)) first rest
      | false ↦ rest
    ]

-- what one of them reads
pub one-read : (P : List ℕ → Type 0) (exprs : List NamedFormula) (name : List ℕ) (e : NamedFormula) → AllByRecursion P (columns_read exprs) → expr_named exprs name ≡ Some e → AllByRecursion P (columns_in e.formula)
one-read P [] name e h is = absurd (let no_ : None ≡ Some e = is in cc)
one-read P (first ∷ exprs) name e h is =
    let split : (b : Bool) → cond b (Some first) (expr_named exprs name) ≡ Some e → AllByRecursion P (columns_in e.formula) = elim [
      | true ↦ λ k. (let same : first ≡ e = cc in subst (λ x. AllByRecursion P (columns_in x.formula)) same (all-left P (expr_columns first) (columns_read exprs) h))
      | false ↦ λ k. one-read P exprs name e (all-right P (expr_columns first) (columns_read exprs) h) k
    ] in split (bytes_eq first.name name) is

-- a name that no expression has isn't among theirs
pub no-expr : (s : List Field) (exprs : List NamedFormula) (name : List ℕ) → expr_named exprs name ≡ None → has_name (names_of (select_fields s exprs)) name ≡ false
no-expr s [] name h = refl
no-expr s (e ∷ exprs) name h =
    let split : (b : Bool) → cond b (Some e) (expr_named exprs name) ≡ None → (b || has_name (names_of (select_fields s exprs)) name) ≡ false = elim [
      | true ↦ λ k. cc
      | false ↦ λ k. no-expr s exprs name k
    ] in split (bytes_eq e.name name) h

-- ---- one column per expression

pub select-cell : (s : List Field) (row : Row) (exprs : List NamedFormula) (name : List ℕ) (e : NamedFormula) → expr_named exprs name ≡ Some e → cell_under name (select_fields s exprs) (select_row s exprs row) ≡ value_of e.formula s row
select-cell s row [] name e h = cc
select-cell s row (first ∷ exprs) name e h =
    let split : (b : Bool) → cond b (Some first) (expr_named exprs name) ≡ Some e → cond b (value_of first.formula s row) (cell_under name (select_fields s exprs) (select_row s exprs row)) ≡ value_of e.formula s row = elim [
      | true ↦ λ k. (let same : first ≡ e = cc in ap (λ x. value_of x.formula s row) same)
      | false ↦ λ k. select-cell s row exprs name e k
    ] in split (bytes_eq first.name name) h

pub select-type : (s : List Field) (exprs : List NamedFormula) (name : List ℕ) (e : NamedFormula) → expr_named exprs name ≡ Some e → type_of_column name (select_fields s exprs) ≡ Some (known_type (type_of e.formula s))
select-type s [] name e h = absurd (let no_ : None ≡ Some e = h in cc)
select-type s (first ∷ exprs) name e h =
    let split : (b : Bool) → cond b (Some first) (expr_named exprs name) ≡ Some e → cond b (Some (known_type (type_of first.formula s))) (type_of_column name (select_fields s exprs)) ≡ Some (known_type (type_of e.formula s)) = elim [
      | true ↦ λ k. (let same : first ≡ e = cc in ap (λ x. Some (known_type (type_of x.formula s))) same)
      | false ↦ λ k. select-type s exprs name e k
    ] in split (bytes_eq first.name name) h

-- ---- the input's columns, with those of expressions

stacked-name : (s : List Field) (exprs : List NamedFormula) (field : Field) → (stacked_field s exprs field).name ≡ field.name
stacked-name s exprs field =
    let split : (o : Option NamedFormula) → expr_named exprs field.name ≡ o → (replaced_field s field o).name ≡ field.name = elim [
      | None ↦ λ at. refl
      | Some x ↦ λ at. same-name x.name field.name (named-expr exprs field.name x at)
    ] in split (expr_named exprs field.name) refl

-- new expressions are found past the input's names
new-named : (s : List Field) (exprs : List NamedFormula) (name : List ℕ) → has_name (names_of s) name ≡ false → expr_named (new_exprs s exprs) name ≡ expr_named exprs name
new-named s [] name out = refl
new-named s (e ∷ exprs) name out =
    let split : (b c : Bool) → bytes_eq e.name name ≡ b → has_name (names_of s) e.name ≡ c → expr_named (cond (not c) (e ∷ new_exprs s exprs) (new_exprs s exprs)) name ≡ cond b (Some e) (expr_named exprs name) = elim [
      | true ↦ elim [
        | true ↦ λ f g. (let no_ : has_name (names_of s) e.name ≡ false = ap (has_name (names_of s)) (same-name e.name name f) ∙ out in cc)
        | false ↦ λ f g. ap (λ b. cond b (Some e) (expr_named (new_exprs s exprs) name)) f
      ]
      | false ↦ elim [
        | true ↦ λ f g. new-named s exprs name out
        | false ↦ λ f g. ap (λ b. cond b (Some e) (expr_named (new_exprs s exprs) name)) f ∙ new-named s exprs name out
      ]
    ] in split (bytes_eq e.name name) (has_name (names_of s) e.name) refl refl

module _ (s : List Field) (row : Row) (exprs : List NamedFormula) (name : List ℕ) (e : NamedFormula) (is : expr_named exprs name ≡ Some e) (more : List Field) (cells : Row) where
  part-cell : (part : List Field) → has_name (names_of part) name ≡ true → cell_under name (map (stacked_field s exprs) part ++ more) (map (stacked_cell s exprs row) part ++ cells) ≡ value_of e.formula s row
  part-cell [] h = cc
  part-cell (field ∷ part) h =
      let rest = cell_under name (map (stacked_field s exprs) part ++ more) (map (stacked_cell s exprs row) part ++ cells) in
      let split : (b : Bool) → bytes_eq field.name name ≡ b → (b || has_name (names_of part) name) ≡ true → cond b (stacked_cell s exprs row field) rest ≡ value_of e.formula s row = elim [
        | true ↦ λ f k. ap (replaced_cell s row field.name) (ap (expr_named exprs) (same-name field.name name f) ∙ is)
        | false ↦ λ f k. part-cell part k
      ] in
      ap (λ n. cond (bytes_eq n name) (stacked_cell s exprs row field) rest) (stacked-name s exprs field)
      ∙ split (bytes_eq field.name name) refl h

  past-cell : (part : List Field) → has_name (names_of part) name ≡ false → cell_under name (map (stacked_field s exprs) part ++ more) (map (stacked_cell s exprs row) part ++ cells) ≡ cell_under name more cells
  past-cell [] h = refl
  past-cell (field ∷ part) h =
      let rest = cell_under name (map (stacked_field s exprs) part ++ more) (map (stacked_cell s exprs row) part ++ cells) in
      let split : (b : Bool) → (b || has_name (names_of part) name) ≡ false → cond b (stacked_cell s exprs row field) rest ≡ cell_under name more cells = elim [
        | true ↦ λ k. cc
        | false ↦ λ k. past-cell part k
      ] in
      ap (λ n. cond (bytes_eq n name) (stacked_cell s exprs row field) rest) (stacked-name s exprs field)
      ∙ split (bytes_eq field.name name) h

  part-type : (part : List Field) → has_name (names_of part) name ≡ true → type_of_column name (map (stacked_field s exprs) part ++ more) ≡ Some (known_type (type_of e.formula s))
  part-type [] h = absurd (let no_ : false ≡ true = h in cc)
  part-type (field ∷ part) h =
      let rest = type_of_column name (map (stacked_field s exprs) part ++ more) in
      let split : (b : Bool) → bytes_eq field.name name ≡ b → (b || has_name (names_of part) name) ≡ true → cond b (Some (stacked_field s exprs field).dtype) rest ≡ Some (known_type (type_of e.formula s)) = elim [
        | true ↦ λ f k. ap (λ o. Some (replaced_field s field o).dtype) (ap (expr_named exprs) (same-name field.name name f) ∙ is)
        | false ↦ λ f k. part-type part k
      ] in
      ap (λ n. cond (bytes_eq n name) (Some (stacked_field s exprs field).dtype) rest) (stacked-name s exprs field)
      ∙ split (bytes_eq field.name name) refl h

  past-type : (part : List Field) → has_name (names_of part) name ≡ false → type_of_column name (map (stacked_field s exprs) part ++ more) ≡ type_of_column name more
  past-type [] h = refl
  past-type (field ∷ part) h =
      let rest = type_of_column name (map (stacked_field s exprs) part ++ more) in
      let split : (b : Bool) → (b || has_name (names_of part) name) ≡ false → cond b (Some (stacked_field s exprs field).dtype) rest ≡ type_of_column name more = elim [
        | true ↦ λ k. cc
        | false ↦ λ k. past-type part k
      ] in
      ap (λ n. cond (bytes_eq n name) (Some (stacked_field s exprs field).dtype) rest) (stacked-name s exprs field)
      ∙ split (bytes_eq field.name name) h

-- what an expression's name has is its value
pub hstack-cell : (s : List Field) (row : Row) (exprs : List NamedFormula) (name : List ℕ) (e : NamedFormula) → expr_named exprs name ≡ Some e → cell_under name (map (stacked_field s exprs) s ++ select_fields s (new_exprs s exprs)) (map (stacked_cell s exprs row) s ++ select_row s (new_exprs s exprs) row) ≡ value_of e.formula s row
hstack-cell s row exprs name e is =
    let more = select_fields s (new_exprs s exprs) in
    let cells = select_row s (new_exprs s exprs) row in
    let split : (b : Bool) → has_name (names_of s) name ≡ b → cell_under name (map (stacked_field s exprs) s ++ more) (map (stacked_cell s exprs row) s ++ cells) ≡ value_of e.formula s row = elim [
      | true ↦ λ h. part-cell s row exprs name e is more cells s h
      | false ↦ λ h. past-cell s row exprs name e is more cells s h ∙ select-cell s row (new_exprs s exprs) name e (new-named s exprs name h ∙ is)
    ] in split (has_name (names_of s) name) refl

pub hstack-type-of : (s : List Field) (exprs : List NamedFormula) (name : List ℕ) (e : NamedFormula) → expr_named exprs name ≡ Some e → type_of_column name (map (stacked_field s exprs) s ++ select_fields s (new_exprs s exprs)) ≡ Some (known_type (type_of e.formula s))
hstack-type-of s exprs name e is =
    let more = select_fields s (new_exprs s exprs) in
    let split : (b : Bool) → has_name (names_of s) name ≡ b → type_of_column name (map (stacked_field s exprs) s ++ more) ≡ Some (known_type (type_of e.formula s)) = elim [
      | true ↦ λ h. part-type s [] exprs name e is more [] s h
      | false ↦ λ h. past-type s [] exprs name e is more [] s h ∙ select-type s (new_exprs s exprs) name e (new-named s exprs name h ∙ is)
    ] in split (has_name (names_of s) name) refl

still : (s : List Field) (exprs : List NamedFormula) (name : List ℕ) → expr_named exprs name ≡ None → expr_named (new_exprs s exprs) name ≡ None
still s [] name h = refl
still s (e ∷ exprs) name h =
    let split : (b : Bool) → bytes_eq e.name name ≡ b → cond b (Some e) (expr_named exprs name) ≡ None → expr_named (cond (is_new s e) (e ∷ new_exprs s exprs) (new_exprs s exprs)) name ≡ None = elim [
      | true ↦ λ f k. cc
      | false ↦ λ f k. elim (is_new s e) as (λ c. expr_named (cond c (e ∷ new_exprs s exprs) (new_exprs s exprs)) name ≡ None) [
        | true ↦ ap (λ b. cond b (Some e) (expr_named (new_exprs s exprs) name)) f ∙ still s exprs name k
        | false ↦ still s exprs name k
      ]
    ] in split (bytes_eq e.name name) refl h

-- a name that no expression has is an input's
pub not-new : (s part : List Field) (exprs : List NamedFormula) (name : List ℕ) → expr_named exprs name ≡ None → has_name (names_of (map (stacked_field s exprs) part ++ select_fields s (new_exprs s exprs))) name ≡ true → has_name (names_of part) name ≡ true
not-new s [] exprs name none h = (let out : has_name (names_of (select_fields s (new_exprs s exprs))) name ≡ false = no-expr s (new_exprs s exprs) name (still s exprs name none) in cc)
not-new s (field ∷ part) exprs name none h =
    let rest = has_name (names_of (map (stacked_field s exprs) part ++ select_fields s (new_exprs s exprs))) name in
    let split : (b : Bool) → (b || rest) ≡ true → (b || has_name (names_of part) name) ≡ true = elim [
      | true ↦ λ k. refl
      | false ↦ λ k. not-new s part exprs name none k
    ] in split (bytes_eq field.name name) (ap (λ n. bytes_eq n name || rest) (sym (stacked-name s exprs field)) ∙ h)
