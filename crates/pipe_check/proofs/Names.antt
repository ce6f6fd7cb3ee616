-- What the first thing of a name says of types, names and renamings.
use Rattle.std.proofs.Common.{◌≡◌, ℕ, ◌+◌, Bool, true, false, cond, List, [], ◌∷◌, ◌++◌, ◌<◌, Some, None, map, take, length, get_or, refl, ap, sym, ◌∙◌}
use Rattle.std.proofs.lemmas.List.{map-append, take_more}
use Rattle.std.specs.Prelude.{is_some, option_map, ◌||◌}
use Rattle.std.specs.Str.{bytes_eq}
use Rattle.pipe_schema.specs.Schema.{has_name, name_of}
use Rattle.pipe_schema.specs.declared.field.Field.{Field}
use Rattle.pipe_expr.specs.Formula.{Formula, Column, formula_of, named_formula_of}
use Rattle.pipe_expr.specs.Joins.{column_names}
use Rattle.pipe_expr.specs.Types.{type_of_column}
use Rattle.pipe_expr.specs.Projections.{expr_named, renamed}
use Rattle.pipe_expr.specs.declared.expr.Expr.{Expr}
use Rattle.pipe_expr.specs.declared.expr.NamedExpr.{NamedExpr}
use Rattle.pipe_expr.specs.declared.join_words.RenamePair.{RenamePair}
use Rattle.pipe_plan.specs.Faults.{existing_of}
use Rattle.pipe_check.specs.Named.{first_named}

-- a name stands among names where something has it
has_first : {N : Type 0} (f : N → List ℕ) (xs : List N) (name : List ℕ) → has_name (map f xs) name ≡ is_some (first_named f xs name)
has_first f [] name = refl
has_first f (x ∷ xs) name =
    elim (bytes_eq (f x) name) as (λ b. (b || has_name (map f xs) name) ≡ is_some (cond b (Some x) (first_named f xs name))) [
      | true ↦ refl
      | false ↦ has_first f xs name
    ]

pub name_there : {N : Type 0} (f : N → List ℕ) (xs : List N) (name : List ℕ) (x : N) → first_named f xs name ≡ Some x → has_name (map f xs) name ≡ true
name_there f xs name x e = has_first f xs name ∙ ap is_some e

pub name_missing : {N : Type 0} (f : N → List ℕ) (xs : List N) (name : List ℕ) → first_named f xs name ≡ None → has_name (map f xs) name ≡ false
name_missing f xs name e = has_first f xs name ∙ ap is_some e

-- the same of texts, which are their own names
abbrev pub own_name : List ℕ → List ℕ
own_name text = text

pub own_names : (xs : List (List ℕ)) → map own_name xs ≡ xs
own_names [] = refl
own_names (x ∷ xs) = ap (λ ys. x ∷ ys) (own_names xs)

pub text_there : (xs : List (List ℕ)) (name x : List ℕ) → first_named own_name xs name ≡ Some x → has_name xs name ≡ true
text_there xs name x e = ap (λ ys. has_name ys name) (sym (own_names xs)) ∙ name_there own_name xs name x e

pub text_missing : (xs : List (List ℕ)) (name : List ℕ) → first_named own_name xs name ≡ None → has_name xs name ≡ false
text_missing xs name e = ap (λ ys. has_name ys name) (sym (own_names xs)) ∙ name_missing own_name xs name e

-- the names of formulas are those of their expressions
abbrev pub name_of_expr : NamedExpr → List ℕ
name_of_expr e = e.name

-- the type of a column is that of the first field of its name
pub typed_there : (fields : List Field) (name : List ℕ) (x : Field) → first_named name_of fields name ≡ Some x → type_of_column name fields ≡ Some x.dtype
typed_there [] name x e = cc
typed_there (y ∷ ys) name x e =
    let split : (b : Bool) → cond b (Some y) (first_named name_of ys name) ≡ Some x → cond b (Some y.dtype) (type_of_column name ys) ≡ Some x.dtype = elim [
      | true ↦ λ h. cc
      | false ↦ λ h. typed_there ys name x h
    ] in split (bytes_eq y.name name) e

pub typed_missing : (fields : List Field) (name : List ℕ) → first_named name_of fields name ≡ None → type_of_column name fields ≡ None
typed_missing [] name e = refl
typed_missing (y ∷ ys) name e =
    let split : (b : Bool) → cond b (Some y) (first_named name_of ys name) ≡ None → cond b (Some y.dtype) (type_of_column name ys) ≡ None = elim [
      | true ↦ λ h. cc
      | false ↦ λ h. typed_missing ys name h
    ] in split (bytes_eq y.name name) e

-- the first expression of a name, as a formula
pub formula_there : (exprs : List NamedExpr) (name : List ℕ) (x : NamedExpr) → first_named name_of_expr exprs name ≡ Some x → expr_named (map named_formula_of exprs) name ≡ Some (named_formula_of x)
formula_there [] name x e = cc
formula_there (y ∷ ys) name x e =
    let split : (b : Bool) → cond b (Some y) (first_named name_of_expr ys name) ≡ Some x → cond b (Some (named_formula_of y)) (expr_named (map named_formula_of ys) name) ≡ Some (named_formula_of x) = elim [
      | true ↦ λ h. ap (λ o. option_map named_formula_of o) h
      | false ↦ λ h. formula_there ys name x h
    ] in split (bytes_eq y.name name) e

pub formula_missing : (exprs : List NamedExpr) (name : List ℕ) → first_named name_of_expr exprs name ≡ None → expr_named (map named_formula_of exprs) name ≡ None
formula_missing [] name e = refl
formula_missing (y ∷ ys) name e =
    let split : (b : Bool) → cond b (Some y) (first_named name_of_expr ys name) ≡ None → cond b (Some (named_formula_of y)) (expr_named (map named_formula_of ys) name) ≡ None = elim [
      | true ↦ λ h. cc
      | false ↦ λ h. formula_missing ys name h
    ] in split (bytes_eq y.name name) e

-- the new name of a column is that of its first renaming
pub renamed_there : (pairs : List RenamePair) (name : List ℕ) (x : RenamePair) → first_named existing_of pairs name ≡ Some x → renamed pairs name ≡ x.new_name
renamed_there [] name x e = cc
renamed_there (y ∷ ys) name x e =
    let split : (b : Bool) → cond b (Some y) (first_named existing_of ys name) ≡ Some x → cond b y.new_name (renamed ys name) ≡ x.new_name = elim [
      | true ↦ λ h. cc
      | false ↦ λ h. renamed_there ys name x h
    ] in split (bytes_eq y.existing name) e

pub renamed_missing : (pairs : List RenamePair) (name : List ℕ) → first_named existing_of pairs name ≡ None → renamed pairs name ≡ name
renamed_missing [] name e = refl
renamed_missing (y ∷ ys) name e =
    let split : (b : Bool) → cond b (Some y) (first_named existing_of ys name) ≡ None → cond b y.new_name (renamed ys name) ≡ name = elim [
      | true ↦ λ h. cc
      | false ↦ λ h. renamed_missing ys name h
    ] in split (bytes_eq y.existing name) e

-- the column names of some keys, one key at a time
column_names-append : (on : List Formula) (key : Formula) → column_names (on ++ key ∷ []) ≡ column_names on ++ column_names (key ∷ [])
column_names-append [] key = refl
column_names-append (Column name ∷ on) key = ap (λ names. name ∷ names) (column_names-append on key)
column_names-append (_ ∷ on) key = column_names-append on key

pub column_names-next : (on : List Expr) (i : ℕ) (names : List (List ℕ)) (e : Expr) → names ≡ column_names (map formula_of (take i on)) → i < length on → e ≡ get_or on i e → names ++ column_names (formula_of e ∷ []) ≡ column_names (map formula_of (take (i + 1) on))
column_names-next on i names e so_far within is =
    let more : take (i + 1) on ≡ take i on ++ e ∷ [] = take_more on i e within ∙ ap (λ y. take i on ++ y ∷ []) (sym is) in
    rw (so_far, more, map-append) (sym (column_names-append (map formula_of (take i on)) (formula_of e)))

pub ruleset name_rules = (name_there, name_missing, text_there, text_missing, typed_there, typed_missing, formula_there, formula_missing, renamed_there, renamed_missing)
