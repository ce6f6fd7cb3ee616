-- The first unknown and the first repeated of some names, one part after another.
use Rattle.std.proofs.Common.{◌≡◌, ℕ, ◌+◌, Bool, true, false, cond, List, [], ◌∷◌, ◌++◌, ◌<◌, Option, Some, None, map, drop, length, get_or, refl, ap, sym, ◌∙◌}
use Rattle.std.proofs.lemmas.List.{drop_more}
use Rattle.std.specs.List.{flat_map}
use Rattle.pipe_schema.specs.Schema.{has_name, name_of, names_of, first_unknown, first_repeated}
use Rattle.pipe_schema.specs.declared.field.Field.{Field}
use Rattle.pipe_expr.specs.Formula.{formula_of, named_formula_of}
use Rattle.pipe_expr.specs.Types.{columns_in}
use Rattle.pipe_expr.specs.Projections.{expr_name}
use Rattle.pipe_expr.specs.declared.expr.Expr.{Expr}
use Rattle.pipe_expr.specs.declared.expr.NamedExpr.{NamedExpr}
use Rattle.pipe_plan.specs.Faults.{expr_columns}
use Rattle.pipe_check.specs.Named.{first_named}
use Rattle.pipe_check.proofs.Names.{name_there, name_missing, own_name, own_names, name_of_expr}

pub text_repeated : (xs : List (List ℕ)) (found : Option (List ℕ)) → found ≡ first_repeated (map own_name xs) → found ≡ first_repeated xs
text_repeated xs found e = e ∙ ap first_repeated (own_names xs)

formula_names : (exprs : List NamedExpr) → map expr_name (map named_formula_of exprs) ≡ map name_of_expr exprs
formula_names [] = refl
formula_names (x ∷ xs) = ap (λ ys. x.name ∷ ys) (formula_names xs)

pub formula_repeated : (exprs : List NamedExpr) (found : Option (List ℕ)) → found ≡ first_repeated (map name_of_expr exprs) → found ≡ first_repeated (map expr_name (map named_formula_of exprs))
formula_repeated exprs found e = e ∙ ap first_repeated (sym (formula_names exprs))

pub one_known : (fields : List Field) (name : List ℕ) (x : Field) → first_named name_of fields name ≡ Some x → first_unknown fields (name ∷ []) ≡ None
one_known fields name x e = ap (λ b. cond b None (Some name)) (name_there name_of fields name x e)

pub one_unknown : (fields : List Field) (name : List ℕ) → first_named name_of fields name ≡ None → first_unknown fields (name ∷ []) ≡ Some name
one_unknown fields name e = ap (λ b. cond b None (Some name)) (name_missing name_of fields name e)

-- names before others come first
pub append_known : (fields : List Field) (xs ys : List (List ℕ)) → first_unknown fields xs ≡ None → first_unknown fields (xs ++ ys) ≡ first_unknown fields ys
append_known fields [] ys e = refl
append_known fields (x ∷ xs) ys e =
    let split : (b : Bool) → cond b (first_unknown fields xs) (Some x) ≡ None → cond b (first_unknown fields (xs ++ ys)) (Some x) ≡ first_unknown fields ys = elim [
      | true ↦ λ h. append_known fields xs ys h
      | false ↦ λ h. cc
    ] in split (has_name (names_of fields) x) e

pub append_unknown : (fields : List Field) (xs ys : List (List ℕ)) (name : List ℕ) → first_unknown fields xs ≡ Some name → first_unknown fields (xs ++ ys) ≡ Some name
append_unknown fields [] ys name e = cc
append_unknown fields (x ∷ xs) ys name e =
    let split : (b : Bool) → cond b (first_unknown fields xs) (Some x) ≡ Some name → cond b (first_unknown fields (xs ++ ys)) (Some x) ≡ Some name = elim [
      | true ↦ λ h. append_unknown fields xs ys name h
      | false ↦ λ h. h
    ] in split (has_name (names_of fields) x) e

-- the expressions, one after another
pub exprs_unknown : (fields : List Field) (exprs : List Expr) (i : ℕ) (e : Expr) (name : List ℕ) → i < length exprs → e ≡ get_or exprs i e → first_unknown fields (columns_in (formula_of e)) ≡ Some name → first_unknown fields (flat_map columns_in (map formula_of (drop i exprs))) ≡ Some name
exprs_unknown fields exprs i e name lt is h =
    ap (λ xs. first_unknown fields (flat_map columns_in (map formula_of xs))) (drop_more exprs i e lt ∙ ap (λ y. y ∷ drop (i + 1) exprs) (sym is))
    ∙ append_unknown fields (columns_in (formula_of e)) (flat_map columns_in (map formula_of (drop (i + 1) exprs))) name h

pub exprs_known : (fields : List Field) (exprs : List Expr) (i : ℕ) (e : Expr) → i < length exprs → e ≡ get_or exprs i e → first_unknown fields (columns_in (formula_of e)) ≡ None → first_unknown fields (flat_map columns_in (map formula_of (drop i exprs))) ≡ first_unknown fields (flat_map columns_in (map formula_of (drop (i + 1) exprs)))
exprs_known fields exprs i e lt is h =
    ap (λ xs. first_unknown fields (flat_map columns_in (map formula_of xs))) (drop_more exprs i e lt ∙ ap (λ y. y ∷ drop (i + 1) exprs) (sym is))
    ∙ append_known fields (columns_in (formula_of e)) (flat_map columns_in (map formula_of (drop (i + 1) exprs))) h

pub named_unknown : (fields : List Field) (exprs : List NamedExpr) (i : ℕ) (e : NamedExpr) (name : List ℕ) → i < length exprs → e ≡ get_or exprs i e → first_unknown fields (columns_in (formula_of e.expr)) ≡ Some name → first_unknown fields (flat_map expr_columns (map named_formula_of (drop i exprs))) ≡ Some name
named_unknown fields exprs i e name lt is h =
    ap (λ xs. first_unknown fields (flat_map expr_columns (map named_formula_of xs))) (drop_more exprs i e lt ∙ ap (λ y. y ∷ drop (i + 1) exprs) (sym is))
    ∙ append_unknown fields (columns_in (formula_of e.expr)) (flat_map expr_columns (map named_formula_of (drop (i + 1) exprs))) name h

pub named_known : (fields : List Field) (exprs : List NamedExpr) (i : ℕ) (e : NamedExpr) → i < length exprs → e ≡ get_or exprs i e → first_unknown fields (columns_in (formula_of e.expr)) ≡ None → first_unknown fields (flat_map expr_columns (map named_formula_of (drop i exprs))) ≡ first_unknown fields (flat_map expr_columns (map named_formula_of (drop (i + 1) exprs)))
named_known fields exprs i e lt is h =
    ap (λ xs. first_unknown fields (flat_map expr_columns (map named_formula_of xs))) (drop_more exprs i e lt ∙ ap (λ y. y ∷ drop (i + 1) exprs) (sym is))
    ∙ append_known fields (columns_in (formula_of e.expr)) (flat_map expr_columns (map named_formula_of (drop (i + 1) exprs))) h

pub ruleset unknown_rules = (one_known, one_unknown, append_known, append_unknown)

pub ruleset repeated_rules = (text_repeated, formula_repeated)
