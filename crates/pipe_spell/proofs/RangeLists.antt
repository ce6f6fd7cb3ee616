-- Lists of expressions and nodes are within their ranges as the lists of their formulas and nodes are.
use Rattle.std.proofs.Common.{◌≡◌, ◌<◌, ◌≤◌, ℕ, zero, suc, List, [], ◌∷◌, map, length, take, get_or, subst, arith}
use Rattle.std.proofs.lemmas.List.{take_all}
use Rattle.std.specs.List.{AllByRecursion}
use Rattle.pipe_expr.specs.Formula.{formula_of, named_formula_of}
use Rattle.pipe_expr.specs.declared.expr.Expr.{Expr}
use Rattle.pipe_expr.specs.declared.expr.NamedExpr.{NamedExpr}
use Rattle.pipe_plan.specs.Node.{node_of}
use Rattle.pipe_plan.specs.declared.ir.IR.{IR}
use Rattle.pipe_spell.specs.Ranges.{FormulaInRange, NamedInRange, NodeInRange, ExprInRange, NamedExprInRange, IrInRange}

each_seen : {A B : Type 0} (Fits : B → Type 0) (see : A → B) (xs : List A) → AllByRecursion (λ x. Fits (see x)) xs → AllByRecursion Fits (map see xs)
each_seen Fits see [] h = h
each_seen Fits see (x ∷ xs) h = (h.0, each_seen Fits see xs h.1)

-- one more fits
pub fit_more : {A : Type 0} (Fits : A → Type 0) (xs : List A) (i : ℕ) (x : A) → i < length xs → x ≡ get_or xs i x → AllByRecursion Fits (take i xs) → Fits x → AllByRecursion Fits (take (suc i) xs)
fit_more Fits [] i x lt e h f = absurd (omega arith)
fit_more Fits (y ∷ xs) zero x lt e h f = (subst Fits e f, tt)
fit_more Fits (y ∷ xs) (suc i) x lt e h f = (h.0, fit_more Fits xs i x (omega arith) e h.1 f)

-- all fit
pub fit_all : {A : Type 0} (Fits : A → Type 0) (xs : List A) (i : ℕ) → length xs ≤ i → AllByRecursion Fits (take i xs) → AllByRecursion Fits xs
fit_all Fits xs i past h = subst (AllByRecursion Fits) (take_all i xs past) h

pub ruleset fit_rules = (fit_more, fit_all)

pub exprs_in_range : (es : List Expr) → AllByRecursion ExprInRange es → AllByRecursion FormulaInRange (map formula_of es)
exprs_in_range es h = each_seen FormulaInRange formula_of es h

pub nameds_in_range : (es : List NamedExpr) → AllByRecursion NamedExprInRange es → AllByRecursion NamedInRange (map named_formula_of es)
nameds_in_range es h = each_seen NamedInRange named_formula_of es h

pub nodes_in_range : (xs : List IR) → AllByRecursion IrInRange xs → AllByRecursion NodeInRange (map node_of xs)
nodes_in_range xs h = each_seen NodeInRange node_of xs h

pub ruleset range_lists = (exprs_in_range, nameds_in_range, nodes_in_range)
