-- Lists of expressions and nodes are spelled as the lists of their formulas and nodes.
use Rattle.std.proofs.Common.{◌≡◌, List, [], ◌∷◌, map, refl, ap, ap₂}
use Rattle.std.specs.List.{AllByRecursion}
use Rattle.serde_json.specs.Data.{Data, Items, array, item}
use Rattle.serde_json.specs.View.{items_of}
use Rattle.pipe_expr.specs.Formula.{Formula, formula_of, NamedFormula, named_formula_of}
use Rattle.pipe_expr.specs.declared.expr.Expr.{Expr}
use Rattle.pipe_expr.specs.declared.expr.NamedExpr.{NamedExpr}
use Rattle.pipe_plan.specs.Node.{Node, node_of}
use Rattle.pipe_plan.specs.declared.ir.IR.{IR}
use Rattle.pipe_job.specs.Spelling.{list}
use Rattle.pipe_job.specs.FormulaSpelling.{formula_spelling, FormulaFits, named_spelling, NamedFits, expr_spelling, ExprFits, named_expr_spelling, NamedExprFits}
use Rattle.pipe_job.specs.NodeSpelling.{node_spelling, NodeFits, ir_spelling, IrFits}

items_seen : {A B : Type 0} (spell : B → Data) (see : A → B) (xs : List A) → items_of (map (λ x. spell (see x)) xs) ≡ items_of (map spell (map see xs))
items_seen spell see [] = refl
items_seen spell see (x ∷ xs) = ap (λ (ds : Items). item (spell (see x)) ds) (items_seen spell see xs)

each_seen : {A B : Type 0} (Fits : B → Type 0) (see : A → B) (xs : List A) → AllByRecursion (λ x. Fits (see x)) xs → AllByRecursion Fits (map see xs)
each_seen Fits see [] h = h
each_seen Fits see (x ∷ xs) h = (h.0, each_seen Fits see xs h.1)

pub exprs_spelled : (es : List Expr) → list expr_spelling es ≡ list formula_spelling (map formula_of es)
exprs_spelled es = ap array (items_seen formula_spelling formula_of es)

pub exprs_fit : (es : List Expr) → AllByRecursion ExprFits es → AllByRecursion FormulaFits (map formula_of es)
exprs_fit es h = each_seen FormulaFits formula_of es h

pub nameds_spelled : (es : List NamedExpr) → list named_expr_spelling es ≡ list named_spelling (map named_formula_of es)
nameds_spelled es = ap array (items_seen named_spelling named_formula_of es)

pub nameds_fit : (es : List NamedExpr) → AllByRecursion NamedExprFits es → AllByRecursion NamedFits (map named_formula_of es)
nameds_fit es h = each_seen NamedFits named_formula_of es h

pub nodes_spelled : (xs : List IR) → list ir_spelling xs ≡ list node_spelling (map node_of xs)
nodes_spelled xs = ap array (items_seen node_spelling node_of xs)

pub nodes_fit : (xs : List IR) → AllByRecursion IrFits xs → AllByRecursion NodeFits (map node_of xs)
nodes_fit xs h = each_seen NodeFits node_of xs h

pub ruleset formula_lists = (exprs_spelled, exprs_fit, nameds_spelled, nameds_fit)

pub ruleset node_lists = (nodes_spelled, nodes_fit)
