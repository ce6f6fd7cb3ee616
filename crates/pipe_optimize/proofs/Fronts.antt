-- The two parts of the names of a node's output are its output.
use Rattle.std.proofs.Common.{◌≡◌, ℕ, Bool, true, false, cond, List, [], ◌∷◌, ◌++◌, Option, Some, None, refl, ap, sym, ◌∙◌, append-nil}
use Rattle.pipe_frame.specs.Frame.{Table}
use Rattle.pipe_expr.specs.Joins.{makes_pairs}
use Rattle.pipe_plan.specs.Node.{Node}
use Rattle.pipe_plan.specs.Node as node
use Rattle.pipe_optimize.specs.Fronts.{first_of, front, front_names, shown_right, own_by}
use Rattle.pipe_optimize.specs.Sides.{first_names_of, output_by}

first-part : (names : ℕ → List (List ℕ)) (inputs : List ℕ) → front_names names (first_of inputs) ++ [] ≡ first_names_of names inputs
first-part names [] = refl
first-part names (i ∷ is) = append-nil (names i)

join-part : (b : Bool) (left shown : List (List ℕ)) → left ++ cond b shown [] ≡ cond b (left ++ shown) left
join-part true left shown = refl
join-part false left shown = append-nil left

pub output-parts : (frames : List Table) (names : ℕ → List (List ℕ)) (x : Node) → front_names names (front x) ++ own_by frames names x ≡ output_by frames names x
output-parts frames names (node.DataFrameScan frame columns) = refl
output-parts frames names (node.Filter input predicate) = append-nil (names input)
output-parts frames names (node.SimpleProjection input columns) = refl
output-parts frames names (node.Select input exprs) = refl
output-parts frames names (node.HStack input exprs) = refl
output-parts frames names (node.MapFunction input function) = refl
output-parts frames names (node.Union inputs) = first-part names inputs
output-parts frames names (node.Join left right left_on right_on options) = join-part (makes_pairs options.how) (names left) (shown_right (names left) (names right) right_on options)
output-parts frames names (node.Sort input by options) = append-nil (names input)

-- the names of an input, and a node's own behind them
pub behind-front : (frames : List Table) (names : ℕ → List (List ℕ)) (x : Node) (f : Option ℕ) (input : ℕ) (own : List (List ℕ)) → f ≡ front x → f ≡ Some input → own ≡ own_by frames names x → names input ++ own ≡ output_by frames names x
behind-front frames names x f input own is some made =
    ap (λ l. names input ++ l) made
    ∙ ap (λ o. front_names names o ++ own_by frames names x) (sym some ∙ is)
    ∙ output-parts frames names x

-- a node's own names alone
pub own-alone : (frames : List Table) (names : ℕ → List (List ℕ)) (x : Node) (f : Option ℕ) (own : List (List ℕ)) → f ≡ front x → f ≡ None → own ≡ own_by frames names x → own ≡ output_by frames names x
own-alone frames names x f own is none made =
    made
    ∙ ap (λ o. front_names names o ++ own_by frames names x) (sym none ∙ is)
    ∙ output-parts frames names x
