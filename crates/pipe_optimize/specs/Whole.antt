-- What is needed of nodes: some names, or all that a node gives.
use Rattle.std.specs.Prelude.{◌≡◌, ◌<◌, ◌==◌, ◌&&◌, ◌||◌, ℕ, List, [], ◌∷◌, Bool, true, false, Option, Some, None, length, slice_index_or}
use Rattle.pipe_expr.specs.Joins.{makes_pairs}
use Rattle.pipe_plan.specs.Node.{Node}
use Rattle.pipe_plan.specs.Node as node
use Rattle.pipe_plan.specs.Under.{node_at}
use Rattle.pipe_plan.specs.declared.ir.PlanSlice.{PlanSlice}
use Rattle.pipe_optimize.specs.Lists.{names_at}
use Rattle.pipe_optimize.specs.Narrow.{renames}
use Rattle.pipe_optimize.specs.Needed.{is_scan}
use Rattle.pipe_optimize.specs.Sides.{output_by}

-- some names, or else all
abbrev pub need_or : List (List ℕ) → Option (List (List ℕ)) → List (List ℕ)
need_or names None = names
need_or names (Some needed) = needed

-- what is needed of each node, over the names of all that each gives
abbrev pub needs_over :
    List (List (List ℕ)) → List (Option (List (List ℕ))) → List (List (List ℕ))
needs_over lists [] = []
needs_over [] (need ∷ needs) = need_or [] need ∷ needs_over [] needs
needs_over (names ∷ lists) (need ∷ needs) = need_or names need ∷ needs_over lists needs

-- what is kept for a node
abbrev pub need_at : List (Option (List (List ℕ))) → ℕ → Option (List (List ℕ))
need_at needs n = slice_index_or needs n None

-- a sort with a slice needs all, another one where all is needed of it
abbrev pub sort_needs_all : Bool → Option PlanSlice → Bool
sort_needs_all whole None = whole
sort_needs_all whole (Some slice) = true

-- whether a node needs all of an input, if all is needed of it, or not
abbrev pub needs_all : Bool → Node → ℕ → Bool
needs_all whole (node.DataFrameScan frame columns) i = false
needs_all whole (node.Filter input predicate) i = whole
needs_all whole (node.SimpleProjection input columns) i = false
needs_all whole (node.Select input exprs) i = false
needs_all whole (node.HStack input exprs) i = whole
needs_all whole (node.MapFunction input function) i = whole && renames function
needs_all whole (node.Union inputs) i = true
needs_all whole (node.Join left right left_on right_on options) i =
    whole && (i == left || makes_pairs options.how)
needs_all whole (node.Sort input by options) i = sort_needs_all whole options.slice

-- where all is needed of a node that is no scan, the needed names are all that it gives
abbrev pub AreAllOf : Bool → List (List (List ℕ)) → Node → List (List ℕ) → Type 0
AreAllOf whole lists x needed =
    whole ≡ true → is_scan x ≡ false → needed ≡ output_by [] (names_at lists) x

-- the lists are the names of what nodes give, scans apart
abbrev pub AreOutputs : List (List (List ℕ)) → List Node → Type 0
AreOutputs lists nodes =
    (n : ℕ) → n < length nodes → AreAllOf true lists (node_at nodes n) (names_at lists n)
