-- What a sort sorts by.
use Rattle.std.specs.Prelude.{ℕ, List, Option, Some, None}
use Rattle.pipe_plan.specs.Node.{Node}
use Rattle.pipe_plan.specs.Node as node
use Rattle.pipe_plan.specs.declared.ir.SortOptions.{SortOptions}

-- the keys of a sort, and its options, with its slice
pub record Sorting : Type 0 where
  pub by : List (List ℕ)
  pub options : SortOptions

-- what a node sorts by, none where it is no sort
abbrev pub sorting_of : Node → Option Sorting
sorting_of (node.DataFrameScan frame columns) = None
sorting_of (node.Filter input predicate) = None
sorting_of (node.SimpleProjection input columns) = None
sorting_of (node.Select input exprs) = None
sorting_of (node.HStack input exprs) = None
sorting_of (node.MapFunction input function) = None
sorting_of (node.Union inputs) = None
sorting_of (node.Join left right left_on right_on options) = None
sorting_of (node.Sort input by options) = Some (record { by = by; options = options })
