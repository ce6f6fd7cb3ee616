-- The names of a node's output in two parts: those of an input in front, and its own behind them.
use Rattle.std.specs.Prelude.{ℕ, List, [], ◌∷◌, if◌then◌else◌, map, filter, Option, Some, None}
use Rattle.pipe_frame.specs.Frame.{Table}
use Rattle.pipe_schema.specs.Schema.{names_of}
use Rattle.pipe_expr.specs.Formula.{Formula}
use Rattle.pipe_expr.specs.Joins.{makes_pairs, column_names}
use Rattle.pipe_expr.specs.Projections.{expr_name}
use Rattle.pipe_plan.specs.Node.{Node}
use Rattle.pipe_plan.specs.Node as node
use Rattle.pipe_plan.specs.Schemas.{frame_at, scan_fields}
use Rattle.pipe_plan.specs.declared.ir.JoinOptions.{JoinOptions}
use Rattle.pipe_optimize.specs.Sides.{fresh_names, keeps_name, suffixed_by, function_names_of}

-- the first of some numbers
abbrev pub first_of : List ℕ → Option ℕ
first_of [] = None
first_of (i ∷ is) = Some i

-- the input whose names stand in front of a node's own
abbrev pub front : Node → Option ℕ
front (node.DataFrameScan frame columns) = None
front (node.Filter input predicate) = Some input
front (node.SimpleProjection input columns) = None
front (node.Select input exprs) = None
front (node.HStack input exprs) = Some input
front (node.MapFunction input function) = None
front (node.Union inputs) = first_of inputs
front (node.Join left right left_on right_on options) = Some left
front (node.Sort input by options) = Some input

-- the names of an input, or none
abbrev pub front_names : (ℕ → List (List ℕ)) → Option ℕ → List (List ℕ)
front_names names None = []
front_names names (Some i) = names i

-- the kept right names of pairs as they are shown
abbrev pub shown_right :
    List (List ℕ) → List (List ℕ) → List Formula → JoinOptions → List (List ℕ)
shown_right left right right_on options =
    map (suffixed_by left options.suffix)
    (filter (keeps_name (column_names right_on) options) right)

-- the right names of a join's output
abbrev pub joined_right :
    List (List ℕ) → List (List ℕ) → List Formula → JoinOptions → List (List ℕ)
joined_right left right right_on options =
    if makes_pairs options.how then shown_right left right right_on options else []

-- the names that stand behind those of the input in front
abbrev pub own_by : List Table → (ℕ → List (List ℕ)) → Node → List (List ℕ)
own_by frames names (node.DataFrameScan frame columns) =
    names_of (scan_fields (frame_at frames frame).schema columns)
own_by frames names (node.Filter input predicate) = []
own_by frames names (node.SimpleProjection input columns) = columns
own_by frames names (node.Select input exprs) = map expr_name exprs
own_by frames names (node.HStack input exprs) = fresh_names (names input) exprs
own_by frames names (node.MapFunction input function) = function_names_of function (names input)
own_by frames names (node.Union inputs) = []
own_by frames names (node.Join left right left_on right_on options) =
    joined_right (names left) (names right) right_on options
own_by frames names (node.Sort input by options) = []
