-- Nodes with other inputs.
use Rattle.std.specs.Prelude.{ℕ, List, [], ◌∷◌}
use Rattle.pipe_plan.specs.Node.{Node}
use Rattle.pipe_plan.specs.Node as node
use Rattle.pipe_rules.specs.Placed.{first_input, second_input}

-- the node with these inputs in place of its own
abbrev pub with_inputs : Node → List ℕ → Node
with_inputs (node.DataFrameScan frame columns) inputs = node.DataFrameScan frame columns
with_inputs (node.Filter input predicate) inputs = node.Filter (first_input inputs) predicate
with_inputs (node.SimpleProjection input columns) inputs =
    node.SimpleProjection (first_input inputs) columns
with_inputs (node.Select input exprs) inputs = node.Select (first_input inputs) exprs
with_inputs (node.HStack input exprs) inputs = node.HStack (first_input inputs) exprs
with_inputs (node.MapFunction input function) inputs =
    node.MapFunction (first_input inputs) function
with_inputs (node.Union is) inputs = node.Union inputs
with_inputs (node.Join left right left_on right_on options) inputs =
    node.Join (first_input inputs) (second_input inputs) left_on right_on options
with_inputs (node.Sort input by options) inputs = node.Sort (first_input inputs) by options

-- the first of some inputs, or another number
abbrev pub first_or : ℕ → List ℕ → ℕ
first_or n [] = n
first_or n (i ∷ is) = i

-- the second of some inputs, else the first, or another number
abbrev pub second_or : ℕ → List ℕ → ℕ
second_or n [] = n
second_or n (i ∷ is) = first_or i is
