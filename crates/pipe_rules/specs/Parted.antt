-- The conjuncts of a filter on a node, by where they go.
use Rattle.std.specs.Prelude.{ℕ, List, [], ◌∷◌, ◌++◌, Bool, true, false, ◌==◌, if◌then◌else◌, map}
use Rattle.std.specs.List.{flat_map}
use Rattle.pipe_schema.specs.Rows.{Row}
use Rattle.pipe_schema.specs.declared.field.Field.{Field}
use Rattle.pipe_expr.specs.Formula.{Formula}
use Rattle.pipe_plan.specs.Node.{Node}
use Rattle.pipe_plan.specs.Node as node
use Rattle.pipe_plan.specs.Under.{inputs_of}
use Rattle.pipe_rules.specs.Conjuncts.{filter_each}
use Rattle.pipe_rules.specs.Placing.{Placing, Above, OnInputs, OnLeft, OnRight}
use Rattle.pipe_rules.specs.Placed.{first_input, second_input, placing_at}

-- what stays above, and what goes onto each input, onto the left and onto the right one
pub record Parts : Type 0 where
  pub above : List Formula
  pub inputs : List Formula
  pub left : List Formula
  pub right : List Formula

abbrev pub above_in : Placing → List Formula
above_in (Above f) = f ∷ []
above_in (OnInputs f) = []
above_in (OnLeft f) = []
above_in (OnRight f) = []

abbrev pub inputs_in : Placing → List Formula
inputs_in (Above f) = []
inputs_in (OnInputs f) = f ∷ []
inputs_in (OnLeft f) = []
inputs_in (OnRight f) = []

abbrev pub left_in : Placing → List Formula
left_in (Above f) = []
left_in (OnInputs f) = []
left_in (OnLeft f) = f ∷ []
left_in (OnRight f) = []

abbrev pub right_in : Placing → List Formula
right_in (Above f) = []
right_in (OnInputs f) = []
right_in (OnLeft f) = []
right_in (OnRight f) = f ∷ []

abbrev pub parts_of : List Placing → Parts
parts_of placings = record {
  above = flat_map above_in placings;
  inputs = flat_map inputs_in placings;
  left = flat_map left_in placings;
  right = flat_map right_in placings;
}

abbrev pub is_join : Node → Bool
is_join (node.DataFrameScan frame columns) = false
is_join (node.Filter input predicate) = false
is_join (node.SimpleProjection input columns) = false
is_join (node.Select input exprs) = false
is_join (node.HStack input exprs) = false
is_join (node.MapFunction input function) = false
is_join (node.Union inputs) = false
is_join (node.Join left right left_on right_on options) = true
is_join (node.Sort input by options) = false

-- the conjuncts of some that go onto an input of a node
abbrev pub part_for : Node → Parts → ℕ → List Formula
part_for x parts i =
    if is_join x then
    if i == first_input (inputs_of x) then parts.left
    else if i == second_input (inputs_of x) then parts.right else []
    else parts.inputs

-- the conjuncts by where they go
abbrev pub parted : (ℕ → List Field) → Node → List Formula → Parts
parted schema x conjuncts = parts_of (map (placing_at schema x) conjuncts)

-- the rows of the inputs with the conjuncts that go onto them
abbrev pub rows_below : (ℕ → List Field) → Node → Parts → (ℕ → List Row) → ℕ → List Row
rows_below schema x parts rows i = filter_each (part_for x parts i) (schema i) (rows i)

-- parts with one more conjunct where it goes
abbrev pub one_more : Parts → Placing → Parts
one_more parts placing = record {
  above = parts.above ++ above_in placing;
  inputs = parts.inputs ++ inputs_in placing;
  left = parts.left ++ left_in placing;
  right = parts.right ++ right_in placing;
}
