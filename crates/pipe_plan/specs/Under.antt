-- The nodes under the root: the root, where the plan has it, and with each node its inputs that are
-- smaller numbers (the nodes that the root reads, each found by one walk upwards).
use Rattle.std.specs.Prelude.{ℕ, List, [], ◌∷◌, Bool, false, ◌==◌, ◌||◌, slice_index_or, length}
use Rattle.std.specs.List.{list_any}
use Rattle.pipe_plan.specs.Walk.{walk}
use Rattle.pipe_plan.specs.Node.{Node}
use Rattle.pipe_plan.specs.Node as node

-- the inputs of a node, in the order of its members
abbrev pub inputs_of : Node → List ℕ
inputs_of (node.DataFrameScan frame columns) = []
inputs_of (node.Filter input predicate) = input ∷ []
inputs_of (node.SimpleProjection input columns) = input ∷ []
inputs_of (node.Select input exprs) = input ∷ []
inputs_of (node.HStack input exprs) = input ∷ []
inputs_of (node.MapFunction input function) = input ∷ []
inputs_of (node.Union inputs) = inputs
inputs_of (node.Join left right left_on right_on options) = left ∷ right ∷ []
inputs_of (node.Sort input by options) = input ∷ []

-- the node of a number, a union of nothing where there is none
abbrev pub node_at : List Node → ℕ → Node
node_at nodes k = slice_index_or nodes k (node.Union [])

-- whether node n is node k, or stands under one of its inputs
abbrev pub reaches_at : List Node → ℕ → (ℕ → Bool) → ℕ → Bool
reaches_at nodes n below k = (k == n) || list_any below (inputs_of (node_at nodes k))

-- whether node n is under node k
abbrev pub is_under : List Node → ℕ → ℕ → Bool
is_under nodes k n = walk false (reaches_at nodes n) (length nodes) k
