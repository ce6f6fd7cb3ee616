-- The choices for a plan in parts: for each scan how it is cut, so that a node can be had as wished.
use Rattle.std.specs.Prelude.{◌≡◌, ◌⊎◌, ℕ, List, [], ◌∷◌, ◌++◌, length, map}
use Rattle.std.specs.List.{flat_map}
use Rattle.pipe_plan.specs.Walk.{walk}
use Rattle.pipe_plan.specs.Node.{Node}
use Rattle.pipe_plan.specs.Node as node
use Rattle.pipe_plan.specs.Plan.{Plan}
use Rattle.pipe_plan.specs.Under.{inputs_of, node_at}
use Rattle.pipe_plan.specs.Schemas.{schemas_to}
use Rattle.pipe_rules.specs.Placed.{first_input}
use Rattle.pipe_parts.specs.Wishes.{ways}
use Rattle.pipe_parts.specs.declared.wish.ScanCut.{ScanCut}
use Rattle.pipe_parts.specs.declared.wish.Wish.{Wish}

-- how the scans under a node are cut, one after another
abbrev pub Choice : Type 0
Choice = List ScanCut

abbrev pub IsIn : {X : Type 0} → X → List X → Type 0
IsIn x [] = ⊥
IsIn x (y ∷ ys) = (y ≡ x) ⊎ IsIn x ys

-- a choice with each of some others behind it
abbrev pub before_each : List Choice → Choice → List Choice
before_each later choice = map (◌++◌ choice) later

-- each choice of the one list with each of the other: of [a, b] and [c, d], ac, ad, bc and bd
abbrev pub in_pairs : List Choice → List Choice → List Choice
in_pairs first later = flat_map (before_each later) first

-- the choices for some inputs, each by its wish
abbrev pub choices_for : (ℕ → Wish → List Choice) → List ℕ → List Wish → List Choice
choices_for below [] [] = [] ∷ []
choices_for below (input ∷ inputs) (wish ∷ wishes) =
    in_pairs (below input wish) (choices_for below inputs wishes)
choices_for below _ _ = []

-- the choices for a node, by what its inputs can be had for: a scan is cut as wished
abbrev pub node_choices : (ℕ → Wish → List Choice) → ℕ → Node → List (List Wish) → Wish → List Choice
node_choices below n (node.DataFrameScan frame columns) ways wish =
    (record { scan = n; cut = wish } ∷ []) ∷ []
node_choices below n (node.Filter input predicate) ways wish =
    flat_map (choices_for below (input ∷ [])) ways
node_choices below n (node.SimpleProjection input columns) ways wish =
    flat_map (choices_for below (input ∷ [])) ways
node_choices below n (node.Select input exprs) ways wish =
    flat_map (choices_for below (input ∷ [])) ways
node_choices below n (node.HStack input exprs) ways wish =
    flat_map (choices_for below (input ∷ [])) ways
node_choices below n (node.MapFunction input function) ways wish =
    flat_map (choices_for below (input ∷ [])) ways
node_choices below n (node.Union inputs) ways wish = flat_map (choices_for below inputs) ways
node_choices below n (node.Join left right left_on right_on options) ways wish =
    flat_map (choices_for below (left ∷ right ∷ [])) ways
node_choices below n (node.Sort input by options) ways wish =
    flat_map (choices_for below (input ∷ [])) ways

-- the ways of a node of a plan
abbrev pub ways_at : Plan → ℕ → Wish → List (List Wish)
ways_at plan n wish =
    let x = node_at plan.nodes n in
    ways (schemas_to plan n (first_input (inputs_of x))) n x wish

abbrev pub choices_at : Plan → (ℕ → Wish → List Choice) → ℕ → Wish → List Choice
choices_at plan below n wish =
    node_choices below n (node_at plan.nodes n) (ways_at plan n wish) wish

abbrev pub no_choice : Wish → List Choice
no_choice wish = []

-- the choices for the nodes below a number
abbrev pub choices_to : Plan → ℕ → ℕ → Wish → List Choice
choices_to plan = walk no_choice (choices_at plan)

-- The choices that the rules allow for a node as wished. An inner join (node 2) of scans 0 and 1, wished
-- Split: 0 Split and 1 Whole; 0 Whole and 1 Split; both by key 2.
abbrev pub choices_of : Plan → ℕ → Wish → List Choice
choices_of plan n = choices_to plan (length plan.nodes) n
