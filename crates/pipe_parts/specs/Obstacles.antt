-- Where a plan can't be had in parts: the way down to a node that has no way as wished, and why it has none.
use Rattle.std.specs.Prelude.{◌≡◌, ◌⊎◌, ℕ, List, [], ◌∷◌, false, ◌&&◌, Option, Some, None, length}
use Rattle.std.specs.List.{flat_map, list_all}
use Rattle.pipe_schema.specs.declared.field.Field.{Field}
use Rattle.pipe_expr.specs.Formula.{Formula}
use Rattle.pipe_expr.specs.declared.join_words.JoinType.{JoinType}
use Rattle.pipe_expr.specs.declared.join_words.JoinType.TheVariants as how
use Rattle.pipe_plan.specs.Node.{Node}
use Rattle.pipe_plan.specs.Node as node
use Rattle.pipe_plan.specs.Plan.{Plan}
use Rattle.pipe_plan.specs.Under.{inputs_of, node_at}
use Rattle.pipe_plan.specs.Schemas.{schema_of}
use Rattle.pipe_plan.specs.Faults.{is_column}
use Rattle.pipe_plan.specs.declared.ir.JoinOptions.{JoinOptions}
use Rattle.pipe_plan.specs.declared.ir.PlanSlice.{PlanSlice}
use Rattle.pipe_plan.specs.declared.ir.SortOptions.{SortOptions}
use Rattle.pipe_rules.specs.Placed.{first_input}
use Rattle.pipe_parts.specs.Wishes.{column_below, ways}
use Rattle.pipe_parts.specs.Choices.{IsIn, choices_for, choices_of}
use Rattle.pipe_parts.specs.declared.wish.Wish.{Wish}
use Rattle.pipe_parts.specs.declared.wish.Wish.TheVariants.{Split, Key, Whole}
use Rattle.pipe_parts.specs.declared.obstacles.Obstacle.{Obstacle}
use Rattle.pipe_parts.specs.declared.obstacles.Why.{Why}
use Rattle.pipe_parts.specs.declared.obstacles.Why.TheVariants.{SlicedSort, KeysNotColumns, FullUnderKey, NoPlainColumn}

-- ---- the way down

-- a node, and what is wished of it
pub record Asked : Type 0 where
  pub node : ℕ
  pub wish : Wish

-- the rules allow no choice for it
abbrev pub IsBarred : Plan → Asked → Type 0
IsBarred plan asked = choices_of plan asked.node asked.wish ≡ []

-- the schema of its first input, and the ways that the rules have for it
abbrev pub schema_below : Plan → Asked → List Field
schema_below plan asked = schema_of plan (first_input (inputs_of (node_at plan.nodes asked.node)))

abbrev pub asked_ways : Plan → Asked → List (List Wish)
asked_ways plan asked =
    ways (schema_below plan asked) asked.node (node_at plan.nodes asked.node) asked.wish

-- of some inputs, each as asked, the first for which the rules allow no choice
abbrev pub IsFirstBarred : Plan → List ℕ → List Wish → Asked → Type 0
IsFirstBarred plan [] wishes below = ⊥
IsFirstBarred plan (i ∷ is) [] below = ⊥
IsFirstBarred plan (i ∷ is) (w ∷ ws) below =
    ((record { node = i; wish = w } ≡ below) × IsBarred plan below)
    ⊎ ((IsBarred plan (record { node = i; wish = w }) → ⊥) × IsFirstBarred plan is ws below)

-- a node can't be had as wished, and this is the first of its inputs that can't be had as asked on the
-- first of its ways
pub record IsHeldBy (plan : Plan) (above below : Asked) : Type 0 where
  pub barred : IsBarred plan above
  pub way : List Wish
  pub others : List (List Wish)
  pub ways : asked_ways plan above ≡ way ∷ others
  pub first : IsFirstBarred plan (inputs_of (node_at plan.nodes above.node)) way below

-- so from one to the next, down to the last
abbrev pub LeadsTo : Plan → Asked → List Asked → Asked → Type 0
LeadsTo plan above [] last = above ≡ last
LeadsTo plan above (below ∷ path) last = IsHeldBy plan above below × LeadsTo plan below path last

-- ---- why a node has no way

abbrev pub IsInParts : Wish → Type 0
IsInParts Split = Unit {0}
IsInParts (Key key columns) = Unit {0}
IsInParts Whole = ⊥

abbrev pub IsByKey : Wish → Type 0
IsByKey Split = ⊥
IsByKey (Key key columns) = Unit {0}
IsByKey Whole = ⊥

pub record IsSlicedSort (x : Node) : Type 0 where
  pub input : ℕ
  pub by : List (List ℕ)
  pub options : SortOptions
  pub slice : PlanSlice
  pub is : x ≡ node.Sort input by options
  pub sliced : options.slice ≡ Some slice

pub record IsFullJoin (x : Node) : Type 0 where
  pub left : ℕ
  pub right : ℕ
  pub left_on : List Formula
  pub right_on : List Formula
  pub options : JoinOptions
  pub is : x ≡ node.Join left right left_on right_on options
  pub full : options.how ≡ how.Full

-- a full join of which a key isn't a plain column
pub record HasOtherKeys (x : Node) : Type 0 where
  pub join : IsFullJoin x
  pub keys : (list_all is_column join.left_on && list_all is_column join.right_on) ≡ false

-- a column of the key that is wished of a node isn't a plain column of its first input
pub record HasNoColumn (input : List Field) (x : Node) (wish : Wish) : Type 0 where
  pub key : ℕ
  pub columns : List (List ℕ)
  pub wished : wish ≡ Key key columns
  pub name : List ℕ
  pub one : IsIn name columns
  pub none : column_below input x name ≡ None

-- what is told of a node is so, over the schema of its first input
abbrev pub IsWhy : List Field → Node → Wish → Why → Type 0
IsWhy input x wish SlicedSort = IsSlicedSort x × IsInParts wish
IsWhy input x wish KeysNotColumns = HasOtherKeys x × (wish ≡ Split)
IsWhy input x wish FullUnderKey = IsFullJoin x × IsByKey wish
IsWhy input x wish NoPlainColumn = HasNoColumn input x wish

-- What is told of a node that can't be had as wished. A sort with a slice (node 1) below a filter
-- (node 2) that is wished Split: node 1, SlicedSort, by the path of node 1 alone.
pub record IsObstacle (plan : Plan) (asked : Asked) (found : Obstacle) : Type 0 where
  -- the rules allow no choice for it,
  pub barred : IsBarred plan asked
  -- the way down from it leads to the node that is told, and to what is wished of that,
  pub path : List Asked
  pub wish : Wish
  pub leads : LeadsTo plan asked path (record { node = found.node; wish = wish })
  -- for which the rules have no way
  pub no_way : asked_ways plan (record { node = found.node; wish = wish }) ≡ []
  -- for the reason that is told
  pub why : IsWhy (schema_below plan (record { node = found.node; wish = wish }))
      (node_at plan.nodes found.node) wish found.why

-- what is found for a node as wished: what holds it up, or nothing where the rules allow a choice
abbrev pub IsFoundAt : Plan → Asked → Option Obstacle → Type 0
IsFoundAt plan asked None = IsBarred plan asked → ⊥
IsFoundAt plan asked (Some found) = IsObstacle plan asked found

-- ---- of the steps of the code

-- why a node has no way as wished, where it has none
abbrev pub why_joined : JoinType → Wish → Why
why_joined how.Inner wish = NoPlainColumn
why_joined how.Left wish = NoPlainColumn
why_joined how.Full Split = KeysNotColumns
why_joined how.Full (Key key columns) = FullUnderKey
why_joined how.Full Whole = NoPlainColumn
why_joined how.Cross wish = NoPlainColumn
why_joined how.Semi wish = NoPlainColumn
why_joined how.Anti wish = NoPlainColumn

abbrev pub why_of : Node → Wish → Why
why_of (node.DataFrameScan frame columns) wish = NoPlainColumn
why_of (node.Filter input predicate) wish = NoPlainColumn
why_of (node.SimpleProjection input columns) wish = NoPlainColumn
why_of (node.Select input exprs) wish = NoPlainColumn
why_of (node.HStack input exprs) wish = NoPlainColumn
why_of (node.MapFunction input function) wish = NoPlainColumn
why_of (node.Union inputs) wish = NoPlainColumn
why_of (node.Join left right left_on right_on options) wish = why_joined options.how wish
why_of (node.Sort input by options) wish = SlicedSort

-- a way has a wish for each input
abbrev pub HasLength : List ℕ → List Wish → Type 0
HasLength inputs way = length way ≡ length inputs

-- each of some inputs can be had as asked
abbrev pub AreHad : Plan → List ℕ → List Wish → Type 0
AreHad plan [] [] = Unit {0}
AreHad plan [] (w ∷ ws) = ⊥
AreHad plan (i ∷ is) [] = ⊥
AreHad plan (i ∷ is) (w ∷ ws) =
    (IsBarred plan (record { node = i; wish = w }) → ⊥) × AreHad plan is ws

-- what is found for the first of some inputs, each as asked, that can't be had
pub record IsFirst (plan : Plan) (inputs : List ℕ) (way : List Wish) (found : Obstacle) : Type 0 where
  pub below : Asked
  pub first : IsFirstBarred plan inputs way below
  pub obstacle : IsObstacle plan below found

abbrev pub IsFoundOn : Plan → List ℕ → List Wish → Option Obstacle → Type 0
IsFoundOn plan inputs way None = AreHad plan inputs way
IsFoundOn plan inputs way (Some found) = IsFirst plan inputs way found

-- none of some ways can be gone, and this is found on the first, or where there is no way
abbrev pub IsOnFirst : Plan → List ℕ → List (List Wish) → (here found : Obstacle) → Type 0
IsOnFirst plan inputs [] here found = found ≡ here
IsOnFirst plan inputs (way ∷ others) here found = IsFirst plan inputs way found

pub record AreBarred (plan : Plan) (inputs : List ℕ) (ways : List (List Wish)) (here found : Obstacle) : Type 0 where
  pub none : flat_map (choices_for (choices_of plan) inputs) ways ≡ []
  pub first : IsOnFirst plan inputs ways here found

abbrev pub IsFoundAmong : Plan → List ℕ → List (List Wish) → Obstacle → Option Obstacle → Type 0
IsFoundAmong plan inputs ways here None =
    flat_map (choices_for (choices_of plan) inputs) ways ≡ [] → ⊥
IsFoundAmong plan inputs ways here (Some found) = AreBarred plan inputs ways here found
