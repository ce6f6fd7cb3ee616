-- Plans that grow by nodes, and the new numbers of nodes of another plan.
use Rattle.std.specs.Prelude.{◌≡◌, ◌⊎◌, ◌<◌, ◌≤◌, ◌+◌, ◌*◌, ℕ, suc, List, [], ◌∷◌, ◌++◌, Bool, true, false, None, length, map}
use Rattle.std.specs.List.{AllByRecursion, list_all, list_any}
use Rattle.pipe_frame.specs.Frame.{Table}
use Rattle.pipe_expr.specs.Formula.{Formula}
use Rattle.pipe_plan.specs.Node.{Node}
use Rattle.pipe_plan.specs.Node as node
use Rattle.pipe_plan.specs.Plan.{Plan}
use Rattle.pipe_plan.specs.Under.{node_at, inputs_of, is_under}
use Rattle.pipe_plan.specs.Schemas.{schema_of}
use Rattle.pipe_plan.specs.PlanRows.{rows_of}
use Rattle.pipe_plan.specs.Faults.{has_input, repeats, is_void}
use Rattle.pipe_check.specs.Checking.{fault_with}
use Rattle.pipe_rules.specs.Conjuncts.{conjuncts_of, all_conjuncts, filter_each}
use Rattle.pipe_rules.specs.Parted.{Parts, part_for, rows_below}
use Rattle.pipe_rules.specs.Low.{IsLow, is_sort}
use Rattle.pipe_rules.specs.Sorts.{sorting_of}
use Rattle.pipe_rules.specs.Literals.{LiteralTest, literals_pass, node_literals_pass}
use Rattle.pipe_rules.specs.Sizes.{sum_of, size_of}

-- the plan of some nodes over some tables
abbrev pub over : List Table → List Node → Plan
over frames nodes = record { nodes = nodes; frames = frames }

-- nodes were added to others
pub record Grows (old new : List Node) : Type 0 where
  pub more : List Node
  pub grown : new ≡ old ++ more

-- a node has no fault of its own, and stands low where it is a filter
pub record IsSoundNode (frames : List Table) (nodes : List Node) (m : ℕ) : Type 0 where
  pub once : repeats (inputs_of (node_at nodes m)) ≡ false
  pub whole : is_void frames (node_at nodes m) ≡ false
  pub faultless : fault_with false frames (schema_of (over frames nodes)) m (node_at nodes m) ≡ None
  pub low : IsLow (schema_of (over frames nodes)) nodes (node_at nodes m)

-- nodes that were added read smaller ones of their own, no two read the same, and each is sound
pub record AreSound (frames : List Table) (old new : List Node) : Type 0 where
  pub own : (m i : ℕ) → length old ≤ m → m < length new → has_input new i m ≡ true
      → (length old ≤ i) × (i < m)
  pub apart : (m j i : ℕ) → length old ≤ j → j < m → m < length new → has_input new i m ≡ true
      → has_input new i j ≡ false
  pub each : (m : ℕ) → length old ≤ m → m < length new → IsSoundNode frames new m

-- each node under a root has at most so many rows
abbrev pub AreWithin : Plan → ℕ → ℕ → Type 0
AreWithin plan root limit =
    (n : ℕ) → is_under plan.nodes root n ≡ true → length (rows_of plan n) ≤ limit

-- each of some nodes stands under a root
abbrev pub AreUnder : List Node → ℕ → Type 0
AreUnder nodes root = (m : ℕ) → m < length nodes → is_under nodes root m ≡ true

-- whether a node is under another
abbrev pub is_reached : List Node → ℕ → ℕ → Bool
is_reached nodes m k = is_under nodes k m

-- a node of a plan, under some conjuncts, stands last among new nodes: it has its schema, and those of
-- its rows at which each conjunct is true
pub record IsRewritten
    (plan : Plan) (old new : List Node) (n : ℕ) (conjuncts : List Formula) (k : ℕ) : Type 0 where
  pub grows : Grows old new
  pub fresh : length old ≤ k
  pub last : suc k ≡ length new
  pub few : length new ≤ length old + 2 * size_of plan.nodes n
  pub sound : AreSound plan.frames old new
  pub schema : schema_of (over plan.frames new) k ≡ schema_of plan n
  pub rows : rows_of (over plan.frames new) k
      ≡ filter_each conjuncts (schema_of plan n) (rows_of plan n)
  pub whole : (m : ℕ) → length old ≤ m → m < length new → is_under new k m ≡ true
  pub sorts : conjuncts ≡ [] → is_sort (node_at plan.nodes n) ≡ true
      → sorting_of (node_at new k) ≡ sorting_of (node_at plan.nodes n)
  pub literals : (test : LiteralTest) → list_all (node_literals_pass test) plan.nodes ≡ true
      → list_all (literals_pass test) conjuncts ≡ true
      → list_all (node_literals_pass test) old ≡ true
      → list_all (node_literals_pass test) new ≡ true
  pub within : (limit : ℕ) → AreWithin plan n limit
      → (m : ℕ) → length old ≤ m → m < length new
      → length (rows_of (over plan.frames new) m) ≤ limit

-- a number is that of one of the nodes that were added, which none of them reads
pub record IsFree (old new : List Node) (k : ℕ) : Type 0 where
  pub fresh : length old ≤ k
  pub there : k < length new
  pub unread : (m : ℕ) → length old ≤ m → m < length new → has_input new k m ≡ false

-- nodes of a plan that are inputs of a node stand among new nodes, each under the conjuncts that go
-- onto it
pub record AreRewritten
    (plan : Plan) (old new : List Node) (x : Node) (parts : Parts) (ns ks : List ℕ) : Type 0 where
  pub grows : Grows old new
  pub few : length new ≤ length old + 2 * sum_of (size_of plan.nodes) ns
  pub sound : AreSound plan.frames old new
  pub free : AllByRecursion (IsFree old new) ks
  pub once : repeats ks ≡ false
  pub schemas : map (schema_of (over plan.frames new)) ks ≡ map (schema_of plan) ns
  pub rows : map (rows_of (over plan.frames new)) ks
      ≡ map (rows_below (schema_of plan) x parts (rows_of plan)) ns
  pub whole : (m : ℕ) → length old ≤ m → m < length new
      → list_any (is_reached new m) ks ≡ true
  pub within : (limit : ℕ) → AllByRecursion (λ i. AreWithin plan i limit) ns
      → (m : ℕ) → length old ≤ m → m < length new
      → length (rows_of (over plan.frames new) m) ≤ limit
  pub literals : (test : LiteralTest) → list_all (node_literals_pass test) plan.nodes ≡ true
      → ((i : ℕ) → list_all (literals_pass test) (part_for x parts i) ≡ true)
      → list_all (node_literals_pass test) old ≡ true
      → list_all (node_literals_pass test) new ≡ true

-- a node was put behind others, and no conjunct stands on it
pub record IsAlone
    (old new : List Node) (y : Node) (above : List Formula) (k : ℕ) : Type 0 where
  pub none : above ≡ []
  pub made : new ≡ old ++ y ∷ []
  pub last : k ≡ length old

-- a node was put behind others, and a filter of some conjuncts on it
pub record IsFiltered
    (old new : List Node) (y : Node) (above : List Formula) (k : ℕ) : Type 0 where
  pub predicate : Formula
  pub joins : conjuncts_of predicate ≡ all_conjuncts above
  pub made : new ≡ (old ++ y ∷ []) ++ node.Filter (length old) predicate ∷ []
  pub last : k ≡ length (old ++ y ∷ [])

-- a node was put behind others, with a filter of some conjuncts where there are any
abbrev pub IsPut : List Node → List Node → Node → List Formula → ℕ → Type 0
IsPut old new y above k = IsAlone old new y above k ⊎ IsFiltered old new y above k
