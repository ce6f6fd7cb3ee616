-- What is needed of nodes while it is found.
use Rattle.std.specs.Prelude.{◌≡◌, ◌<◌, ◌≤◌, ◌==◌, ℕ, List, Bool, true, false, length}
use Rattle.std.specs.List.{list_any}
use Rattle.pipe_frame.specs.Frame.{Table}
use Rattle.pipe_schema.specs.Schema.{has_name}
use Rattle.pipe_plan.specs.Node.{Node}
use Rattle.pipe_plan.specs.Under.{node_at}
use Rattle.pipe_plan.specs.Schemas.{schema_of}
use Rattle.pipe_plan.specs.Faults.{has_input}
use Rattle.pipe_rules.specs.Grown.{over}
use Rattle.pipe_rules.specs.Needs.{Names}
use Rattle.pipe_rules.specs.Narrowed.{narrow_node}
use Rattle.pipe_optimize.specs.Needed.{AreNeeds}
use Rattle.pipe_optimize.specs.Narrow.{AreNarrowed}
use Rattle.pipe_optimize.specs.Lists.{names_at, AreNames}
use Rattle.pipe_optimize.specs.Sides.{need_by}

-- whether a number is among some
abbrev pub is_member : ℕ → List ℕ → Bool
is_member i is = list_any (λ m. m == i) is

-- what is needed of some nodes was put, and all else is as it was
pub record HasPut
    (f : ℕ → List (List ℕ)) (is : List ℕ) (old new : List (List (List ℕ))) : Type 0 where
  pub long : length new ≡ length old
  pub put : (i : ℕ) → is_member i is ≡ true → names_at new i ≡ f i
  pub kept : (i : ℕ) → is_member i is ≡ false → names_at new i ≡ names_at old i

-- all of the root is needed, and of each input of the nodes from a place on what the node needs
pub record ArePassed
    (lists : List (List (List ℕ))) (nodes : List Node) (root k : ℕ) (needs : List (List (List ℕ)))
    : Type 0 where
  pub long : length needs ≡ length nodes
  pub whole : names_at needs root ≡ names_at lists root
  pub each : (m i : ℕ) → k ≤ m → m < length nodes → has_input nodes i m ≡ true
      → names_at needs i ≡ need_by (names_at lists) (node_at nodes m) (names_at needs m) i

-- no two nodes read one, and none reads the root
pub record AreTree (nodes : List Node) (root : ℕ) : Type 0 where
  pub ordered : (m i : ℕ) → m < length nodes → has_input nodes i m ≡ true → i < m
  pub apart : (m j i : ℕ) → j < m → m < length nodes → has_input nodes i m ≡ true
      → has_input nodes i j ≡ false
  pub unread : (m : ℕ) → m < length nodes → has_input nodes root m ≡ false

-- what is needed, by lists
abbrev pub needs_in : List (List (List ℕ)) → ℕ → Names
needs_in needs n = has_name (names_at needs n)

-- the first nodes are narrowed, and their names are known
pub record AreNarrowedTo
    (frames : List Table) (old : List Node) (needs : ℕ → Names) (n : ℕ) (made : List Node)
    (lists : List (List (List ℕ))) : Type 0 where
  pub long : length made ≡ n
  pub names : AreNames frames made n lists
  pub each : (k : ℕ) → k < n → node_at made k
      ≡ narrow_node frames (schema_of (over frames made)) (needs k) (node_at old k)

-- nodes are narrowed to what is needed of them
pub record IsTrimOf (frames : List Table) (old new : List Node) (root : ℕ) : Type 0 where
  pub needs : ℕ → Names
  pub are_needs : AreNeeds (over frames old) root needs
  pub narrowed : AreNarrowed frames old new needs
