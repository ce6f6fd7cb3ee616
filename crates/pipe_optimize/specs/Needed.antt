-- The columns that are needed of the nodes of a plan.
use Rattle.std.specs.Prelude.{◌≡◌, ℕ, List, [], ◌∷◌, Bool, true, false, ◌&&◌, if◌then◌else◌}
use Rattle.std.specs.List.{list_any}
use Rattle.std.specs.Str.{bytes_eq}
use Rattle.pipe_schema.specs.Schema.{has_name, names_of}
use Rattle.pipe_schema.specs.declared.field.Field.{Field}
use Rattle.pipe_plan.specs.Node.{Node}
use Rattle.pipe_plan.specs.Node as node
use Rattle.pipe_plan.specs.Plan.{Plan}
use Rattle.pipe_plan.specs.Under.{node_at, is_under}
use Rattle.pipe_plan.specs.Schemas.{schema_of}
use Rattle.pipe_plan.specs.Faults.{has_input}
use Rattle.pipe_rules.specs.Needs.{Names, need}

abbrev pub is_first : List (List ℕ) → Names
is_first [] name = false
is_first (n ∷ names) name = bytes_eq n name

-- those of some names that pass a test; the first of them where none does
abbrev pub or_first : List (List ℕ) → Names → Names
or_first names needed name =
    if list_any needed names then has_name names name && needed name else is_first names name

-- the columns that are needed of an input of a node, where some of the node's own are needed
abbrev pub need_of : (ℕ → List Field) → Node → Names → ℕ → Names
need_of schema x needed i name =
    or_first (names_of (schema i)) (need schema x needed i) name

-- the columns that are needed of each node under a root: all of the root's, and of each input what
-- its reader needs
pub record AreNeeds (plan : Plan) (root : ℕ) (needs : ℕ → Names) : Type 0 where
  pub whole : (name : List ℕ) → needs root name ≡ has_name (names_of (schema_of plan root)) name
  pub input : (m i : ℕ) (name : List ℕ) → is_under plan.nodes root m ≡ true
      → has_input plan.nodes i m ≡ true
      → needs i name ≡ need_of (schema_of plan) (node_at plan.nodes m) (needs m) i name

abbrev pub is_scan : Node → Bool
is_scan (node.DataFrameScan frame columns) = true
is_scan (node.Filter input predicate) = false
is_scan (node.SimpleProjection input columns) = false
is_scan (node.Select input exprs) = false
is_scan (node.HStack input exprs) = false
is_scan (node.MapFunction input function) = false
is_scan (node.Union inputs) = false
is_scan (node.Join left right left_on right_on options) = false
is_scan (node.Sort input by options) = false

-- each scan under a root gives the columns that are needed of it, and no others
pub record IsTrimmed (plan : Plan) (root : ℕ) : Type 0 where
  pub needs : ℕ → Names
  pub are_needs : AreNeeds plan root needs
  pub scans : (m : ℕ) (name : List ℕ) → is_under plan.nodes root m ≡ true
      → is_scan (node_at plan.nodes m) ≡ true
      → has_name (names_of (schema_of plan m)) name ≡ needs m name
