-- Lists of names, by the numbers of nodes.
use Rattle.std.specs.Prelude.{◌≡◌, ◌<◌, ℕ, List, [], ◌∷◌, true, length, slice_index_or}
use Rattle.pipe_frame.specs.Frame.{Table}
use Rattle.pipe_schema.specs.Schema.{names_of}
use Rattle.pipe_plan.specs.Node.{Node}
use Rattle.pipe_plan.specs.Schemas.{schema_of}
use Rattle.pipe_plan.specs.Faults.{has_input}
use Rattle.pipe_rules.specs.Grown.{over}

-- the names that are kept for a node
abbrev pub names_at : List (List (List ℕ)) → ℕ → List (List ℕ)
names_at lists n = slice_index_or lists n []

-- the first of some names
abbrev pub first_only : List (List ℕ) → List (List ℕ)
first_only [] = []
first_only (n ∷ names) = n ∷ []

-- some names, or the first of all
abbrev pub or_head : List (List ℕ) → List (List ℕ) → List (List ℕ)
or_head [] names = first_only names
or_head (n ∷ kept) names = n ∷ kept

-- each node reads smaller ones
abbrev pub AreOrdered : List Node → Type 0
AreOrdered nodes =
    (m i : ℕ) → m < length nodes → has_input nodes i m ≡ true → i < m

-- the names of the outputs of the first nodes
pub record AreNames
    (frames : List Table) (nodes : List Node) (k : ℕ) (lists : List (List (List ℕ))) : Type 0
  where
    pub long : length lists ≡ k
    pub each : (n : ℕ) → n < k → names_at lists n ≡ names_of (schema_of (over frames nodes) n)

-- the names of the outputs of all nodes
abbrev pub HasNames : List Table → List Node → List (List (List ℕ)) → Type 0
HasNames frames nodes lists =
    (n : ℕ) → n < length nodes → names_at lists n ≡ names_of (schema_of (over frames nodes) n)
