-- How many nodes stand below a node, and under a root.
use Rattle.std.specs.Prelude.{◌≡◌, ◌⊎◌, ◌<◌, ℕ, zero, suc, ◌+◌, List, [], ◌∷◌, if◌then◌else◌, length}
use Rattle.pipe_plan.specs.Walk.{walk}
use Rattle.pipe_plan.specs.Node.{Node}
use Rattle.pipe_plan.specs.Under.{inputs_of, node_at, is_under}
use Rattle.pipe_plan.specs.Faults.{most_nodes}
use Rattle.pipe_plan.specs.declared.error.PipeError.{PipeError}
use Rattle.pipe_plan.specs.declared.error.PipeError.TheVariants as error

-- a number for each of some nodes, summed
abbrev pub sum_of : (ℕ → ℕ) → List ℕ → ℕ
sum_of f [] = 0
sum_of f (n ∷ ns) = f n + sum_of f ns

abbrev pub size_at : List Node → (ℕ → ℕ) → ℕ → ℕ
size_at nodes below k = suc (sum_of below (inputs_of (node_at nodes k)))

-- a node with all that it reads, each counted as often as it is read
abbrev pub size_of : List Node → ℕ → ℕ
size_of nodes n = walk 0 (size_at nodes) (length nodes) n

-- how many of the nodes below a number are under the root
abbrev pub under_to : List Node → ℕ → ℕ → ℕ
under_to nodes root zero = 0
under_to nodes root (suc k) =
    if is_under nodes root k then suc (under_to nodes root k) else under_to nodes root k

-- how many nodes are under the root
abbrev pub count_under : List Node → ℕ → ℕ
count_under nodes root = under_to nodes root (length nodes)

-- an error tells want of memory, or that more than half of the nodes that a plan may have are under
-- the root
abbrev pub IsTooLarge : List Node → ℕ → PipeError → Type 0
IsTooLarge nodes root e =
    (e ≡ error.Memory)
    ⊎ ((e ≡ error.TooMany most_nodes) × (2048 < count_under nodes root))
