-- How many legs of branches feed each sink, and how many go through each node.
use Rattle.std.specs.Prelude.{ℕ, ◌+◌, ◌==◌, List, [], ◌∷◌, max}
use Rattle.pipe_schema.specs.Weights.{total}
use Rattle.pipe_driver.specs.declared.branch.SinkNode.{SinkNode}
use Rattle.pipe_driver.specs.declared.branch.Branch.{Branch}
use Rattle.pipe_driver.specs.Texts.{between}
use Rattle.pipe_driver.specs.Ways.{one, occurs}

-- ---- sinks

abbrev pub sinks_numbered : (number : ℕ) → List SinkNode → ℕ
sinks_numbered number [] = 0
sinks_numbered number (sink ∷ sinks) = one (sink.count == number) + sinks_numbered number sinks

abbrev pub branch_numbered : (number : ℕ) → Branch → ℕ
branch_numbered number branch = sinks_numbered number branch.sinks

-- how many sinks of branches have a number
abbrev pub numbered : (number : ℕ) → List Branch → ℕ
numbered number branches = total (branch_numbered number) branches

-- the least number that is at least `least` and above those of some sinks
abbrev pub bound_of : (least : ℕ) → List SinkNode → ℕ
bound_of least [] = least
bound_of least (sink ∷ sinks) = bound_of (max least (sink.count + 1)) sinks

abbrev pub bound : (least : ℕ) → List Branch → ℕ
bound least [] = least
bound least (branch ∷ branches) = bound (bound_of least branch.sinks) branches

-- ---- nodes

-- how often the legs of a branch go through a node, from so many operators on
abbrev pub sinks_behind : (n : ℕ) → (operators : List ℕ) → (first : ℕ) → List SinkNode → ℕ
sinks_behind n operators first [] = 0
sinks_behind n operators first (sink ∷ sinks) =
    occurs n (between operators first sink.offset)
    + sinks_behind n operators sink.offset sinks

abbrev pub branch_through : (n : ℕ) → Branch → ℕ
branch_through n branch = sinks_behind n branch.operators 0 branch.sinks

-- how many legs of branches go through a node
abbrev pub gone_through : (n : ℕ) → List Branch → ℕ
gone_through n branches = total (branch_through n) branches
