-- Where the rows of a node go: through a node, or into a sink.
use Rattle.std.specs.Prelude.{◌≡◌, ℕ, List, [], ◌∷◌, true, length}
use Rattle.pipe_events.specs.Stages.{Stage}
use Rattle.pipe_events.specs.Worlds.{ends}
use Rattle.pipe_events.specs.PlanStages.{stage_at}
use Rattle.pipe_driver.specs.declared.branch.SinkAt.{SinkAt}
use Rattle.pipe_driver.specs.declared.branch.SinkAt.TheVariants as at
use Rattle.pipe_check.specs.Checked.{Checked}
use Rattle.pipe_driver.specs.Chains.{goes_through}
use Rattle.pipe_driver.specs.Legs.{sink_node}
use Rattle.pipe_driver.specs.Meaning.{Meaning}
use Rattle.pipe_driver.specs.Ways.{IsSinkOf}
use Rattle.pipe_convert.specs.Nodes.{IsUnder, plan_in, nodes_in, meaning_in}

abbrev pub stage_in : Checked → ℕ → Stage
stage_in plan n = stage_at (plan_in plan) plan.root n

-- the rows of a node go through another one, which is under the root
pub record GoesThrough (plan : Checked) (prev n : ℕ) : Type 0 where
  pub under : IsUnder plan n
  pub through : goes_through (stage_in plan n) prev ≡ true

-- they end in the sink of another one
pub record EndsIn (plan : Checked) (prev n : ℕ) : Type 0 where
  pub under : IsUnder plan n
  pub ends_there : ends (stage_in plan n) prev ≡ true

-- a sink is given the rows of a node
abbrev pub IsGiven : Checked → SinkAt → ℕ → Type 0
IsGiven plan at.Ordered prev = prev ≡ plan.root
IsGiven plan (at.Sort n) prev = EndsIn plan prev n
IsGiven plan (at.Build n) prev = EndsIn plan prev n

-- a leg that goes on from a node: it has the operators and the sink of the node's chain
pub record GoesOn (plan : Checked) (prev : ℕ) (operators : List ℕ) (at : SinkAt) : Type 0 where
  pub under : IsUnder plan prev
  pub chain : operators ≡ (meaning_in plan).above prev
  pub chain_sink : sink_node (length (nodes_in plan)) at ≡ (meaning_in plan).above_sink prev
  pub sink : IsSinkOf (meaning_in plan) (sink_node (length (nodes_in plan)) at) at

-- the sink of the root, of a sort or of a join under it
abbrev pub IsThere : Meaning → SinkAt → Type 0
IsThere m at.Ordered = Unit {0}
IsThere m (at.Sort n) = m.is_sort n ≡ true
IsThere m (at.Build n) = m.is_join n ≡ true

-- ---- along a chain

-- the rows of a node go through some others, one after another
abbrev pub GoesAlong : Checked → (given : ℕ) → List ℕ → Type 0
GoesAlong plan given [] = Unit {0}
GoesAlong plan given (n ∷ ns) = GoesThrough plan given n × GoesAlong plan n ns

-- the last of some nodes behind another, or that one
abbrev pub last_of : (given : ℕ) → List ℕ → ℕ
last_of given [] = given
last_of given (n ∷ ns) = last_of n ns
