-- The numbers of sinks, by the numbers by which the sinks go.
use Rattle.std.specs.Prelude.{◌≡◌, ℕ, suc, ◌<◌, List, [], ◌∷◌, ◌==◌, if◌then◌else◌, length}
use Rattle.std.specs.List.{AllByRecursion}
use Rattle.pipe_plan.specs.Plan.{Plan}
use Rattle.pipe_plan.specs.Faults.{IsWellFormed}
use Rattle.pipe_driver.specs.declared.branch.SinkAt.{SinkAt}
use Rattle.pipe_driver.specs.declared.branch.SinkNode.{SinkNode}
use Rattle.pipe_driver.specs.BranchLaws.{all_sinks, first_named}
use Rattle.pipe_driver.specs.Legs.{sink_node}

-- the place of the sink that goes by s, or behind them all
abbrev pub place_among : (nodes : ℕ) → List SinkAt → (s : ℕ) → ℕ
place_among nodes [] s = 0
place_among nodes (at ∷ ats) s =
    if s == sink_node nodes at then 0 else suc (place_among nodes ats s)

-- the different sinks of a plan, in the order in which its branches name them first
abbrev pub named_sinks : Plan → (root : ℕ) → List SinkAt
named_sinks plan root = first_named [] (all_sinks plan root)

-- the number of the sink that goes by s
abbrev pub sink_number : Plan → (root s : ℕ) → ℕ
sink_number plan root s = place_among (length plan.nodes) (named_sinks plan root) s

-- two sinks don't have one number
abbrev pub SinksAreToldApart : Type 0
SinksAreToldApart =
    (plan : Plan) (root s t : ℕ) → sink_number plan root s < length (named_sinks plan root)
    → sink_number plan root t ≡ sink_number plan root s → t ≡ s

-- a sink of a branch has the number of that by which it goes
pub record HasNumber (nodes : ℕ) (named : List SinkAt) (sink : SinkNode) : Type 0 where
  pub is : sink.count ≡ place_among nodes named (sink_node nodes sink.at)
  pub there : sink.count < length named

abbrev pub SinksHaveNumbers : Type 0
SinksHaveNumbers =
    (plan : Plan) (root : ℕ) → IsWellFormed plan root
    → AllByRecursion (HasNumber (length plan.nodes) (named_sinks plan root)) (all_sinks plan root)
