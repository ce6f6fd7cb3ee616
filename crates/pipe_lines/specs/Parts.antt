-- What the pipeline of a branch is made of.
use Rattle.std.specs.Prelude.{◌≡◌, ℕ, ◌<◌, List, [], ◌∷◌, Option}
use Rattle.pipe_driver.specs.declared.branch.SinkNode.{SinkNode}
use Rattle.pipe_check.specs.Checked.{Checked}
use Rattle.pipe_convert.specs.Nodes.{meaning_in}
use Rattle.pipe_convert.specs.Steps.{GoesThrough, IsThere}
use Rattle.pipe_slots.specs.declared.phys_operator.PhysOperator.{PhysOperator}
use Rattle.pipe_lines.specs.Cuts.{place_node}
use Rattle.pipe_lines.specs.Made.{Specs, Sinks, IsOperatorAt, IsSinkSplit}
use Rattle.pipe_lines.specs.declared.threaded_sink.ThreadedSink.{ThreadedSink}

-- ---- operators

-- rows go through a node
abbrev pub IsGoneThrough : Checked → (n : ℕ) → Type 0
IsGoneThrough plan n = (given : ℕ) × GoesThrough plan given n

-- operators are those of some nodes
abbrev pub AreOperatorsAt : {H : Type 0} → Checked → Specs → List ℕ → List (PhysOperator H) → Type 0
AreOperatorsAt plan specs [] [] = Unit {0}
AreOperatorsAt plan specs [] (o ∷ os) = ⊥
AreOperatorsAt plan specs (n ∷ ns) [] = ⊥
AreOperatorsAt plan specs (n ∷ ns) (o ∷ os) =
    IsOperatorAt plan specs n o × AreOperatorsAt plan specs ns os

-- ---- sinks

abbrev pub IsSinkThere : Checked → SinkNode → Type 0
IsSinkThere plan sink = IsThere (meaning_in plan) sink.at

-- the node of a sink, where it has one
abbrev pub node_of_sink : SinkNode → Option ℕ
node_of_sink sink = place_node sink.at

-- a sink that a branch says, split from that of its place, with its number and its end
pub record IsSinkMade {H : Type 0} (plan : Checked) (specs : Specs) (sinks : Sinks H) (hasher : H)
    (parts workers : ℕ) (said : SinkNode) (made : ThreadedSink H) : Type 0 where
  pub split : IsSinkSplit plan specs sinks hasher parts said.at made.sink
  pub count : made.count ≡ said.count
  pub few : made.count < 4294967295
  pub end : made.operator_end ≡ said.offset
  pub made_for : made.workers ≡ workers

abbrev pub AreSinksMade : {H : Type 0} → Checked → Specs → Sinks H → (hasher : H) →
    (parts workers : ℕ) → List SinkNode → List (ThreadedSink H) → Type 0
AreSinksMade plan specs sinks hasher parts workers [] [] = Unit {0}
AreSinksMade plan specs sinks hasher parts workers [] (s ∷ ss) = ⊥
AreSinksMade plan specs sinks hasher parts workers (k ∷ ks) [] = ⊥
AreSinksMade plan specs sinks hasher parts workers (k ∷ ks) (s ∷ ss) =
    IsSinkMade plan specs sinks hasher parts workers k s
    × AreSinksMade plan specs sinks hasher parts workers ks ss
