-- Pipelines that stand for branches.
use Rattle.std.specs.Prelude.{◌≡◌, ℕ, ◌<◌, ◌≤◌, List, [], ◌∷◌, ◌++◌, length, Option, Some, None}
use Rattle.std.specs.List.{flat_map, AllByRecursion}
use Rattle.pipe_source.specs.Supplies.{source_text}
use Rattle.pipe_source.specs.declared.phys_source.PhysSource.{PhysSource}
use Rattle.pipe_driver.specs.declared.branch.Branch.{Branch}
use Rattle.pipe_driver.specs.declared.branch.SinkAt.{SinkAt}
use Rattle.pipe_driver.specs.declared.branch.SinkNode.{SinkNode}
use Rattle.pipe_driver.specs.Texts.{arrow_word, branch_text}
use Rattle.pipe_driver.specs.Legs.{leg_of, legs_from, sink_node, way_of}
use Rattle.pipe_driver.specs.Numbers.{named_sinks, HasNumber, place_among}
use Rattle.pipe_driver.specs.Shape.{Begins, kind_at}
use Rattle.pipe_driver.specs.Ways.{AreLegs}
use Rattle.pipe_driver.specs.declared.pipe_line.Leg.{Leg}
use Rattle.pipe_driver.specs.declared.pipe_line.PipeLine.{PipeLine}
use Rattle.pipe_driver.specs.Lines.{leg_as, way_as}
use Rattle.pipe_run.specs.declared.stage.Stage.{Stage}
use Rattle.pipe_slots.specs.PhysWords.{text_of}
use Rattle.pipe_slots.specs.declared.phys_operator.PhysOperator.{PhysOperator}
use Rattle.pipe_slots.specs.Sinks.{sink_text}
use Rattle.pipe_engine.specs.Stands.{StandsFor}
use Rattle.pipe_engine.specs.declared.part.Part.{Part}
use Rattle.pipe_plan.specs.Under.{node_at}
use Rattle.pipe_check.specs.Checked.{Checked}
use Rattle.pipe_lines.specs.Made.{Specs, Sinks, settings_in}
use Rattle.pipe_convert.specs.Nodes.{IsUnder, plan_in, nodes_in, meaning_in}
use Rattle.pipe_convert.specs.Sources.{IsSourceAt, taken_at}

-- ---- the text of a pipeline

abbrev pub stage_text : {H : Type 0} → Stage (PhysOperator H) → List ℕ
stage_text stage = arrow_word (text_of stage.operator)

-- the operators of a leg, and its sink, each behind an arrow
abbrev pub part_text : {H : Type 0} → Part H → List ℕ
part_text part = flat_map stage_text part.stages.items ++ arrow_word (sink_text part.target.sink)

abbrev pub leg_text : {H : Type 0} → Leg (Part H) → List ℕ
leg_text leg = part_text leg.part

abbrev pub source_or_none : Option PhysSource → List ℕ
source_or_none None = []
source_or_none (Some source) = source_text source

-- its source, its operators and its sinks, in the order in which rows come to them
abbrev pub line_text : {H : Type 0} → PipeLine PhysSource (Part H) → List ℕ
line_text line = source_or_none line.source ++ flat_map leg_text line.legs.items

-- ---- where the sinks of a branch stand

-- each behind the one before, and the last behind all operators
abbrev pub AreEnds : (most first : ℕ) → List SinkNode → Type 0
AreEnds most first [] = first ≡ most
AreEnds most first (sink ∷ sinks) = (first ≤ sink.offset) × AreEnds most sink.offset sinks

abbrev pub HasEnds : Branch → Type 0
HasEnds branch = AreEnds (length branch.operators) 0 branch.sinks

-- ---- a pipeline that stands for a branch

-- a leg that begins at a node, with its sink's number
pub record IsLegMade {H : Type 0} (plan : Checked) (specs : Specs) (sinks : Sinks H) (hasher : H) (parts : ℕ)
    (start : ℕ) (leg : Leg (Part H)) : Type 0 where
  pub number : leg.count ≡ place_among (length (nodes_in plan))
      (named_sinks (plan_in plan) plan.root) (sink_node (length (nodes_in plan)) leg.at)
  pub few : leg.count < 4294967295
  pub stands : StandsFor leg.part (settings_in plan specs sinks hasher parts) (meaning_in plan) start
      (leg_as (length (nodes_in plan)) leg)
  -- the nodes whose rows are taken there
  pub scans : leg.part.scans.items ≡ taken_at (node_at (nodes_in plan) start) start

-- each begins at the node of the sink before it
abbrev pub AreLegsMade : {H : Type 0} → Checked → Specs → Sinks H → (hasher : H) → (parts : ℕ) →
    (start : ℕ) → List (Leg (Part H)) → Type 0
AreLegsMade plan specs sinks hasher parts start [] = Unit {0}
AreLegsMade plan specs sinks hasher parts start (leg ∷ legs) =
    IsLegMade plan specs sinks hasher parts start leg
    × AreLegsMade plan specs sinks hasher parts (sink_node (length (nodes_in plan)) leg.at) legs

abbrev pub HasSourceOf : Checked → (n : ℕ) → Option PhysSource → Type 0
HasSourceOf plan n None = ⊥
HasSourceOf plan n (Some source) = IsSourceAt plan n source

-- a pipeline whose legs and source do what a branch says, with the branch's text
pub record IsLineOf {H : Type 0} (plan : Checked) (specs : Specs) (sinks : Sinks H) (hasher : H) (parts : ℕ)
    (branch : Branch) (line : PipeLine PhysSource (Part H)) : Type 0 where
  pub way : way_as (length (nodes_in plan)) line ≡ way_of (length (nodes_in plan)) branch
  pub legs : AreLegsMade plan specs sinks hasher parts line.start line.legs.items
  pub source : HasSourceOf plan line.start line.source
  pub text : line_text line ≡ branch_text (nodes_in plan) branch

-- one after another
abbrev pub AreLinesOf : {H : Type 0} → Checked → Specs → Sinks H → (hasher : H) → (parts : ℕ) →
    List Branch → List (PipeLine PhysSource (Part H)) → Type 0
AreLinesOf plan specs sinks hasher parts [] [] = Unit {0}
AreLinesOf plan specs sinks hasher parts [] (line ∷ lines) = ⊥
AreLinesOf plan specs sinks hasher parts (branch ∷ branches) [] = ⊥
AreLinesOf plan specs sinks hasher parts (branch ∷ branches) (line ∷ lines) =
    IsLineOf plan specs sinks hasher parts branch line
    × AreLinesOf plan specs sinks hasher parts branches lines
