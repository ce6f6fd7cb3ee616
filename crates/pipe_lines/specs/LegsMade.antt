-- Legs that are made of what a branch says.
use Rattle.std.specs.Prelude.{◌≡◌, ℕ, List, ◌++◌, length, map}
use Rattle.std.specs.List.{flat_map}
use Rattle.pipe_driver.specs.declared.branch.SinkNode.{SinkNode}
use Rattle.pipe_driver.specs.Texts.{arrow_word, operator_texts, sink_word, sink_texts}
use Rattle.pipe_driver.specs.Legs.{leg_of, legs_from}
use Rattle.pipe_driver.specs.declared.pipe_line.Leg.{Leg}
use Rattle.pipe_driver.specs.Lines.{leg_as}
use Rattle.pipe_engine.specs.declared.part.Part.{Part}
use Rattle.pipe_check.specs.Checked.{Checked}
use Rattle.pipe_lines.specs.Lines.{IsLegMade, AreLegsMade, leg_text}
use Rattle.pipe_lines.specs.Made.{Specs, Sinks}
use Rattle.pipe_convert.specs.Laws.{Numbered}
use Rattle.pipe_convert.specs.Nodes.{nodes_in}
use Rattle.pipe_convert.specs.Steps.{GoesOn}

-- nodes and a sink are those of a leg that begins at a node
pub record Leads (plan : Checked) (start : ℕ) (operators : List ℕ) (sink : SinkNode) : Type 0 where
  pub on : GoesOn plan start operators sink.at
  pub number : Numbered plan sink

-- a leg has these nodes and this sink, does what they do, and has their texts
pub record IsLegOf {H : Type 0} (plan : Checked) (specs : Specs) (sinks : Sinks H) (hasher : H) (parts : ℕ)
    (start : ℕ) (operators : List ℕ) (sink : SinkNode) (leg : Leg (Part H)) : Type 0 where
  pub nodes : leg_as (length (nodes_in plan)) leg
      ≡ leg_of (length (nodes_in plan)) operators sink.at
  pub at : leg.at ≡ sink.at
  pub made : IsLegMade plan specs sinks hasher parts start leg
  pub text : leg_text leg
      ≡ operator_texts (nodes_in plan) operators ++ arrow_word (sink_word (nodes_in plan) sink.at)

-- legs are those that a branch says from so many operators on, the first of which begins at a node
pub record HasLegsOf {H : Type 0} (plan : Checked) (specs : Specs) (sinks : Sinks H) (hasher : H) (parts : ℕ)
    (start : ℕ) (operators : List ℕ) (first : ℕ) (ends : List SinkNode)
    (legs : List (Leg (Part H))) : Type 0 where
  pub nodes : map (leg_as (length (nodes_in plan))) legs
      ≡ legs_from (length (nodes_in plan)) operators first ends
  pub made : AreLegsMade plan specs sinks hasher parts start legs
  pub text : flat_map leg_text legs ≡ sink_texts (nodes_in plan) operators first ends
