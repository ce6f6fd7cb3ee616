-- A pipeline that is made of a branch stands for it.
use Rattle.std.proofs.Common.{◌≡◌, ℕ, ◌<◌, true, List, [], ◌∷◌, ◌++◌, length, map, Some, refl, ap, sym, subst, ◌∙◌, append_assoc}
use Rattle.std.specs.List.{flat_map, AllByRecursion}
use Rattle.std.proofs.lemmas.List.{append-nil}
use Rattle.pipe_plan.specs.Under.{node_at}
use Rattle.pipe_source.specs.declared.phys_source.PhysSource.{PhysSource}
use Rattle.pipe_driver.specs.declared.branch.Branch.{Branch}
use Rattle.pipe_driver.specs.declared.branch.SinkNode.{SinkNode}
use Rattle.pipe_driver.specs.Texts.{arrow_word, between, node_word, operator_texts, sink_word, sink_texts}
use Rattle.pipe_driver.specs.Legs.{leg_of, legs_from, sink_node, way_of, Way}
use Rattle.pipe_driver.specs.Ways.{AreLegs}
use Rattle.pipe_driver.specs.declared.pipe_line.Leg.{Leg}
use Rattle.pipe_driver.specs.declared.pipe_line.PipeLine.{PipeLine}
use Rattle.pipe_driver.specs.Lines.{leg_as, ways_as}
use Rattle.pipe_engine.specs.declared.part.Part.{Part}
use Rattle.pipe_check.specs.Checked.{Checked}
use Rattle.pipe_lines.specs.LegsMade.{Leads, IsLegOf, HasLegsOf}
use Rattle.pipe_lines.specs.Lines.{leg_text, source_or_none, AreLegsMade, IsLineOf, AreLinesOf}
use Rattle.pipe_lines.specs.Made.{Specs, Sinks}
use Rattle.pipe_convert.specs.Laws.{IsBranch, Numbered}
use Rattle.pipe_convert.specs.Nodes.{IsUnder, plan_in, nodes_in, meaning_in}
use Rattle.pipe_convert.specs.Sources.{IsSourceAt}
use Rattle.pipe_convert.proofs.JoinNodes.{under_sort}

-- ---- where the next leg begins

abbrev pub StartsUnder : Checked → ℕ → List SinkNode → Type 0
StartsUnder plan start [] = Unit {0}
StartsUnder plan start (sink ∷ sinks) = IsUnder plan start

-- what is left of a branch behind so many operators
pub record IsRest (plan : Checked) (start : ℕ) (ops : List ℕ) (first : ℕ) (sinks : List SinkNode) : Type 0 where
  pub legs : AreLegs (meaning_in plan) start (legs_from (length (nodes_in plan)) ops first sinks)
  pub numbers : AllByRecursion (Numbered plan) sinks
  pub under : StartsUnder plan start sinks

starts_at : (plan : Checked) (start : ℕ) (sinks : List SinkNode) → IsUnder plan start → StartsUnder plan start sinks
starts_at plan start [] u = tt
starts_at plan start (sink ∷ sinks) u = u

pub rest_first : (plan : Checked) (branch : Branch) → IsBranch plan branch → IsRest plan branch.source branch.operators 0 branch.sinks
rest_first plan branch is = record { legs = is.legs; numbers = is.numbers; under = starts_at plan branch.source branch.sinks is.under }

pub leads : (plan : Checked) (start : ℕ) (ops : List ℕ) (first : ℕ) (sink : SinkNode) (sinks : List SinkNode) → IsRest plan start ops first (sink ∷ sinks) → Leads plan start (between ops first sink.offset) sink
leads plan start ops first sink sinks is = record {
  on = record { under = is.under; chain = is.legs.0.chain; chain_sink = is.legs.0.chain_sink; sink = is.legs.0.at };
  number = is.numbers.0;
}

pub rest_next : (plan : Checked) (start : ℕ) (ops : List ℕ) (first : ℕ) (sink : SinkNode) (sinks : List SinkNode) → IsRest plan start ops first (sink ∷ sinks) → IsRest plan (sink_node (length (nodes_in plan)) sink.at) ops sink.offset sinks
rest_next plan start ops first sink [] is = record { legs = is.legs.1; numbers = is.numbers.1; under = tt }
rest_next plan start ops first sink (next ∷ sinks) is = record { legs = is.legs.1; numbers = is.numbers.1; under = under_sort plan (sink_node (length (nodes_in plan)) sink.at) is.legs.0.on }

-- ---- legs one behind the other

module _ {H : Type 0} (plan : Checked) (specs : Specs) (places : Sinks H) (hasher : H) (parts : ℕ) where
  abbrev size : ℕ
  size = length (nodes_in plan)

  pub one_more : (start : ℕ) (ops : List ℕ) (first : ℕ) (sink : SinkNode) (sinks : List SinkNode) (leg : Leg (Part H)) (more : List (Leg (Part H))) → IsLegOf plan specs places hasher parts start (between ops first sink.offset) sink leg
      → HasLegsOf plan specs places hasher parts (sink_node size sink.at) ops sink.offset sinks more → HasLegsOf plan specs places hasher parts start ops first (sink ∷ sinks) (leg ∷ more)
  one_more start ops first sink sinks leg more is h = record {
    nodes = ap (λ l. l ∷ map (leg_as size) more) is.nodes ∙ ap (λ l. leg_of size (between ops first sink.offset) sink.at ∷ l) h.nodes;
    made = (is.made, subst (λ a. AreLegsMade plan specs places hasher parts (sink_node size a) more) (sym is.at) h.made);
    text = ap (λ t. t ++ flat_map leg_text more) is.text ∙ ap (λ r. (operator_texts (nodes_in plan) (between ops first sink.offset) ++ arrow_word (sink_word (nodes_in plan) sink.at)) ++ r) h.text;
  }

  -- ---- pipelines

  pub line_is : (branch : Branch) (line : PipeLine PhysSource (Part H)) (source : PhysSource) → line.start ≡ branch.source → line.source ≡ Some source → IsSourceAt plan branch.source source → HasLegsOf plan specs places hasher parts branch.source branch.operators 0 branch.sinks line.legs.items → IsLineOf plan specs places hasher parts branch line
  line_is branch line source start some is legs = record {
    way = ap (λ s. let w : Way = record { start = s; legs = map (leg_as size) line.legs.items } in w) start ∙ ap (λ l. let w : Way = record { start = branch.source; legs = l } in w) legs.nodes;
    legs = subst (λ s. AreLegsMade plan specs places hasher parts s line.legs.items) (sym start) legs.made;
    source = rw (some, start) is;
    text = ap (λ o. source_or_none o ++ flat_map leg_text line.legs.items) some ∙ ap (λ t. t ++ flat_map leg_text line.legs.items) is.text ∙ ap (λ t. node_word (node_at (nodes_in plan) branch.source) ++ t) legs.text;
  }

  abbrev pub LinesBehind : (all rest : List Branch) → List (PipeLine PhysSource (Part H)) → Type 0
  LinesBehind all rest lines = (more : List (PipeLine PhysSource (Part H))) → AreLinesOf plan specs places hasher parts rest more → AreLinesOf plan specs places hasher parts all (lines ++ more)

  pub lines_first : (all : List Branch) (lines : List (PipeLine PhysSource (Part H))) → lines ≡ [] → LinesBehind all all lines
  lines_first all lines none more h = subst (λ l. AreLinesOf plan specs places hasher parts all (l ++ more)) (sym none) h

  pub lines_next : (all rest : List Branch) (branch : Branch) (lines : List (PipeLine PhysSource (Part H))) (line : PipeLine PhysSource (Part H)) → IsLineOf plan specs places hasher parts branch line → LinesBehind all (branch ∷ rest) lines → LinesBehind all rest (lines ++ line ∷ [])
  lines_next all rest branch lines line is known more h =
      subst (AreLinesOf plan specs places hasher parts all) (sym (append_assoc lines (line ∷ []) more)) (known (line ∷ more) (is, h))

  pub lines_done : (all rest : List Branch) (lines : List (PipeLine PhysSource (Part H))) → rest ≡ [] → LinesBehind all rest lines → AreLinesOf plan specs places hasher parts all lines
  lines_done all rest lines none known =
      subst (AreLinesOf plan specs places hasher parts all) (append-nil lines) (known [] (subst (λ r. AreLinesOf plan specs places hasher parts r []) (sym none) tt))

  -- the pipelines are the branches, in order
  pub lines_ways : (bs : List Branch) (lines : List (PipeLine PhysSource (Part H))) → AreLinesOf plan specs places hasher parts bs lines → ways_as size lines ≡ map (way_of size) bs
  lines_ways [] [] are = refl
  lines_ways [] (line ∷ lines) are = absurd are
  lines_ways (b ∷ bs) [] are = absurd are
  lines_ways (b ∷ bs) (line ∷ lines) are = ap (λ w. w ∷ ways_as size lines) are.0.way ∙ ap (λ ws. way_of size b ∷ ws) (lines_ways bs lines are.1)
