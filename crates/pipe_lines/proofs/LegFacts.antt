-- A leg that is made of what a branch says stands for it.
use Rattle.std.proofs.Common.{◌≡◌, ℕ, ◌<◌, List, [], ◌∷◌, ◌++◌, length, Option, Some, refl, ap, sym, subst, ◌∙◌}
use Rattle.std.specs.List.{flat_map}
use Rattle.pipe_plan.specs.Faults.{IsWellFormed}
use Rattle.pipe_plan.specs.Under.{node_at}
use Rattle.pipe_driver.specs.declared.branch.SinkAt.{SinkAt}
use Rattle.pipe_driver.specs.declared.branch.SinkAt.TheVariants as at
use Rattle.pipe_driver.specs.declared.branch.SinkNode.{SinkNode}
use Rattle.pipe_driver.specs.Texts.{arrow_word, operator_text, operator_texts, sink_word}
use Rattle.pipe_driver.specs.Legs.{leg_of, sink_node}
use Rattle.pipe_driver.specs.Numbers.{place_among, named_sinks}
use Rattle.pipe_driver.specs.declared.pipe_line.Leg.{Leg}
use Rattle.pipe_driver.specs.Lines.{leg_as}
use Rattle.pipe_run.specs.declared.stage.SinkStage.{SinkStage}
use Rattle.pipe_run.specs.declared.stage.Stage.{Stage}
use Rattle.pipe_slots.specs.declared.phys_operator.PhysOperator.{PhysOperator}
use Rattle.pipe_convert.specs.Converted.{schema_in}
use Rattle.pipe_slots.specs.Sinks.{setting_in, sink_rows, sink_schema, sink_text}
use Rattle.pipe_engine.specs.Stands.{AreStagesOf, EndsAt, IsSinkOf, KeepsOrder}
use Rattle.pipe_engine.specs.declared.part.Part.{Part}
use Rattle.pipe_slots.specs.declared.phys_sink.PhysSink.{PhysSink}
use Rattle.pipe_check.specs.Checked.{Checked}
use Rattle.pipe_lines.specs.LegsMade.{Leads, IsLegOf}
use Rattle.pipe_lines.specs.Lines.{stage_text}
use Rattle.pipe_lines.specs.Made.{Specs, Sinks, settings_in, setting_at, setting_or_none, sink_at, IsOperatorAt, IsSinkAt, IsSomeSinkAt, IsSinkSplit, AreSinks, AreStagesAt}
use Rattle.pipe_convert.specs.Nodes.{plan_in, nodes_in, meaning_in}
use Rattle.pipe_convert.specs.Sources.{taken_at}
use Rattle.pipe_convert.specs.Steps.{GoesOn, GoesAlong, IsGiven, IsThere, last_of}
use Rattle.pipe_convert.proofs.ChainSteps.{chain_goes}
use Rattle.pipe_lines.proofs.RootOrder.{keeps_order}

-- ---- where a leg ends

pub sink_there : (plan : Checked) (given : ℕ) (ops : List ℕ) (a : SinkAt) → GoesOn plan given ops a → IsThere (meaning_in plan) a
sink_there plan given ops at.Ordered on = tt
sink_there plan given ops (at.Sort n) on = on.sink.1
sink_there plan given ops (at.Build n) on = on.sink.1

module _ {H : Type 0} (plan : Checked) (specs : Specs) where
  -- ---- stages

  stages_stand : (sinks : Sinks H) (hasher : H) (parts start : ℕ) (ops : List ℕ) (stages : List (Stage (PhysOperator H))) (a : SinkAt) (b : SinkStage (PhysSink H)) → GoesAlong plan start ops → AreStagesAt plan specs start stages ops → b.node ≡ last_of start ops
      → IsSinkOf (settings_in plan specs sinks hasher parts) (meaning_in plan) (last_of start ops) a b.sink → AreStagesOf (settings_in plan specs sinks hasher parts) (meaning_in plan) start stages ops a b
  stages_stand sinks hasher parts start [] [] a b along are at_end sink = (at_end, sink)
  stages_stand sinks hasher parts start [] (stage ∷ stages) a b along are at_end sink = absurd are
  stages_stand sinks hasher parts start (n ∷ ns) [] a b along are at_end sink = absurd are
  stages_stand sinks hasher parts start (n ∷ ns) (stage ∷ stages) a b along are at_end sink =
      (are.0, are.1.does (setting_at plan sinks) hasher parts start along.0, stages_stand sinks hasher parts n ns stages a b along.1 are.2 at_end sink)

  stages_text : (start : ℕ) (ops : List ℕ) (stages : List (Stage (PhysOperator H))) → AreStagesAt plan specs start stages ops → flat_map stage_text stages ≡ operator_texts (nodes_in plan) ops
  stages_text start [] [] are = refl
  stages_text start [] (stage ∷ stages) are = absurd are
  stages_text start (n ∷ ns) [] are = absurd are
  stages_text start (n ∷ ns) (stage ∷ stages) are =
      ap (λ t. arrow_word t ++ flat_map stage_text stages) are.1.text ∙ ap (λ r. operator_text (nodes_in plan) n ++ r) (stages_text n ns stages are.2)

  -- ---- a sink

  split_from : (sinks : Sinks H) (hasher : H) (parts : ℕ) (a : SinkAt) (o : Option (PhysSink H)) (from k : PhysSink H) → sink_at plan sinks a ≡ o → o ≡ Some from → IsSomeSinkAt plan specs hasher parts a o
      → setting_in k ≡ setting_in from → sink_schema k ≡ sink_schema from → sink_rows k ≡ [] → sink_text k ≡ sink_text from → IsSinkSplit plan specs sinks hasher parts a k
  split_from sinks hasher parts a o from k at_a some are setting schema empty text =
      let is : IsSinkAt plan specs hasher parts a from = subst (IsSomeSinkAt plan specs hasher parts a) some are in
      let own : setting_in from ≡ setting_at plan sinks a = sym (ap setting_or_none (at_a ∙ some)) in
      record {
        setting = setting ∙ own;
        schema = λ given g. schema ∙ is.schema given g;
        ends = subst (EndsAt (settings_in plan specs sinks hasher parts) (meaning_in plan) a) own (is.ends (setting_at plan sinks));
        empty = empty;
        text = text ∙ is.text;
      }

  pub split_of : (sinks : Sinks H) (hasher : H) (parts : ℕ) (a : SinkAt) (found : Option (PhysSink H)) (from k : PhysSink H) → AreSinks plan specs hasher parts sinks → IsThere (meaning_in plan) a → found ≡ sink_at plan sinks a → found ≡ Some from
      → setting_in k ≡ setting_in from → sink_schema k ≡ sink_schema from → sink_rows k ≡ [] → sink_text k ≡ sink_text from → IsSinkSplit plan specs sinks hasher parts a k
  split_of sinks hasher parts a found from k are there is some setting schema empty text =
      split_from sinks hasher parts a found from k (sym is) some (subst (IsSomeSinkAt plan specs hasher parts a) (sym is) (are.each a there)) setting schema empty text

  -- ---- a leg

  pub leg_is : (sinks : Sinks H) (hasher : H) (parts start : ℕ) (ops : List ℕ) (sink : SinkNode) (leg : Leg (Part H)) → IsWellFormed (plan_in plan) plan.root → Leads plan start ops sink
      → leg.operators.items ≡ ops → leg.at ≡ sink.at → leg.count ≡ sink.count → leg.count < 4294967295 → leg.part.at ≡ sink.at
      → AreStagesAt plan specs start leg.part.stages.items ops → IsSinkSplit plan specs sinks hasher parts sink.at leg.part.target.sink → leg.part.target.node ≡ last_of start ops → leg.part.scans.items ≡ taken_at (node_at (nodes_in plan) start) start → IsLegOf plan specs sinks hasher parts start ops sink leg
  leg_is sinks hasher parts start ops sink leg good leads ops_is at_is count_is few part_at are made at_end scans =
      let x = settings_in plan specs sinks hasher parts in
      let m = meaning_in plan in
      let size = length (nodes_in plan) in
      let goes = chain_goes plan good start ops sink.at leads.on in
      let stand = stages_stand sinks hasher parts start ops leg.part.stages.items sink.at leg.part.target goes.0 are at_end (record { setting = made.setting; schema = made.schema (last_of start ops) goes.1; ends = made.ends; empty = made.empty }) in
      record {
        nodes = ap (λ o. leg_of size o leg.at) ops_is ∙ ap (leg_of size ops) at_is;
        at = at_is;
        made = record {
          number = count_is ∙ leads.number.is ∙ ap (λ a. place_among size (named_sinks (plan_in plan) plan.root) (sink_node size a)) (sym at_is);
          few = few;
          stands = record {
            at = part_at ∙ sym at_is;
            sink = refl;
            stages = subst (λ o. AreStagesOf x m start leg.part.stages.items o leg.part.at leg.part.target) (sym ops_is) (subst (λ a. AreStagesOf x m start leg.part.stages.items ops a leg.part.target) (sym part_at) stand);
            order = subst (KeepsOrder x m start leg.part.stages.items) (sym part_at) (keeps_order plan specs x start ops leg.part.stages.items sink.at refl good leads.on.under goes.0 goes.1 are);
          };
          scans = scans;
        };
        text = ap (λ t. t ++ arrow_word (sink_text leg.part.target.sink)) (stages_text start ops leg.part.stages.items are) ∙ ap (λ t. operator_texts (nodes_in plan) ops ++ arrow_word t) made.text;
      }
