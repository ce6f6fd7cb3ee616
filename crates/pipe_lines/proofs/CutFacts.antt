-- A pipeline that is made of a branch's operators and sinks stands for the branch, when it is cut.
use Rattle.std.proofs.Common.{◌≡◌, ℕ, zero, suc, ◌-◌, ◌<◌, Bool, true, false, List, [], ◌∷◌, length, map, take, drop, Option, Some, None, refl, ap, sym, subst, ◌∙◌, arith}
use Rattle.pipe_plan.specs.Faults.{IsWellFormed}
use Rattle.pipe_plan.specs.Node.{Node}
use Rattle.pipe_plan.specs.Node as node
use Rattle.pipe_plan.specs.Under.{node_at}
use Rattle.pipe_driver.specs.Branches.{is_scan_at}
use Rattle.std.specs.List.{list_all}
use Rattle.pipe_driver.specs.declared.branch.SinkAt.{SinkAt}
use Rattle.pipe_driver.specs.declared.branch.SinkAt.TheVariants as at
use Rattle.pipe_driver.specs.declared.branch.SinkNode.{SinkNode}
use Rattle.pipe_driver.specs.Texts.{between}
use Rattle.pipe_driver.specs.Legs.{sink_node}
use Rattle.pipe_driver.specs.Meaning.{Meaning}
use Rattle.pipe_driver.specs.Shape.{kind_at, kind_of, union_kind, is_sorting}
use Rattle.pipe_driver.proofs.PlanParts.{there}
use Rattle.pipe_driver.proofs.Tests.{and-cases}
use Rattle.pipe_driver.specs.declared.pipe_line.Leg.{Leg}
use Rattle.pipe_engine.specs.Stands.{Settings, EndsAt}
use Rattle.pipe_engine.specs.declared.part.Part.{Part}
use Rattle.pipe_slots.specs.Sinks.{SinkSetting, setting_in}
use Rattle.pipe_slots.specs.declared.phys_sink.PhysSink.{PhysSink}
use Rattle.pipe_slots.specs.declared.phys_sink.PhysSink.TheVariants as sink
use Rattle.pipe_slots.specs.declared.phys_operator.PhysOperator.{PhysOperator}
use Rattle.pipe_check.specs.Checked.{Checked}
use Rattle.pipe_convert.specs.Nodes.{IsUnder, plan_in, nodes_in, meaning_in}
use Rattle.pipe_convert.specs.Sources.{taken_at}
use Rattle.pipe_convert.specs.Steps.{last_of}
use Rattle.pipe_convert.proofs.JoinNodes.{under_sort}
use Rattle.pipe_lines.specs.Cuts.{IsLegCut, AreLegsCut, next_of, place_node, place_of, stages_of}
use Rattle.pipe_lines.specs.LegsMade.{IsLegOf, HasLegsOf}
use Rattle.pipe_lines.specs.Made.{Specs, Sinks, IsOperatorAt, IsSinkSplit, AreStagesAt, settings_in, setting_at}
use Rattle.pipe_lines.specs.Parts.{AreOperatorsAt, AreSinksMade, node_of_sink}
use Rattle.pipe_lines.specs.declared.threaded_sink.ThreadedSink.{ThreadedSink}
use Rattle.pipe_lines.proofs.LegFacts.{leg_is}
use Rattle.pipe_lines.proofs.LineFacts.{IsRest, leads, rest_next, one_more}

-- ---- where legs begin

no_sort : (b : Bool) (is : List ℕ) → is_sorting (union_kind b is) ≡ true → ⊥
no_sort true is h = (let f : false ≡ true = h in cc)
no_sort false is h = (let f : false ≡ true = h in cc)

-- of a sort the rows are its own
taken_sort : (nodes : List Node) (n : ℕ) (x : Node) → is_sorting (kind_of nodes x) ≡ true → taken_at x n ≡ n ∷ []
taken_sort nodes n (node.DataFrameScan frame columns) h = refl
taken_sort nodes n (node.Filter i predicate) h = refl
taken_sort nodes n (node.SimpleProjection i columns) h = refl
taken_sort nodes n (node.Select i exprs) h = refl
taken_sort nodes n (node.HStack i exprs) h = refl
taken_sort nodes n (node.MapFunction i function) h = refl
taken_sort nodes n (node.Union is) h = absurd (no_sort (list_all (is_scan_at nodes) is) is h)
taken_sort nodes n (node.Join l r left_on right_on options) h = refl
taken_sort nodes n (node.Sort i by options) h = refl

module _ (plan : Checked) (good : IsWellFormed (plan_in plan) plan.root) where
  abbrev size : ℕ
  size = length (nodes_in plan)

  sort_taken : (n : ℕ) → (meaning_in plan).is_sort n ≡ true → taken_at (node_at (nodes_in plan) n) n ≡ n ∷ []
  sort_taken n sort = taken_sort (nodes_in plan) n (node_at (nodes_in plan) n) (and-cases _ (is_sorting (kind_at (nodes_in plan) n)) sort).1

  next_is : (a : SinkAt) (start : ℕ) → (meaning_in plan).is_sort (sink_node size a) ≡ true → next_of start (place_node a) ≡ sink_node size a
  next_is at.Ordered start sort =
      let lt : size < size = there (plan_in plan) plan.root size good (under_sort plan size sort) in
      absurd (omega (arith, lt))
  next_is (at.Sort n) start sort = refl
  next_is (at.Build n) start sort = refl

  -- a leg begins at a node, and takes what is taken there
  abbrev pub BeginsAt : (start given : ℕ) → (taken : List ℕ) → List SinkNode → Type 0
  BeginsAt start given taken [] = Unit {0}
  BeginsAt start given taken (k ∷ ks) = (given ≡ start) × (taken ≡ taken_at (node_at (nodes_in plan) start) start)

  pub begins_first : (start given : ℕ) (taken : List ℕ) (ks : List SinkNode) → given ≡ start → taken ≡ taken_at (node_at (nodes_in plan) start) start → BeginsAt start given taken ks
  begins_first start given taken [] same takes = tt
  begins_first start given taken (k ∷ ks) same takes = (same, takes)

  begins_next : (start : ℕ) (ops : List ℕ) (first : ℕ) (k : SinkNode) (ks : List SinkNode) (given : ℕ) → IsRest plan start ops first (k ∷ ks) → BeginsAt (sink_node size k.at) (next_of given (place_node k.at)) (next_of given (place_node k.at) ∷ []) ks
  begins_next start ops first k [] given rest = tt
  begins_next start ops first k (next ∷ ks) given rest =
      let sort : (meaning_in plan).is_sort (sink_node size k.at) ≡ true = rest.legs.0.on in
      let same = next_is k.at given sort in
      (same, ap (λ n. n ∷ []) same ∙ sym (sort_taken (sink_node size k.at) sort))

-- ---- the place of a sink

place_is : {H : Type 0} (x : Settings H) (m : Meaning) (a : SinkAt) (k : PhysSink H) → EndsAt x m a (setting_in k) → place_of k (place_node a) ≡ a
place_is x m at.Ordered k ends = refl
place_is x m (at.Sort n) (sink.Ordered s) ends = absurd ends
place_is x m (at.Sort n) (sink.Sort s) ends = refl
place_is x m (at.Sort n) (sink.Build b) ends = absurd ends
place_is x m (at.Sort n) (sink.Cross c) ends = absurd ends
place_is x m (at.Build n) (sink.Ordered s) ends = absurd ends
place_is x m (at.Build n) (sink.Sort s) ends = absurd ends
place_is x m (at.Build n) (sink.Build b) ends = refl
place_is x m (at.Build n) (sink.Cross c) ends = refl

-- ---- legs

module _ {H : Type 0} (plan : Checked) (specs : Specs) where
  -- the first operators are those of some nodes
  abbrev FirstAre : List ℕ → List (PhysOperator H) → Type 0
  FirstAre [] os = Unit {0}
  FirstAre (n ∷ ns) [] = ⊥
  FirstAre (n ∷ ns) (o ∷ os) = IsOperatorAt plan specs n o × FirstAre ns os

  take_are : (k : ℕ) (ns : List ℕ) (os : List (PhysOperator H)) → AreOperatorsAt plan specs ns os → FirstAre (take k ns) os
  take_are zero ns os h = tt
  take_are (suc k) [] os h = tt
  take_are (suc k) (n ∷ ns) [] h = absurd h
  take_are (suc k) (n ∷ ns) (o ∷ os) h = (h.0, take_are k ns os h.1)

  drop_are : (k : ℕ) (ns : List ℕ) (os : List (PhysOperator H)) → AreOperatorsAt plan specs ns os → AreOperatorsAt plan specs (drop k ns) (drop k os)
  drop_are zero ns os h = h
  drop_are (suc k) [] [] h = tt
  drop_are (suc k) [] (o ∷ os) h = absurd h
  drop_are (suc k) (n ∷ ns) [] h = absurd h
  drop_are (suc k) (n ∷ ns) (o ∷ os) h = drop_are k ns os h.1

  stages_are : (start : ℕ) (ns : List ℕ) (os : List (PhysOperator H)) → FirstAre ns os → AreStagesAt plan specs start (stages_of start os ns) ns
  stages_are start [] [] h = tt
  stages_are start [] (o ∷ os) h = tt
  stages_are start (n ∷ ns) [] h = absurd h
  stages_are start (n ∷ ns) (o ∷ os) h = (refl, h.0, stages_are n ns os h.1)

  module _ (places : Sinks H) (hasher : H) (parts workers : ℕ) (good : IsWellFormed (plan_in plan) plan.root) where
    leg_cut_is : (start : ℕ) (ops : List ℕ) (first given : ℕ) (taken : List ℕ) (os : List (PhysOperator H)) (k : SinkNode) (ks : List SinkNode) (s : ThreadedSink H) (leg : Leg (Part H))
        → IsRest plan start ops first (k ∷ ks) → AreOperatorsAt plan specs ops os → IsSinkSplit plan specs places hasher parts k.at s.sink → s.count ≡ k.count → s.count < 4294967295
        → given ≡ start → taken ≡ taken_at (node_at (nodes_in plan) start) start → IsLegCut (drop first os) (between ops first k.offset) given taken s (place_node k.at) leg
        → IsLegOf plan specs places hasher parts start (between ops first k.offset) k leg
    leg_cut_is start ops first given taken os k ks s leg rest are split count few begins takes is =
        let x = settings_in plan specs places hasher parts in
        let m = meaning_in plan in
        let nodes = between ops first k.offset in
        let E : SinkSetting H → Type 0 = EndsAt x m k.at in
        let place : place_of s.sink (place_node k.at) ≡ k.at = place_is x m k.at s.sink (subst E (sym split.setting) split.ends) in
        let made = stages_are start nodes (drop first os) (take_are (k.offset - first) (drop first ops) (drop first os) (drop_are first ops os are)) in
        let stages_same = is.stages ∙ ap (λ z. stages_of z (drop first os) nodes) begins in
        leg_is plan specs places hasher parts start nodes k leg good (leads plan start ops first k ks rest) is.through (is.at ∙ place) (is.count ∙ count)
        (subst (λ c. c < 4294967295) (sym is.count) few) (is.part_at ∙ place)
        (subst (λ l. AreStagesAt plan specs start l nodes) (sym stages_same) made)
        (subst (IsSinkSplit plan specs places hasher parts k.at) (sym is.target) split)
        (is.given ∙ ap (λ z. last_of z nodes) begins) (is.scans ∙ takes)

    pub legs_cut : (start : ℕ) (ops : List ℕ) (first given : ℕ) (taken : List ℕ) (os : List (PhysOperator H)) (ks : List SinkNode) (ss : List (ThreadedSink H)) (legs : List (Leg (Part H)))
        → IsRest plan start ops first ks → AreOperatorsAt plan specs ops os → AreSinksMade plan specs places hasher parts workers ks ss → BeginsAt plan good start given taken ks
        → AreLegsCut os ops first given taken ss (map node_of_sink ks) legs → HasLegsOf plan specs places hasher parts start ops first ks legs
    legs_cut start ops first given taken os [] [] [] rest are made begins cut = record { nodes = refl; made = tt; text = refl }
    legs_cut start ops first given taken os [] [] (leg ∷ legs) rest are made begins cut = absurd cut
    legs_cut start ops first given taken os [] (s ∷ ss) legs rest are made begins cut = absurd made
    legs_cut start ops first given taken os (k ∷ ks) [] legs rest are made begins cut = absurd made
    legs_cut start ops first given taken os (k ∷ ks) (s ∷ ss) [] rest are made begins cut = absurd cut
    legs_cut start ops first given taken os (k ∷ ks) (s ∷ ss) (leg ∷ legs) rest are made begins cut =
        let end = made.0.end in
        let next = next_of given (place_node k.at) in
        let is = subst (λ e. IsLegCut (drop first os) (between ops first e) given taken s (place_node k.at) leg) end cut.0 in
        let behind = subst (λ e. AreLegsCut os ops e next (next ∷ []) ss (map node_of_sink ks) legs) end cut.1 in
        one_more plan specs places hasher parts start ops first k ks leg legs
        (leg_cut_is start ops first given taken os k ks s leg rest are made.0.split made.0.count made.0.few begins.0 begins.1 is)
        (legs_cut (sink_node (length (nodes_in plan)) k.at) ops k.offset next (next ∷ []) os ks ss legs (rest_next plan start ops first k ks rest) are made.1 (begins_next plan good start ops first k ks given rest) behind)
