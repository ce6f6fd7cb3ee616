-- What the pipeline of a branch is made of.
use Rattle.std.proofs.Common.{◌≡◌, ℕ, ◌+◌, ◌-◌, ◌≤◌, List, [], ◌∷◌, ◌++◌, length, map, take, drop, Option, refl, ap, sym, subst, ◌∙◌, append_assoc, take-append-drop, drop-drop, arith}
use Rattle.std.specs.List.{AllByRecursion}
use Rattle.std.proofs.lemmas.List.{append-nil, drop_all}
use Rattle.pipe_ops.specs.Batches.{Left}
use Rattle.pipe_plan.specs.Faults.{IsWellFormed}
use Rattle.pipe_driver.specs.declared.branch.SinkAt.{SinkAt}
use Rattle.pipe_driver.specs.declared.branch.SinkAt.TheVariants as at
use Rattle.pipe_driver.specs.declared.branch.SinkNode.{SinkNode}
use Rattle.pipe_driver.specs.Texts.{between}
use Rattle.pipe_driver.specs.Legs.{sink_node}
use Rattle.pipe_driver.proofs.Tests.{all-append}
use Rattle.pipe_check.specs.Checked.{Checked}
use Rattle.pipe_convert.specs.Nodes.{plan_in, nodes_in, meaning_in}
use Rattle.pipe_convert.specs.Sources.{AreScansOf}
use Rattle.pipe_convert.specs.Steps.{GoesAlong}
use Rattle.pipe_convert.proofs.ChainSteps.{chain_goes}
use Rattle.pipe_slots.specs.declared.phys_operator.PhysOperator.{PhysOperator}
use Rattle.pipe_lines.specs.Cuts.{EndWithin, IsMadeFor}
use Rattle.pipe_lines.specs.Lines.{AreEnds}
use Rattle.pipe_lines.specs.Made.{Specs, Sinks, IsOperatorAt}
use Rattle.pipe_lines.specs.Parts.{IsGoneThrough, AreOperatorsAt, IsSinkThere, IsSinkMade, AreSinksMade, node_of_sink}
use Rattle.pipe_lines.specs.declared.threaded_sink.ThreadedSink.{ThreadedSink}
use Rattle.pipe_lines.proofs.LegFacts.{sink_there}
use Rattle.pipe_lines.proofs.LineFacts.{IsRest, leads, rest_next}

-- ---- all operators of a branch are gone through, and each of its sinks is there

module _ (plan : Checked) (good : IsWellFormed (plan_in plan) plan.root) where
  along_through : (given : ℕ) (ns : List ℕ) → GoesAlong plan given ns → AllByRecursion (IsGoneThrough plan) ns
  along_through given [] h = tt
  along_through given (n ∷ ns) h = ((given, h.0), along_through n ns h.1)

  pub through_from : (start : ℕ) (ops : List ℕ) (first : ℕ) (ks : List SinkNode) → IsRest plan start ops first ks → AreEnds (length ops) first ks → AllByRecursion (IsGoneThrough plan) (drop first ops)
  through_from start ops first [] rest e =
      let none : drop first ops ≡ [] = drop_all first ops (omega (arith, e)) in
      subst (AllByRecursion (IsGoneThrough plan)) (sym none) tt
  through_from start ops first (k ∷ ks) rest e =
      let here = between ops first k.offset in
      let lead = leads plan start ops first k ks rest in
      let le : first ≤ k.offset = e.0 in
      let sum : first + (k.offset - first) ≡ k.offset = omega (arith, le) in
      let behind : drop (k.offset - first) (drop first ops) ≡ drop k.offset ops = drop-drop (k.offset - first) first ops ∙ ap (λ n. drop n ops) sum in
      let whole : here ++ drop k.offset ops ≡ drop first ops = ap (λ l. here ++ l) (sym behind) ∙ take-append-drop (k.offset - first) (drop first ops) in
      subst (AllByRecursion (IsGoneThrough plan)) whole
      (all-append (IsGoneThrough plan) here (drop k.offset ops) (along_through start here (chain_goes plan good start here k.at lead.on).0)
      (through_from (sink_node (length (nodes_in plan)) k.at) ops k.offset ks (rest_next plan start ops first k ks rest) e.1))

  pub all_there : (start : ℕ) (ops : List ℕ) (first : ℕ) (ks : List SinkNode) → IsRest plan start ops first ks → AllByRecursion (IsSinkThere plan) ks
  all_there start ops first [] rest = tt
  all_there start ops first (k ∷ ks) rest = (
    sink_there plan start (between ops first k.offset) k.at (leads plan start ops first k ks rest).on,
    all_there (sink_node (length (nodes_in plan)) k.at) ops k.offset ks (rest_next plan start ops first k ks rest),
  )

-- ---- one behind the other

module _ {H : Type 0} (plan : Checked) (specs : Specs) where
  abbrev pub OperatorsBehind : (all rest : List ℕ) → List (PhysOperator H) → Type 0
  OperatorsBehind all rest made = (more : List (PhysOperator H)) → AreOperatorsAt plan specs rest more → AreOperatorsAt plan specs all (made ++ more)

  pub operators_first : (all : List ℕ) (made : List (PhysOperator H)) → made ≡ [] → OperatorsBehind all all made
  operators_first all made none more h = subst (λ l. AreOperatorsAt plan specs all (l ++ more)) (sym none) h

  pub operators_next : (all : List ℕ) (n : ℕ) (rest : List ℕ) (made : List (PhysOperator H)) (o : PhysOperator H) → IsOperatorAt plan specs n o → OperatorsBehind all (n ∷ rest) made → OperatorsBehind all rest (made ++ o ∷ [])
  operators_next all n rest made o is known more h =
      subst (AreOperatorsAt plan specs all) (sym (append_assoc made (o ∷ []) more)) (known (o ∷ more) (is, h))

  pub operators_done : (all rest : List ℕ) (made : List (PhysOperator H)) → rest ≡ [] → OperatorsBehind all rest made → AreOperatorsAt plan specs all made
  operators_done all rest made none known =
      subst (AreOperatorsAt plan specs all) (append-nil made) (known [] (subst (λ r. AreOperatorsAt {H = H} plan specs r []) (sym none) tt))

  pub as_many_operators : (ns : List ℕ) (os : List (PhysOperator H)) → AreOperatorsAt plan specs ns os → length ns ≡ length os
  as_many_operators [] [] h = refl
  as_many_operators [] (o ∷ os) h = absurd h
  as_many_operators (n ∷ ns) [] h = absurd h
  as_many_operators (n ∷ ns) (o ∷ os) h = let e = as_many_operators ns os h.1 in omega (arith, e)

  module _ (sinks : Sinks H) (hasher : H) (parts workers : ℕ) where
    abbrev Made : List SinkNode → List (ThreadedSink H) → Type 0
    Made ks ss = AreSinksMade plan specs sinks hasher parts workers ks ss

    abbrev pub SinksBehind : (all rest : List SinkNode) → List (ThreadedSink H) → Type 0
    SinksBehind all rest made = (more : List (ThreadedSink H)) → Made rest more → Made all (made ++ more)

    pub sinks_first : (all : List SinkNode) (made : List (ThreadedSink H)) → made ≡ [] → SinksBehind all all made
    sinks_first all made none more h = subst (λ l. Made all (l ++ more)) (sym none) h

    pub sinks_next : (all : List SinkNode) (k : SinkNode) (rest : List SinkNode) (made : List (ThreadedSink H)) (s : ThreadedSink H) → IsSinkMade plan specs sinks hasher parts workers k s → SinksBehind all (k ∷ rest) made → SinksBehind all rest (made ++ s ∷ [])
    sinks_next all k rest made s is known more h =
        subst (Made all) (sym (append_assoc made (s ∷ []) more)) (known (s ∷ more) (is, h))

    pub sinks_done : (all rest : List SinkNode) (made : List (ThreadedSink H)) → rest ≡ [] → SinksBehind all rest made → Made all made
    sinks_done all rest made none known =
        subst (Made all) (append-nil made) (known [] (subst (λ r. Made r []) (sym none) tt))

    pub as_many_sinks : (ks : List SinkNode) (ss : List (ThreadedSink H)) → Made ks ss → length (map node_of_sink ks) ≡ length ss
    as_many_sinks [] [] h = refl
    as_many_sinks [] (s ∷ ss) h = absurd h
    as_many_sinks (k ∷ ks) [] h = absurd h
    as_many_sinks (k ∷ ks) (s ∷ ss) h = let e = as_many_sinks ks ss h.1 in omega (arith, e)

    pub made_for_all : (ks : List SinkNode) (ss : List (ThreadedSink H)) → Made ks ss → AllByRecursion (IsMadeFor workers) ss
    made_for_all [] [] h = tt
    made_for_all [] (s ∷ ss) h = absurd h
    made_for_all (k ∷ ks) [] h = absurd h
    made_for_all (k ∷ ks) (s ∷ ss) h = (h.0.made_for, made_for_all ks ss h.1)

    pub end_within : (most first : ℕ) (ks : List SinkNode) (ss : List (ThreadedSink H)) → Made ks ss → AreEnds most first ks → EndWithin most first ss
    end_within most first [] [] h e = omega (arith, e)
    end_within most first [] (s ∷ ss) h e = absurd h
    end_within most first (k ∷ ks) [] h e = absurd h
    end_within most first (k ∷ ks) (s ∷ ss) h e =
        let end = h.0.end in
        let le : first ≤ k.offset = e.0 in
        let rest : EndWithin most k.offset ss = end_within most k.offset ks ss h.1 e.1 in
        (omega (arith, end, le), subst (λ n. EndWithin most n ss) (sym end) rest)

-- ---- as many scans as a source has frames

pub as_many_scans : (plan : Checked) (ns : List ℕ) (lefts : List Left) → AreScansOf plan ns lefts → length ns ≡ length lefts
as_many_scans plan [] [] h = refl
as_many_scans plan [] (l ∷ ls) h = absurd h
as_many_scans plan (n ∷ ns) [] h = absurd h
as_many_scans plan (n ∷ ns) (l ∷ ls) h = let e = as_many_scans plan ns ls h.1 in omega (arith, e)
