-- A pipeline is cut, leg by leg.
use Rattle.std.proofs.Common.{◌≡◌, ℕ, ◌+◌, ◌-◌, ◌≤◌, ◌<◌, List, [], ◌∷◌, ◌++◌, length, take, drop, Option, refl, ap, sym, subst, ◌∙◌, append_assoc, length-take-le, length-drop, drop-drop, arith}
use Rattle.std.proofs.lemmas.List.{append-nil}
use Rattle.pipe_driver.specs.Texts.{between}
use Rattle.pipe_driver.specs.declared.pipe_line.Leg.{Leg}
use Rattle.pipe_engine.specs.declared.part.Part.{Part}
use Rattle.pipe_run.specs.declared.stage.Stage.{Stage}
use Rattle.pipe_slots.specs.declared.phys_operator.PhysOperator.{PhysOperator}
use Rattle.pipe_lines.specs.Cuts.{EndWithin, IsLegCut, AreLegsCut, next_of, stage_behind, stages_of}
use Rattle.pipe_lines.specs.declared.threaded_sink.ThreadedSink.{ThreadedSink}

-- ---- the stages of a leg

-- so many operators are there, what is made and what comes are all, and what is left is so, too
pub record IsCutting {H : Type 0} (nodes rest : List ℕ) (start given : ℕ) (all left : List (PhysOperator H)) (stages : List (Stage (PhysOperator H))) : Type 0 where
  pub enough : length rest ≤ length left
  pub made : stages ++ stages_of given left rest ≡ stages_of start all nodes
  pub behind : drop (length rest) left ≡ drop (length nodes) all

module _ {H : Type 0} where
  pub cutting_first : (nodes : List ℕ) (start : ℕ) (all : List (PhysOperator H)) (stages : List (Stage (PhysOperator H))) → stages ≡ [] → length nodes ≤ length all → IsCutting nodes nodes start start all all stages
  cutting_first nodes start all stages none le = record { enough = le; made = ap (λ l. l ++ stages_of start all nodes) none; behind = refl }

  pub cutting_some : (nodes : List ℕ) (n : ℕ) (rest : List ℕ) (start given : ℕ) (all left : List (PhysOperator H)) (stages : List (Stage (PhysOperator H))) → IsCutting nodes (n ∷ rest) start given all left stages → left ≡ [] → ⊥
  cutting_some nodes n rest start given all left stages is none =
      let le = is.enough in
      let e = ap length none in
      omega (arith, le, e)

  pub cutting_next : (nodes : List ℕ) (n : ℕ) (rest : List ℕ) (start given : ℕ) (all : List (PhysOperator H)) (o : PhysOperator H) (left : List (PhysOperator H)) (stages : List (Stage (PhysOperator H))) → IsCutting nodes (n ∷ rest) start given all (o ∷ left) stages
      → IsCutting nodes rest start n all left (stages ++ stage_behind given o ∷ [])
  cutting_next nodes n rest start given all o left stages is =
      let le = is.enough in
      record {
        enough = omega (arith, le);
        made = append_assoc stages (stage_behind given o ∷ []) (stages_of n left rest) ∙ is.made;
        behind = is.behind;
      }

  no_stages : (given : ℕ) (left : List (PhysOperator H)) → stages_of given left [] ≡ []
  no_stages given [] = refl
  no_stages given (o ∷ left) = refl

  pub cutting_made : (nodes rest : List ℕ) (start given : ℕ) (all left : List (PhysOperator H)) (stages : List (Stage (PhysOperator H))) → rest ≡ [] → IsCutting nodes rest start given all left stages → stages ≡ stages_of start all nodes
  cutting_made nodes rest start given all left stages none is =
      sym (append-nil stages) ∙ ap (λ l. stages ++ l) (sym (ap (stages_of given left) none ∙ no_stages given left)) ∙ is.made

  pub cutting_left : (nodes rest : List ℕ) (start given : ℕ) (all left : List (PhysOperator H)) (stages : List (Stage (PhysOperator H))) → rest ≡ [] → IsCutting nodes rest start given all left stages → left ≡ drop (length nodes) all
  cutting_left nodes rest start given all left stages none is = sym (ap (λ l. drop (length l) left) none) ∙ is.behind

-- ---- the legs of a pipeline

-- legs, and any that go on from what is left, are those of all
abbrev pub LegsBehind : {H : Type 0} → List (PhysOperator H) → (nodes : List ℕ) → (source : ℕ) → (scans : List ℕ) → (sinks : List (ThreadedSink H)) → (places : List (Option ℕ)) → (first start : ℕ) → (taken : List ℕ) → List (ThreadedSink H) → List (Option ℕ) → List (Leg (Part H)) → Type 0
LegsBehind {H = H} os nodes source scans sinks places first start taken ss ps legs =
    (more : List (Leg (Part H))) → AreLegsCut os nodes first start taken ss ps more → AreLegsCut os nodes 0 source scans sinks places (legs ++ more)

-- the legs so far, and what is left
pub record AreCutting {H : Type 0} (os : List (PhysOperator H)) (nodes : List ℕ) (source : ℕ) (scans : List ℕ) (sinks : List (ThreadedSink H)) (places : List (Option ℕ)) (first start : ℕ) (taken : List ℕ) (left : List (PhysOperator H))
    (ss : List (ThreadedSink H)) (ps : List (Option ℕ)) (legs : List (Leg (Part H))) : Type 0 where
  pub as_many : length ps ≡ length ss
  pub within : EndWithin (length os) first ss
  pub operators : left ≡ drop first os
  pub behind : LegsBehind os nodes source scans sinks places first start taken ss ps legs

module _ {H : Type 0} where
  pub first_within : (most first : ℕ) (sinks : List (ThreadedSink H)) → EndWithin most first sinks → first ≤ most
  first_within most first [] h = h
  first_within most first (s ∷ ss) h = let a = h.0 in let b = first_within most s.operator_end ss h.1 in omega (arith, a, b)

  pub legs_first : (os : List (PhysOperator H)) (nodes : List ℕ) (source : ℕ) (scans : List ℕ) (sinks : List (ThreadedSink H)) (places : List (Option ℕ)) (legs : List (Leg (Part H))) → legs ≡ [] → length places ≡ length sinks → EndWithin (length os) 0 sinks → AreCutting os nodes source scans sinks places 0 source scans os sinks places legs
  legs_first os nodes source scans sinks places legs none many within = record {
    as_many = many;
    within = within;
    operators = refl;
    behind = λ more h. subst (λ l. AreLegsCut os nodes 0 source scans sinks places (l ++ more)) (sym none) h;
  }

  pub sinks_some : (os : List (PhysOperator H)) (nodes : List ℕ) (source : ℕ) (scans : List ℕ) (sinks : List (ThreadedSink H)) (places : List (Option ℕ)) (first start : ℕ) (taken : List ℕ) (left : List (PhysOperator H)) (ss : List (ThreadedSink H)) (p : Option ℕ) (ps : List (Option ℕ)) (legs : List (Leg (Part H)))
      → AreCutting os nodes source scans sinks places first start taken left ss (p ∷ ps) legs → ss ≡ [] → ⊥
  sinks_some os nodes source scans sinks places first start taken left ss p ps legs is none =
      let many = is.as_many in
      let e = ap length none in
      omega (arith, many, e)

  -- how many operators stand before a sink
  ahead_many : (os : List (PhysOperator H)) (nodes : List ℕ) (first end : ℕ) → length nodes ≡ length os → first ≤ end → end ≤ length os → length (between nodes first end) ≡ end - first
  ahead_many os nodes first end same le most =
      let d = length-drop first nodes in
      length-take-le (end - first) (drop first nodes) (omega (arith, d, same, le, most))

  pub ahead_there : (os : List (PhysOperator H)) (nodes : List ℕ) (source : ℕ) (scans : List ℕ) (sinks : List (ThreadedSink H)) (places : List (Option ℕ)) (first start : ℕ) (taken : List ℕ) (left : List (PhysOperator H)) (s : ThreadedSink H) (ss : List (ThreadedSink H)) (ps : List (Option ℕ)) (legs : List (Leg (Part H)))
      → length nodes ≡ length os → AreCutting os nodes source scans sinks places first start taken left (s ∷ ss) ps legs → length (between nodes first s.operator_end) ≤ length left
  ahead_there os nodes source scans sinks places first start taken left s ss ps legs same is =
      let a = is.within.0 in
      let b = first_within (length os) s.operator_end ss is.within.1 in
      let n = ahead_many os nodes first s.operator_end same a b in
      let l = ap length is.operators in
      let d = length-drop first os in
      omega (arith, a, b, n, l, d)

  pub legs_next : (os : List (PhysOperator H)) (nodes : List ℕ) (source : ℕ) (scans : List ℕ) (sinks : List (ThreadedSink H)) (places : List (Option ℕ)) (first start : ℕ) (taken : List ℕ) (left left' : List (PhysOperator H)) (s : ThreadedSink H) (ss : List (ThreadedSink H)) (p : Option ℕ) (ps : List (Option ℕ)) (legs : List (Leg (Part H))) (leg : Leg (Part H))
      → length nodes ≡ length os → AreCutting os nodes source scans sinks places first start taken left (s ∷ ss) (p ∷ ps) legs
      → IsLegCut left (between nodes first s.operator_end) start taken s p leg → left' ≡ drop (length (between nodes first s.operator_end)) left
      → AreCutting os nodes source scans sinks places s.operator_end (next_of start p) (next_of start p ∷ []) left' ss ps (legs ++ leg ∷ [])
  legs_next os nodes source scans sinks places first start taken left left' s ss p ps legs leg same is cut behind =
      let many = is.as_many in
      let a = is.within.0 in
      let b = first_within (length os) s.operator_end ss is.within.1 in
      let n = ahead_many os nodes first s.operator_end same a b in
      let sum : first + (s.operator_end - first) ≡ s.operator_end = omega (arith, a) in
      let whole : left' ≡ drop s.operator_end os = behind ∙ ap (λ k. drop k left) n ∙ ap (drop (s.operator_end - first)) is.operators ∙ drop-drop (s.operator_end - first) first os ∙ ap (λ k. drop k os) sum in
      let C : List (PhysOperator H) → Type 0 = λ l. IsLegCut l (between nodes first s.operator_end) start taken s p leg in
      record {
        as_many = omega (arith, many);
        within = is.within.1;
        operators = whole;
        behind = λ more h. subst (AreLegsCut os nodes 0 source scans sinks places) (sym (append_assoc legs (leg ∷ []) more)) (is.behind (leg ∷ more) (subst C is.operators cut, h));
      }

  none_left : (os : List (PhysOperator H)) (nodes : List ℕ) (first start : ℕ) (taken : List ℕ) (ss : List (ThreadedSink H)) (ps : List (Option ℕ)) → length ps ≡ length ss → ps ≡ [] → AreLegsCut os nodes first start taken ss ps []
  none_left os nodes first start taken [] ps many none = tt
  none_left os nodes first start taken (s ∷ ss) ps many none = let e = ap length none in absurd (omega (arith, many, e))

  pub legs_done : (os : List (PhysOperator H)) (nodes : List ℕ) (source : ℕ) (scans : List ℕ) (sinks : List (ThreadedSink H)) (places : List (Option ℕ)) (first start : ℕ) (taken : List ℕ) (left : List (PhysOperator H)) (ss : List (ThreadedSink H)) (ps : List (Option ℕ)) (legs : List (Leg (Part H))) → ps ≡ []
      → AreCutting os nodes source scans sinks places first start taken left ss ps legs → AreLegsCut os nodes 0 source scans sinks places legs
  legs_done os nodes source scans sinks places first start taken left ss ps legs none is =
      subst (AreLegsCut os nodes 0 source scans sinks places) (append-nil legs) (is.behind [] (none_left os nodes first start taken ss ps is.as_many none))
