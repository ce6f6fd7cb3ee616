-- Trails through an operator and into a sink.
use Rattle.std.proofs.Common.{◌≡◌, ℕ, zero, suc, ◌+◌, ◌<◌, Bool, true, false, not, cond, ◌||◌, ◌==◌, List, [], ◌∷◌, ◌++◌, map, refl, sym, ap, ◌∙◌, arith, append_assoc}
use Rattle.std.proofs.lemmas.List.{append-nil}
use Rattle.std.specs.List.{flat_map, AllByRecursion}
use Rattle.pipe_schema.specs.Weights.{total}
use Rattle.pipe_schema.proofs.Weights.{total-append}
use Rattle.pipe_driver.specs.declared.branch.SinkAt.{SinkAt}
use Rattle.pipe_driver.specs.Meaning.{Meaning}
use Rattle.pipe_driver.specs.Legs.{Leg}
use Rattle.pipe_driver.specs.Ways.{one, legs_to, legs_through, starts_from, IsSinkOf}
use Rattle.pipe_driver.proofs.Tests.{by_test, eq-is, occurs-append, not-nil}
use Rattle.pipe_driver.proofs.Trails.{Trail, put_sink, through, closed_by, sunk, trail_to, trail_through, trail_starts, opened, last_of, IsStep, AreSteps, AreOrdered, IsTrail}

-- a trail by its parts
abbrev pub trail : ℕ → List Leg → ℕ → List ℕ → Bool → Trail
trail start legs from ops b = record { start = start; legs = legs; from = from; operators = ops; is_open = b }

zero_cond : (b : Bool) → cond {A = ℕ} b 0 0 ≡ 0
zero_cond true = refl
zero_cond false = refl

cond_add : (t : Bool) (x y : ℕ) → cond t (x + y) 0 ≡ cond t x 0 + cond t y 0
cond_add true x y = refl
cond_add false x y = refl

-- ---- through an operator

record Throughs (n j s : ℕ) (old new : Trail) : Type 0 where
  to_is : trail_to s new ≡ trail_to s old
  passes_is : trail_through j new ≡ trail_through j old + cond (n == j) (opened old) 0
  starts_is : trail_starts new ≡ trail_starts old
  opened_is : opened new ≡ opened old

through_one : (n j s start : ℕ) (legs : List Leg) (from : ℕ) (ops : List ℕ) (b : Bool) → Throughs n j s (trail start legs from ops b) (through n (trail start legs from ops b))
through_one n j s start legs from ops true = record {
  to_is = refl;
  passes_is = (let e = occurs-append j ops (n ∷ []) in let split : (t : Bool) → one t + 0 ≡ cond t 1 0 = elim [ true ↦ refl | false ↦ refl ] in let z = split (n == j) in omega arith);
  starts_is = refl;
  opened_is = refl;
}
through_one n j s start legs from ops false = record { to_is = refl; passes_is = (let z = zero_cond (n == j) in omega arith); starts_is = refl; opened_is = refl }

pub record AllThrough (n j s : ℕ) (ps : List Trail) : Type 0 where
  pub to_is : total (trail_to s) (map (through n) ps) ≡ total (trail_to s) ps
  pub passes_is : total (trail_through j) (map (through n) ps) ≡ total (trail_through j) ps + cond (n == j) (total opened ps) 0
  pub opened_is : total opened (map (through n) ps) ≡ total opened ps

pub all_through : (n j s : ℕ) (ps : List Trail) → AllThrough n j s ps
all_through n j s [] = record { to_is = refl; passes_is = (let z = zero_cond (n == j) in omega arith); opened_is = refl }
all_through n j s (p ∷ ps) =
    let o = through_one n j s p.start p.legs p.from p.operators p.is_open in
    let r = all_through n j s ps in
    record {
      to_is = (let x = o.to_is in let y = r.to_is in omega arith);
      passes_is = (let x = o.passes_is in let y = r.passes_is in let z = cond_add (n == j) (opened p) (total opened ps) in omega arith);
      opened_is = (let x = o.opened_is in let y = r.opened_is in omega arith);
    }

pub through_starts : (h : ℕ → ℕ) (n : ℕ) (ps : List Trail) → total h (flat_map trail_starts (map (through n) ps)) ≡ total h (flat_map trail_starts ps)
through_starts h n [] = refl
through_starts h n (p ∷ ps) =
    let o = ap (total h) (through_one n 0 0 p.start p.legs p.from p.operators p.is_open).starts_is in
    let x = total-append h (trail_starts (through n p)) (flat_map trail_starts (map (through n) ps)) in
    let y = total-append h (trail_starts p) (flat_map trail_starts ps) in
    let r = through_starts h n ps in omega arith

-- trails stay in order, where none of them feeds a sink of the side of the join that is gone through
pub through_order : (m : Meaning) (n : ℕ) (ps : List Trail) → ((s : ℕ) → m.side n s ≡ true → total (trail_to s) ps ≡ 0) → AreOrdered m ps → AreOrdered m (map (through n) ps)
through_order m n [] none are = tt
through_order m n (p ∷ ps) none are = (
  λ j s passed side. (
      let o = through_one n j s p.start p.legs p.from p.operators p.is_open in
      let a = o.to_is in
      let b = (all_through n j s ps).to_is in
      let c = o.passes_is in
      by_test (trail_to s (through n p) + total (trail_to s) (map (through n) ps) ≡ 0) (n == j)
      (λ e. (let z = none s (ap (λ k. m.side k s) (eq-is n j e) ∙ side) in omega arith))
      (λ e. (let d = ap (λ t. cond t (opened p) 0) e in let z = are.0 j s (omega arith) side in omega arith))),
  through_order m n ps (λ s side. (let z = none s side in omega arith)) are.1,
)

through_trail : (m : Meaning) (below within : ℕ → Bool) (i n start : ℕ) (legs : List Leg) (from : ℕ) (ops : List ℕ) (b : Bool) → ((k : ℕ) → below k ≡ true → within k ≡ true) → m.above i ≡ n ∷ m.above n → m.above_sink i ≡ m.above_sink n
    → IsTrail m below i (trail start legs from ops b) → IsTrail m within n (through n (trail start legs from ops b))
through_trail m below within i n start legs from ops true up above above_sink is = record {
  legs = is.legs;
  from = is.from;
  within_from = λ t. up from (is.within_from t);
  above = λ t. is.above refl ∙ ap (λ xs. ops ++ xs) above ∙ sym (append_assoc ops (n ∷ []) (m.above n));
  above_sink = λ t. is.above_sink refl ∙ above_sink;
  ended = is.ended;
}
through_trail m below within i n start legs from ops false up above above_sink is = record {
  legs = is.legs;
  from = is.from;
  within_from = λ t. up from (is.within_from t);
  above = λ t. absurd (let e : false ≡ true = t in cc);
  above_sink = λ t. absurd (let e : false ≡ true = t in cc);
  ended = is.ended;
}

-- the trails of inputs whose rows go through the node
pub through_each : (m : Meaning) (below within : ℕ → Bool) (i n : ℕ) (ps : List Trail) → ((k : ℕ) → below k ≡ true → within k ≡ true) → m.above i ≡ n ∷ m.above n → m.above_sink i ≡ m.above_sink n
    → AllByRecursion (IsTrail m below i) ps → AllByRecursion (IsTrail m within n) (map (through n) ps)
through_each m below within i n [] up above above_sink are = tt
through_each m below within i n (p ∷ ps) up above above_sink are = (through_trail m below within i n p.start p.legs p.from p.operators p.is_open up above above_sink are.0, through_each m below within i n ps up above above_sink are.1)

-- ---- into a sink

-- how many go on
abbrev pub left : Bool → List Trail → ℕ
left is_passed [] = 0
left is_passed (p ∷ ps) = cond p.is_open (one (not is_passed)) 0 + left (is_passed || p.is_open) ps

abbrev pub repeated : ℕ → ℕ → ℕ
repeated zero x = 0
repeated (suc n) x = x + repeated n x

repeated-add : (a b x : ℕ) → repeated (a + b) x ≡ repeated a x + repeated b x
repeated-add zero b x = let e : 0 + b ≡ b = omega arith in let g = ap (λ n. repeated n x) e in omega arith
repeated-add (suc a) b x = let e : suc a + b ≡ suc (a + b) = omega arith in let g = ap (λ n. repeated n x) e in let r = repeated-add a b x in omega arith

pub left_passed : (ps : List Trail) → left true ps ≡ 0
left_passed [] = refl
left_passed (p ∷ ps) =
    let split : (b : Bool) → cond b (one (not true)) 0 + left true ps ≡ 0 = elim [ true ↦ (let r = left_passed ps in omega arith) | false ↦ (let r = left_passed ps in omega arith) ] in split p.is_open

pub left_first : (ps : List Trail) → 0 < total opened ps → left false ps ≡ 1
left_first [] h = absurd (omega arith)
left_first (p ∷ ps) h =
    let split : (b : Bool) → 0 < one b + total opened ps → cond b (one (not false)) 0 + left (false || b) ps ≡ 1 = elim [
      | true ↦ λ e. (let r = left_passed ps in omega arith)
      | false ↦ λ e. (let r = left_first ps (omega arith) in omega arith)
    ] in split p.is_open h

to_append : (s : ℕ) (a b : List Leg) → legs_to s (a ++ b) ≡ legs_to s a + legs_to s b
to_append s [] b = omega arith
to_append s (leg ∷ a) b = let r = to_append s a b in omega arith

passes_append : (j : ℕ) (a b : List Leg) → legs_through j (a ++ b) ≡ legs_through j a + legs_through j b
passes_append j [] b = omega arith
passes_append j (leg ∷ a) b = let r = passes_append j a b in omega arith

starts_append : (h : ℕ → ℕ) (start : ℕ) (a : List Leg) (leg : Leg) → total h (starts_from start (a ++ leg ∷ [])) ≡ total h (starts_from start a) + h (last_of start a)
starts_append h start [] leg = omega arith
starts_append h start (l ∷ a) leg = let r = starts_append h l.sink a leg in omega arith

pub last_append : (start : ℕ) (a : List Leg) (leg : Leg) → last_of start (a ++ leg ∷ []) ≡ leg.sink
last_append start [] leg = refl
last_append start (l ∷ a) leg = last_append l.sink a leg

-- what one trail becomes
record Sinks (a : SinkAt) (n : ℕ) (goes : Bool) (h : ℕ → ℕ) (k : ℕ) (old new : Trail) : Type 0 where
  to_is : trail_to k new ≡ trail_to k old + cond (n == k) (opened old) 0
  passes_is : trail_through k new ≡ trail_through k old
  starts_is : total h (trail_starts new) ≡ total h (trail_starts old) + cond old.is_open (cond goes (h n) 0) 0
  opened_is : opened new ≡ cond old.is_open (one goes) 0

sinks_one : (a : SinkAt) (n : ℕ) (goes : Bool) (h : ℕ → ℕ) (k start : ℕ) (legs : List Leg) (from : ℕ) (ops : List ℕ) (b : Bool) → (b ≡ true → last_of start legs ≡ from)
    → Sinks a n goes h k (trail start legs from ops b) (cond b (put_sink goes a n (trail start legs from ops b)) (trail start legs from ops b))
sinks_one a n goes h k start legs from ops false last = let z = zero_cond (n == k) in record { to_is = omega arith; passes_is = refl; starts_is = omega arith; opened_is = refl }
sinks_one a n goes h k start legs from ops true last =
    let leg : Leg = record { operators = ops; at = a; sink = n } in
    let e = ap h (last refl) in
    record {
      to_is = to_append k legs (leg ∷ []) ∙ (let split : (t : Bool) → legs_to k legs + (one t + 0) ≡ legs_to k legs + cond t 1 0 = elim [ true ↦ refl | false ↦ refl ] in split (n == k));
      passes_is = (let x = passes_append k legs (leg ∷ []) in let z = zero_cond goes in omega arith);
      starts_is = (
          let x = starts_append h start legs leg in
          let y = total-append h (starts_from start legs) (from ∷ []) in
          let split : (g : Bool) → total h (starts_from start (legs ++ leg ∷ []) ++ cond g (n ∷ []) []) ≡ total h (starts_from start (legs ++ leg ∷ [])) + cond g (h n) 0 = elim [
            | true ↦ total-append h (starts_from start (legs ++ leg ∷ [])) (n ∷ []) ∙ omega arith
            | false ↦ total-append h (starts_from start (legs ++ leg ∷ [])) [] ∙ omega arith
          ] in
          let z = split goes in omega arith);
      opened_is = refl;
    }

-- what all trails become
pub record AllSink (a : SinkAt) (n : ℕ) (is_passed : Bool) (h : ℕ → ℕ) (k : ℕ) (ps : List Trail) : Type 0 where
  pub to_is : total (trail_to k) (sunk a n is_passed ps) ≡ total (trail_to k) ps + cond (n == k) (total opened ps) 0
  pub passes_is : total (trail_through k) (sunk a n is_passed ps) ≡ total (trail_through k) ps
  pub starts_is : total h (flat_map trail_starts (sunk a n is_passed ps)) ≡ total h (flat_map trail_starts ps) + repeated (left is_passed ps) (h n)
  pub opened_is : total opened (sunk a n is_passed ps) ≡ left is_passed ps

pub all_sink : (m : Meaning) (within : ℕ → Bool) (i : ℕ) (a : SinkAt) (n : ℕ) (is_passed : Bool) (h : ℕ → ℕ) (k : ℕ) (ps : List Trail) → AllByRecursion (IsTrail m within i) ps → AllSink a n is_passed h k ps
all_sink m within i a n is_passed h k [] are = let z = zero_cond (n == k) in record { to_is = omega arith; passes_is = refl; starts_is = omega arith; opened_is = refl }
all_sink m within i a n is_passed h k (p ∷ ps) are =
    let new = cond p.is_open (put_sink (not is_passed) a n p) p in
    let o = sinks_one a n (not is_passed) h k p.start p.legs p.from p.operators p.is_open are.0.from in
    let rest = all_sink m within i a n (is_passed || p.is_open) h k ps are.1 in
    let later = sunk a n (is_passed || p.is_open) ps in
    record {
      to_is = (let x = o.to_is in let y = rest.to_is in let z = cond_add (n == k) (opened p) (total opened ps) in omega arith);
      passes_is = (let x = o.passes_is in let y = rest.passes_is in omega arith);
      starts_is = (
          let x = o.starts_is in let y = rest.starts_is in
          let e1 = total-append h (trail_starts new) (flat_map trail_starts later) in
          let e2 = total-append h (trail_starts p) (flat_map trail_starts ps) in
          let e3 = repeated-add (cond p.is_open (one (not is_passed)) 0) (left (is_passed || p.is_open) ps) (h n) in
          let split : (b g : Bool) → repeated (cond b (one g) 0) (h n) ≡ cond b (cond g (h n) 0) 0 = elim [
            | true ↦ elim [ true ↦ omega arith | false ↦ refl ]
            | false ↦ elim [ true ↦ refl | false ↦ refl ]
          ] in
          let z = split p.is_open (not is_passed) in omega arith);
      opened_is = (let x = o.opened_is in let y = rest.opened_is in omega arith);
    }

-- sinks keep trails in order, where the sink is of no side of a join that they go through
pub sunk_order : (m : Meaning) (within : ℕ → Bool) (i : ℕ) (a : SinkAt) (n : ℕ) (is_passed : Bool) (ps : List Trail) → AllByRecursion (IsTrail m within i) ps → ((j : ℕ) → 0 < total (trail_through j) ps → m.side j n ≡ true → ⊥) → AreOrdered m ps → AreOrdered m (sunk a n is_passed ps)
sunk_order m within i a n is_passed [] each none are = tt
sunk_order m within i a n is_passed (p ∷ ps) each none are =
    let zero_at : ℕ → ℕ = λ x. 0 in (
      λ j s passed side. (
          let here = sinks_one a n (not is_passed) zero_at s p.start p.legs p.from p.operators p.is_open each.0.from in
          let here_j = sinks_one a n (not is_passed) zero_at j p.start p.legs p.from p.operators p.is_open each.0.from in
          let rest = all_sink m within i a n (is_passed || p.is_open) zero_at s ps each.1 in
          let q = here_j.passes_is in
          let old = are.0 j s (omega arith) side in
          by_test (trail_to s (cond p.is_open (put_sink (not is_passed) a n p) p) + total (trail_to s) (sunk a n (is_passed || p.is_open) ps) ≡ 0) (n == s)
          (λ e. absurd (none j (omega arith) (ap (m.side j) (eq-is n s e) ∙ side)))
          (λ e. (let x = here.to_is in let y = rest.to_is in
          let c1 = ap (λ t. cond t (opened p) 0) e in let c2 = ap (λ t. cond t (total opened ps) 0) e in omega arith))),
      sunk_order m within i a n (is_passed || p.is_open) ps each.1 (λ j h. none j (omega arith)) are.1,
    )

-- legs with one more
steps_append : (m : Meaning) (start : ℕ) (legs : List Leg) (leg : Leg) (b : Bool) → AreSteps m start legs true → IsStep m (last_of start legs) leg b → AreSteps m start (legs ++ leg ∷ []) b
steps_append m start [] leg b are is = (is, tt)
steps_append m start (l ∷ []) leg b are is = (are.0, steps_append m l.sink [] leg b tt is)
steps_append m start (l ∷ next ∷ legs) leg b are is = (are.0, steps_append m l.sink (next ∷ legs) leg b are.1 is)

-- what a sink has to be
pub record TakesAll (m : Meaning) (below within : ℕ → Bool) (i : ℕ) (a : SinkAt) (n : ℕ) : Type 0 where
  pub up : (k : ℕ) → below k ≡ true → k < n
  pub sides : (j k : ℕ) → below k ≡ true → m.side j n ≡ true → m.side j k ≡ true
  pub at : IsSinkOf m n a
  pub within_own : within n ≡ true
  pub within_below : (k : ℕ) → below k ≡ true → within k ≡ true
  pub above : m.above i ≡ []
  pub above_sink : m.above_sink i ≡ n

sunk_trail : (m : Meaning) (below within : ℕ → Bool) (i : ℕ) (a : SinkAt) (n : ℕ) (goes : Bool) (start : ℕ) (legs : List Leg) (from : ℕ) (ops : List ℕ) (b : Bool) → TakesAll m below within i a n → (goes ≡ true → m.is_sort n ≡ true)
    → IsTrail m below i (trail start legs from ops b) → IsTrail m within n (cond b (put_sink goes a n (trail start legs from ops b)) (trail start legs from ops b))
sunk_trail m below within i a n goes start legs from ops false takes sort is = record {
  legs = is.legs;
  from = is.from;
  within_from = λ t. takes.within_below from (is.within_from t);
  above = λ t. absurd (let e : false ≡ true = t in cc);
  above_sink = λ t. absurd (let e : false ≡ true = t in cc);
  ended = is.ended;
}
sunk_trail m below within i a n goes start legs from ops true takes sort is =
    let leg : Leg = record { operators = ops; at = a; sink = n } in
    let last = is.from refl in
    let from_below : below (last_of start legs) ≡ true = ap below last ∙ is.within_from refl in
    record {
      legs = steps_append m start legs leg goes is.legs (record {
        chain = sym (ap m.above last ∙ is.above refl ∙ ap (λ xs. ops ++ xs) takes.above ∙ append-nil ops);
        chain_sink = sym (ap m.above_sink last ∙ is.above_sink refl ∙ takes.above_sink);
        up = takes.up (last_of start legs) from_below;
        sides = λ j t. takes.sides j (last_of start legs) from_below t;
        at = takes.at;
        on = sort;
      });
      from = λ t. last_append start legs leg;
      within_from = λ t. takes.within_own;
      above = λ t. refl;
      above_sink = λ t. refl;
      ended = λ t h. not-nil legs leg h;
    }

pub sunk_each : (m : Meaning) (below within : ℕ → Bool) (i : ℕ) (a : SinkAt) (n : ℕ) (is_passed : Bool) (ps : List Trail) → TakesAll m below within i a n → (is_passed ≡ false → m.is_sort n ≡ true) → AllByRecursion (IsTrail m below i) ps → AllByRecursion (IsTrail m within n) (sunk a n is_passed ps)
sunk_each m below within i a n is_passed [] takes sort are = tt
sunk_each m below within i a n is_passed (p ∷ ps) takes sort are =
    let not_is : (b : Bool) → not b ≡ true → b ≡ false = elim [ true ↦ λ h. absurd (let e : false ≡ true = h in cc) | false ↦ λ h. refl ] in
    let first : (b c : Bool) → (b || c) ≡ false → b ≡ false = elim [ true ↦ λ c h. absurd (let e : true ≡ false = h in cc) | false ↦ λ c h. refl ] in (
      sunk_trail m below within i a n (not is_passed) p.start p.legs p.from p.operators p.is_open takes (λ h. sort (not_is is_passed h)) are.0,
      sunk_each m below within i a n (is_passed || p.is_open) ps takes (λ h. sort (first is_passed p.is_open h)) are.1,
    )

-- a build's sink and the root's end all open trails
pub closed_sunk : (a : SinkAt) (n : ℕ) (ps : List Trail) → map (closed_by a n) ps ≡ sunk a n true ps
closed_sunk a n [] = refl
closed_sunk a n (p ∷ ps) = ap (λ xs. closed_by a n p ∷ xs) (closed_sunk a n ps)
