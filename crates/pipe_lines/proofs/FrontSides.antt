-- A front part of the branches whose first one ends in the build of a join doesn't feed the root's sink.
use Rattle.std.proofs.Common.{◌≡◌, ◌≢◌, ℕ, zero, suc, ◌+◌, ◌-◌, ◌<◌, ◌≤◌, ◌==◌, Bool, true, false, not, cond, ◌||◌, List, [], ◌∷◌, ◌++◌, take, drop, refl, sym, ap, ◌∙◌, inl, inr, arith}
use Rattle.std.specs.List.{list_any, AllByRecursion}
use Rattle.pipe_driver.specs.Blocks.{is_in_front, is_together, begins_on}
use Rattle.pipe_driver.specs.Fronts.{IsClosed}
use Rattle.pipe_driver.specs.Legs.{Leg, Way}
use Rattle.pipe_driver.specs.Meaning.{Meaning}
use Rattle.pipe_driver.specs.Ways.{one, legs_to, way_to, feeds, way_through, passes, AreLegs, IsWay, Behind, AreOrdered, IsSoundMeaning}
use Rattle.pipe_driver.specs.Within.{GoThroughRun}
use Rattle.pipe_driver.proofs.Sums.{above, no_more}
use Rattle.pipe_driver.proofs.Tests.{by_test, eq-is, eq-true, not-both, or-right, or-first, some-left}

-- ---- those that pass a test stand together

module _ {X : Type 0} (test : X → Bool) where
  abbrev Passes : X → Type 0
  Passes x = test x ≡ true

  abbrev FailsTest : X → Type 0
  FailsTest x = test x ≡ false

  any_there : (a : List X) (p : X) (ps : List X) → test p ≡ true → list_any test (a ++ p ∷ ps) ≡ true
  any_there [] p ps e = or-first (test p) (list_any test ps) e
  any_there (x ∷ a) p ps e = or-right (test x) (list_any test (a ++ p ∷ ps)) (any_there a p ps e)

  in_front_behind : (a : List X) (p : X) (ps : List X) → test p ≡ true → is_in_front test (a ++ p ∷ ps) ≡ true → is_in_front test ps ≡ true
  in_front_behind [] p ps e h = sym (ap (λ b. cond b (is_in_front test ps) (not (list_any test ps))) e) ∙ h
  in_front_behind (x ∷ a) p ps e h =
      by_test (is_in_front test ps ≡ true) (test x)
      (λ f. in_front_behind a p ps e (sym (ap (λ b. cond b (is_in_front test (a ++ p ∷ ps)) (not (list_any test (a ++ p ∷ ps)))) f) ∙ h))
      (λ f. absurd (let none : not (list_any test (a ++ p ∷ ps)) ≡ true = sym (ap (λ b. cond b (is_in_front test (a ++ p ∷ ps)) (not (list_any test (a ++ p ∷ ps)))) f) ∙ h in
      let g : false ≡ true = sym (ap not (any_there a p ps e)) ∙ none in cc))

  together_behind : (a : List X) (p : X) (ps : List X) → test p ≡ true → is_together test (a ++ p ∷ ps) ≡ true → is_in_front test ps ≡ true
  together_behind [] p ps e h = sym (ap (λ b. cond b (is_in_front test ps) (is_together test ps)) e) ∙ h
  together_behind (x ∷ a) p ps e h =
      by_test (is_in_front test ps ≡ true) (test x)
      (λ f. in_front_behind a p ps e (sym (ap (λ b. cond b (is_in_front test (a ++ p ∷ ps)) (is_together test (a ++ p ∷ ps))) f) ∙ h))
      (λ f. together_behind a p ps e (sym (ap (λ b. cond b (is_in_front test (a ++ p ∷ ps)) (is_together test (a ++ p ∷ ps))) f) ∙ h))

  -- so many pass, and then none does
  record Block (xs : List X) : Type 0 where
    count : ℕ
    passes : AllByRecursion Passes (take count xs)
    fails : AllByRecursion FailsTest (drop count xs)

  none_pass : (xs : List X) → not (list_any test xs) ≡ true → AllByRecursion FailsTest xs
  none_pass [] h = tt
  none_pass (x ∷ xs) h =
      by_test (AllByRecursion FailsTest (x ∷ xs)) (test x)
      (λ e. absurd (let f : false ≡ true = sym (ap (λ b. not (b || list_any test xs)) e) ∙ h in cc))
      (λ e. (e, none_pass xs (sym (ap (λ b. not (b || list_any test xs)) e) ∙ h)))

  block_of : (xs : List X) → is_in_front test xs ≡ true → Block xs
  block_of [] h = record { count = 0; passes = tt; fails = tt }
  block_of (x ∷ xs) h =
      by_test (Block (x ∷ xs)) (test x)
      (λ e. (let rest = block_of xs (sym (ap (λ b. cond b (is_in_front test xs) (not (list_any test xs))) e) ∙ h) in
      record { count = suc rest.count; passes = (e, rest.passes); fails = rest.fails }))
      (λ e. record { count = 0; passes = tt; fails = (e, none_pass xs (sym (ap (λ b. cond b (is_in_front test xs) (not (list_any test xs))) e) ∙ h)) })

-- ---- parts of lists

all_taken : {A : Type 0} (P : A → Type 0) (n : ℕ) (xs : List A) → AllByRecursion P xs → AllByRecursion P (take n xs)
all_taken P zero [] are = tt
all_taken P zero (x ∷ xs) are = tt
all_taken P (suc n) [] are = tt
all_taken P (suc n) (x ∷ xs) are = (are.0, all_taken P n xs are.1)

all_dropped : {A : Type 0} (P : A → Type 0) (n : ℕ) (xs : List A) → AllByRecursion P xs → AllByRecursion P (drop n xs)
all_dropped P zero [] are = tt
all_dropped P zero (x ∷ xs) are = are
all_dropped P (suc n) [] are = tt
all_dropped P (suc n) (x ∷ xs) are = all_dropped P n xs are.1

-- more branches feed a sink no less often
feeds_more : (s n k : ℕ) (ps : List Way) → n ≤ k → feeds s (take n ps) ≤ feeds s (take k ps)
feeds_more s zero k [] le = omega arith
feeds_more s zero k (p ∷ ps) le = omega arith
feeds_more s (suc n) zero ps le = absurd (omega (arith, le))
feeds_more s (suc n) (suc k) [] le = omega arith
feeds_more s (suc n) (suc k) (p ∷ ps) le = (let rest = feeds_more s n k ps (omega (arith, le)) in omega (arith, rest))

-- one that feeds a sink is among them
feeds_there : (s : ℕ) (a : List Way) (p : Way) (ps : List Way) → 0 < way_to s p → 0 < feeds s (a ++ p ∷ ps)
feeds_there s [] p ps fed = omega (arith, fed)
feeds_there s (q ∷ a) p ps fed = (let rest = feeds_there s a p ps fed in omega (arith, rest))

-- legs feed some sink
first_sink : (legs : List Leg) → (legs ≡ [] → ⊥) → (s : ℕ) × (0 < legs_to s legs)
first_sink [] some = absurd (some refl)
first_sink (leg ∷ legs) some = (leg.sink, (let t = ap one (eq-true leg.sink leg.sink refl) in omega (arith, t)))

-- ---- the branches of one side

-- a branch begins at a node that is run, and is no join
pub record BeginsAlone (m : Meaning) (p : Way) : Type 0 where
  pub run : m.is_run p.start ≡ true
  pub bare : m.is_join p.start ≡ false

module _ (m : Meaning) (j : ℕ) (sound : IsSoundMeaning m) (chains : GoThroughRun m) (join : m.is_join j ≡ true) (stays : (n : ℕ) → m.is_run n ≡ true → m.side j n ≡ true → n ≢ j → m.side j (m.above_sink n) ≡ true) where
  -- it comes to sinks of the side alone
  legs_stay : (start : ℕ) (legs : List Leg) → AreLegs m start legs → m.is_run start ≡ true → m.is_join start ≡ false → m.side j start ≡ true → (s : ℕ) → 0 < legs_to s legs → m.side j s ≡ true
  legs_stay start [] are run bare on s fed = absurd (omega (arith, fed))
  legs_stay start (leg ∷ []) are run bare on s fed =
      let apart : start ≢ j = λ e. not-both (m.is_join j) join (ap m.is_join (sym e) ∙ bare) in
      let here : m.side j leg.sink ≡ true = ap (m.side j) are.0.chain_sink ∙ stays start run on apart in
      by_test (m.side j s ≡ true) (leg.sink == s)
      (λ e. ap (m.side j) (sym (eq-is leg.sink s e)) ∙ here)
      (λ e. absurd (let z = ap one e in omega (arith, fed, z)))
  legs_stay start (leg ∷ next ∷ legs) are run bare on s fed =
      let apart : start ≢ j = λ e. not-both (m.is_join j) join (ap m.is_join (sym e) ∙ bare) in
      let here : m.side j leg.sink ≡ true = ap (m.side j) are.0.chain_sink ∙ stays start run on apart in
      let sort : m.is_sort leg.sink ≡ true = are.0.on in
      let no_join : m.is_join leg.sink ≡ false = by_test (m.is_join leg.sink ≡ false) (m.is_join leg.sink) (λ e. absurd (sound.apart leg.sink sort e)) (λ e. e) in
      by_test (m.side j s ≡ true) (leg.sink == s)
      (λ e. ap (m.side j) (sym (eq-is leg.sink s e)) ∙ here)
      (λ e. legs_stay leg.sink (next ∷ legs) are.1 (chains.sorts leg.sink sort) no_join here s (let z = ap one e in omega (arith, fed, z)))

  on_side : (ps : List Way) → AllByRecursion (IsWay m) ps → AllByRecursion (BeginsAlone m) ps → AllByRecursion (Passes (begins_on m j)) ps → (s : ℕ) → 0 < feeds s ps → m.side j s ≡ true
  on_side [] ways begin on s fed = absurd (omega (arith, fed))
  on_side (p ∷ ps) ways begin on s fed =
      elim (some-left (way_to s p)) [
        | inl z ↦ on_side ps ways.1 begin.1 on.1 s (omega (arith, fed, z))
        | inr l ↦ legs_stay p.start p.legs ways.0.legs begin.0.run begin.0.bare on.0 s l
      ]

  -- others feed no sink of it
  off_side : (ps : List Way) → AllByRecursion (IsWay m) ps → AllByRecursion (FailsTest (begins_on m j)) ps → (s : ℕ) → m.side j s ≡ true → feeds s ps ≡ 0
  off_side [] ways off s side = refl
  off_side (p ∷ ps) ways off s side =
      let here : way_to s p ≡ 0 = no_more (way_to s p) (λ some. (let up = above m s p.start p.legs ways.0.legs some in not-both (m.side j p.start) (up.sides j side) off.0)) in
      let rest = off_side ps ways.1 off.1 s side in
      omega (arith, here, rest)

  -- so those of the side are a front part that is closed
  side_closed : (p : Way) (ps : List Way) → AllByRecursion (IsWay m) (p ∷ ps) → AllByRecursion (BeginsAlone m) (p ∷ ps) → m.side j p.start ≡ true → (b : Block (begins_on m j) ps) → IsClosed (take (suc b.count) (p ∷ ps)) (drop (suc b.count) (p ∷ ps))
  side_closed p ps ways begin on b s fed =
      off_side (drop b.count ps) (all_dropped (IsWay m) b.count ps ways.1) b.fails s
      (on_side (p ∷ take b.count ps) (ways.0, all_taken (IsWay m) b.count ps ways.1) (begin.0, all_taken (BeginsAlone m) b.count ps begin.1) (on, b.passes) s fed)

  -- and the shortest has no other branches
  pub front_side : (ran : List Way) (p : Way) (ps : List Way) (count : ℕ) → AllByRecursion (IsWay m) (p ∷ ps) → AllByRecursion (BeginsAlone m) (p ∷ ps) → is_together (begins_on m j) (ran ++ p ∷ ps) ≡ true → m.side j p.start ≡ true
      → ((i : ℕ) → 0 < i → i < count → IsClosed (take i (p ∷ ps)) (drop i (p ∷ ps)) → ⊥) → (s : ℕ) → 0 < feeds s (take count (p ∷ ps)) → m.side j s ≡ true
  front_side ran p ps count ways begin together on shortest s fed =
      let b = block_of (begins_on m j) ps (together_behind (begins_on m j) ran p ps on together) in
      let closed = side_closed p ps ways begin on b in
      let few : count ≤ suc b.count = elim (some-left (count - suc b.count)) [ inl z ↦ omega (arith, z) | inr lt ↦ absurd (shortest (suc b.count) (omega arith) (omega (arith, lt)) closed) ] in
      let more = feeds_more s count (suc b.count) (p ∷ ps) few in
      on_side (p ∷ take b.count ps) (ways.0, all_taken (IsWay m) b.count ps ways.1) (begin.0, all_taken (BeginsAlone m) b.count ps begin.1) (on, b.passes) s (omega (arith, fed, more))

  -- where the first of them feeds the build of the join
  pub front_of_build : (ran : List Way) (p : Way) (ps : List Way) (count : ℕ) → AllByRecursion (IsWay m) (p ∷ ps) → AllByRecursion (BeginsAlone m) (p ∷ ps) → is_together (begins_on m j) (ran ++ p ∷ ps) ≡ true → 0 < way_to j p
      → ((i : ℕ) → 0 < i → i < count → IsClosed (take i (p ∷ ps)) (drop i (p ∷ ps)) → ⊥) → (m.side j m.ordered ≡ true → ⊥) → feeds m.ordered (take count (p ∷ ps)) ≡ 0
  front_of_build ran p ps count ways begin together fed shortest none =
      no_more (feeds m.ordered (take count (p ∷ ps))) (λ some. none (
      front_side ran p ps count ways begin together ((above m j p.start p.legs ways.0.legs fed).sides j (sound.own j join)) shortest m.ordered some))

  -- ---- who goes through the join

  -- a branch that comes to sinks of the side alone doesn't
  stays_below : (q : Way) (ps : List Way) → Behind m q ps → IsWay m q → ((s : ℕ) → 0 < way_to s q → m.side j s ≡ true) → 0 < way_through j q → ⊥
  stays_below q ps behind way on through =
      let some = first_sink q.legs way.some in
      let none = behind j some.0 through (on some.0 some.1) in
      let fed = some.1 in
      omega (arith, none, fed)

  below_pass_none : (n : ℕ) (ps : List Way) → AreOrdered m ps → AllByRecursion (IsWay m) ps → ((s : ℕ) → 0 < feeds s (take n ps) → m.side j s ≡ true) → passes j (take n ps) ≡ 0
  below_pass_none zero [] order ways on = refl
  below_pass_none zero (q ∷ ps) order ways on = refl
  below_pass_none (suc n) [] order ways on = refl
  below_pass_none (suc n) (q ∷ ps) order ways on =
      let here = no_more (way_through j q) (stays_below q ps order.0 ways.0 (λ s fed. on s (omega (arith, fed)))) in
      let rest = below_pass_none n ps order.1 ways.1 (λ s fed. on s (omega (arith, fed))) in
      omega (arith, here, rest)

  -- none before one that feeds its build does
  pub before_pass_none : (a : List Way) (p : Way) (ps : List Way) → AreOrdered m (a ++ p ∷ ps) → 0 < way_to j p → passes j a ≡ 0
  before_pass_none [] p ps order fed = refl
  before_pass_none (q ∷ a) p ps order fed =
      let later = feeds_there j a p ps fed in
      let here = no_more (way_through j q) (λ some. (let none = order.0 j j some (sound.own j join) in omega (arith, none, later))) in
      let rest = before_pass_none a p ps order.1 fed in
      omega (arith, here, rest)

  -- nor any of the front part
  pub front_pass_none : (ran : List Way) (p : Way) (ps : List Way) (count : ℕ) → AllByRecursion (IsWay m) (p ∷ ps) → AllByRecursion (BeginsAlone m) (p ∷ ps) → is_together (begins_on m j) (ran ++ p ∷ ps) ≡ true → 0 < way_to j p
      → ((i : ℕ) → 0 < i → i < count → IsClosed (take i (p ∷ ps)) (drop i (p ∷ ps)) → ⊥) → AreOrdered m (p ∷ ps) → passes j (take count (p ∷ ps)) ≡ 0
  front_pass_none ran p ps count ways begin together fed shortest order =
      below_pass_none count (p ∷ ps) order ways (front_side ran p ps count ways begin together ((above m j p.start p.legs ways.0.legs fed).sides j (sound.own j join)) shortest)
