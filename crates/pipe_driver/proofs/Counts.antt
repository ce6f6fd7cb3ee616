-- Legs that are left: what begins at a node goes along its chain.
use Rattle.std.proofs.Common.{◌≡◌, ℕ, ◌+◌, ◌<◌, Bool, ◌==◌, List, [], ◌∷◌, ap, ◌∙◌, arith, inl, inr}
use Rattle.std.specs.List.{AllByRecursion}
use Rattle.pipe_schema.proofs.Weights.{total-append}
use Rattle.pipe_driver.specs.Meaning.{Meaning}
use Rattle.pipe_driver.specs.Legs.{Leg, Way}
use Rattle.pipe_driver.specs.Ways.{one, occurs, legs_to, feeds, legs_through, passes, starts, way_starts, begun, AreLegs, IsWay, IsSoundMeaning}
use Rattle.pipe_driver.proofs.Tests.{by_test, eq-is, eq-true, some-left, all-map}
use Rattle.pipe_driver.specs.State.{IsParked, HasTail, IsTail, TakesOut}
use Rattle.pipe_driver.proofs.Sums.{no_more, within_ways}

abbrev pub HasLegs : Meaning → Way → Type 0
HasLegs m p = AreLegs m p.start p.legs

-- ---- a leg that begins at node x goes through what is on the chain of x, into the sink there

leg_through : (m : Meaning) (x op start : ℕ) (legs : List Leg) → AreLegs m start legs → 0 < occurs op (m.above x) → 0 < starts x start legs → 0 < legs_through op legs
leg_through m x op start [] are on some = absurd (omega arith)
leg_through m x op start (leg ∷ legs) are on some =
    by_test (0 < legs_through op (leg ∷ legs)) (start == x)
    (λ e. (let same : occurs op leg.operators ≡ occurs op (m.above x) = ap (occurs op) (are.0.chain ∙ ap m.above (eq-is start x e)) in omega (arith, on, same)))
    (λ e. (let none : one (start == x) ≡ 0 = ap one e in let rest = leg_through m x op leg.sink legs are.1 on (omega (arith, some, none)) in omega (arith, rest)))

leg_feeds : (m : Meaning) (x start : ℕ) (legs : List Leg) → AreLegs m start legs → 0 < starts x start legs → 0 < legs_to (m.above_sink x) legs
leg_feeds m x start [] are some = absurd (omega arith)
leg_feeds m x start (leg ∷ legs) are some =
    by_test (0 < legs_to (m.above_sink x) (leg ∷ legs)) (start == x)
    (λ e. (let same : leg.sink ≡ m.above_sink x = are.0.chain_sink ∙ ap m.above_sink (eq-is start x e) in let here : one (leg.sink == m.above_sink x) ≡ 1 = ap one (eq-true leg.sink (m.above_sink x) same) in omega (arith, here)))
    (λ e. (let none : one (start == x) ≡ 0 = ap one e in let rest = leg_feeds m x leg.sink legs are.1 (omega (arith, some, none)) in omega (arith, rest)))

begun_through : (m : Meaning) (x op : ℕ) (ps : List Way) → AllByRecursion (HasLegs m) ps → 0 < occurs op (m.above x) → 0 < begun x ps → 0 < passes op ps
begun_through m x op [] are on some = absurd (omega arith)
begun_through m x op (p ∷ ps) are on some =
    elim (some-left (way_starts x p)) [
      | inr here ↦ (let first = leg_through m x op p.start p.legs are.0 on here in omega (arith, first))
      | inl none ↦ (let rest = begun_through m x op ps are.1 on (omega (arith, some, none)) in omega (arith, rest))
    ]

begun_feeds : (m : Meaning) (x : ℕ) (ps : List Way) → AllByRecursion (HasLegs m) ps → 0 < begun x ps → 0 < feeds (m.above_sink x) ps
begun_feeds m x [] are some = absurd (omega arith)
begun_feeds m x (p ∷ ps) are some =
    elim (some-left (way_starts x p)) [
      | inr here ↦ (let first = leg_feeds m x p.start p.legs are.0 here in omega (arith, first))
      | inl none ↦ (let rest = begun_feeds m x ps are.1 (omega (arith, some, none)) in omega (arith, rest))
    ]

-- where none goes through it, none begins below it
pub none_begun : (m : Meaning) (x op : ℕ) (ps : List Way) → AllByRecursion (HasLegs m) ps → 0 < occurs op (m.above x) → passes op ps ≡ 0 → begun x ps ≡ 0
none_begun m x op ps are on none = no_more (begun x ps) (λ some. (let l = begun_through m x op ps are on some in omega (arith, l, none)))

pub none_begins : (m : Meaning) (x : ℕ) (ps : List Way) → AllByRecursion (HasLegs m) ps → feeds (m.above_sink x) ps ≡ 0 → begun x ps ≡ 0
none_begins m x ps are none = no_more (begun x ps) (λ some. (let l = begun_feeds m x ps are some in omega (arith, l, none)))

-- nor does any go through what is below it
pub none_below : (m : Meaning) (y op : ℕ) (ps : List Way) → IsSoundMeaning m → AllByRecursion (HasLegs m) ps → 0 < occurs op (m.above y) → passes op ps ≡ 0 → passes y ps ≡ 0
none_below m y op ps sound are on none = no_more (passes y ps) (λ some. (let w = within_ways m y op ps sound are some in let few = w.few in omega (arith, few, on, none)))

pub none_passes : (m : Meaning) (y : ℕ) (ps : List Way) → IsSoundMeaning m → AllByRecursion (HasLegs m) ps → feeds (m.above_sink y) ps ≡ 0 → passes y ps ≡ 0
none_passes m y ps sound are none = no_more (passes y ps) (λ some. (let w = within_ways m y y ps sound are some in let fed = w.sink in omega (arith, fed, none)))

-- what begins at a node, or goes through it, feeds a sink
pub some_begun_feeds : (m : Meaning) (x : ℕ) (ps : List Way) → AllByRecursion (HasLegs m) ps → 0 < begun x ps → 0 < feeds (m.above_sink x) ps
some_begun_feeds m x ps are some = begun_feeds m x ps are some

pub some_pass_feeds : (m : Meaning) (y : ℕ) (ps : List Way) → IsSoundMeaning m → AllByRecursion (HasLegs m) ps → 0 < passes y ps → 0 < feeds (m.above_sink y) ps
some_pass_feeds m y ps sound are some = (within_ways m y y ps sound are some).sink

-- ---- the legs of a state

pub parked_legs : (m : Meaning) (sinks : ℕ → ℕ) (but : ℕ → Bool) (todo parked : List Way) → AllByRecursion (IsParked m sinks but todo) parked → AllByRecursion (HasLegs m) parked
parked_legs m sinks but todo parked are = all-map (IsParked m sinks but todo) (HasLegs m) parked (λ q a. a.legs) are

pub todo_legs : (m : Meaning) (todo : List Way) → AllByRecursion (IsWay m) todo → AllByRecursion (HasLegs m) todo
todo_legs m todo are = all-map (IsWay m) (HasLegs m) todo (λ q a. a.legs) are

-- ---- what is left of a way waits

tail_begun : (s : ℕ) (legs : List Leg) (tails : List Way) (n : ℕ) → IsTail s legs tails → begun n tails ≡ starts n s legs
tail_begun s [] tails n is = ap (begun n) is
tail_begun s (leg ∷ legs) tails n is =
    let q = is.0 in
    let e : way_starts n q ≡ starts n s (leg ∷ legs) = ap (λ k. starts n k q.legs) is.1 ∙ ap (starts n s) is.2 in
    let all : begun n tails ≡ begun n (q ∷ []) = ap (begun n) is.3 in
    omega (arith, e, all)

pub later_begun : (s : ℕ) (legs : List Leg) (parked later : List Way) (n : ℕ) → HasTail s legs parked later → begun n later ≡ begun n parked + starts n s legs
later_begun s legs parked later n tail =
    let split = ap (begun n) tail.is ∙ total-append (way_starts n) parked tail.tails in
    let t = tail_begun s legs tail.tails n tail.tail in
    omega (arith, split, t)

-- a way is taken out of those that wait
pub out_begun : (s : ℕ) (q : Way) (old new : List Way) (n : ℕ) → TakesOut s q old new → begun n old ≡ begun n (q ∷ new)
out_begun s q old new n h =
    let was = ap (begun n) h.was ∙ total-append (way_starts n) h.before (q ∷ h.after) in
    let is = ap (begun n) h.is ∙ total-append (way_starts n) h.before h.after in
    omega (arith, was, is)
