-- Sums over ways, and over what joins bring.
use Rattle.std.proofs.Common.{◌≡◌, ◌≢◌, ℕ, zero, suc, ◌+◌, ◌<◌, ◌≤◌, List, [], ◌∷◌, ◌++◌, refl, sym, ap, ◌∙◌, arith, ◌==◌, true, false, inl, inr}
use Rattle.std.specs.List.{flat_map, AllByRecursion}
use Rattle.pipe_schema.specs.Rows.{Row}
use Rattle.pipe_schema.specs.Weights.{total}
use Rattle.pipe_schema.proofs.Weights.{SameBag, total-append}
use Rattle.pipe_driver.specs.Meaning.{Meaning, Place, OutOf, Into, rows_where, comes, from}
use Rattle.pipe_driver.specs.Legs.{Leg, Way}
use Rattle.pipe_driver.specs.Ways.{one, occurs, legs_to, feeds, legs_through, way_through, passes, leg_brings, legs_bring, way_brings, brought, AreLegs, IsSoundMeaning}
use Rattle.pipe_driver.proofs.Tests.{by_test, eq-is, eq-true, eq-not, some-left, flat-total}
use Rattle.pipe_driver.proofs.Totals.{comes_add, comes_none, comes_same}
use Rattle.pipe_driver.specs.State.{kept, pending, AreAlike}

pub no_more : (n : ℕ) → (0 < n → ⊥) → n ≡ 0
no_more zero h = refl
no_more (suc n) h = absurd (h (omega arith))

pub brought_append : (f : Row → ℕ) (m : Meaning) (x : Place) (a b : List Way) → total f (brought m x (a ++ b)) ≡ total f (brought m x a) + total f (brought m x b)
brought_append f m x a b = flat-total f (way_brings m x) a b

-- what there is, what ways bring, and what joins bring
pub split4 : (f : Row → ℕ) (held a b c : List Row) → total f (held ++ ((a ++ b) ++ c)) ≡ total f held + (total f a + total f b + total f c)
split4 f held a b c =
    let e1 = total-append f held ((a ++ b) ++ c) in
    let e2 = total-append f (a ++ b) c in
    let e3 = total-append f a b in omega arith

-- ---- nothing comes to a sink that nothing feeds

into_none : (f : Row → ℕ) (each : ℕ → Row → List Row) (s n : ℕ) (ops : List ℕ) (sink : ℕ) (rows : List Row) → (sink == s) ≡ false → total f (comes each (Into s) n ops sink rows) ≡ 0
into_none f each s n [] sink rows ne = ap (λ b. total f (rows_where b rows)) ne
into_none f each s n (op ∷ ops) sink rows ne = into_none f each s op ops sink (flat_map (each op) rows) ne

legs_into_none : (f : Row → ℕ) (m : Meaning) (s start : ℕ) (legs : List Leg) → legs_to s legs ≡ 0 → total f (legs_bring m (Into s) start legs) ≡ 0
legs_into_none f m s start [] h = refl
legs_into_none f m s start (leg ∷ legs) h =
    let a = total-append f (leg_brings m (Into s) start leg) (legs_bring m (Into s) leg.sink legs) in
    let ne : (leg.sink == s) ≡ false = by_test ((leg.sink == s) ≡ false) (leg.sink == s) (λ e. (let t = ap one e in absurd (omega arith))) (λ e. e) in
    let b = into_none f m.each s start leg.operators leg.sink (m.rows start) ne in
    let c = legs_into_none f m s leg.sink legs (omega arith) in omega arith

pub brought_into_none : (f : Row → ℕ) (m : Meaning) (s : ℕ) (ps : List Way) → feeds s ps ≡ 0 → total f (brought m (Into s) ps) ≡ 0
brought_into_none f m s [] h = refl
brought_into_none f m s (p ∷ ps) h =
    let a = total-append f (way_brings m (Into s) p) (brought m (Into s) ps) in
    let b = legs_into_none f m s p.start p.legs (omega arith) in
    let c = brought_into_none f m s ps (omega arith) in omega arith

pub from_into_none : (f : Row → ℕ) (m : Meaning) (s i : ℕ) (rows : List Row) → (m.above_sink i == s) ≡ false → total f (from m (Into s) i rows) ≡ 0
from_into_none f m s i rows ne = into_none f m.each s i (m.above i) (m.above_sink i) rows ne

-- ---- nothing comes out of the probe side of a join that nothing goes through

pub out_none : (f : Row → ℕ) (m : Meaning) (j n : ℕ) (ops : List ℕ) (sink : ℕ) (rows : List Row) → IsSoundMeaning m → m.is_join j ≡ true → m.above n ≡ ops → occurs j ops ≡ 0 → total f (comes m.each (OutOf (m.probed j)) n ops sink rows) ≡ 0
out_none f m j n [] sink rows sound join is none =
    by_test (total f (comes m.each (OutOf (m.probed j)) n [] sink rows) ≡ 0) (n == m.probed j)
    (λ e. absurd (let g : [] ≡ j ∷ m.above j = sym is ∙ ap m.above (eq-is n (m.probed j) e) ∙ sound.probed j join in cc))
    (λ e. ap (λ b. total f (rows_where b rows ++ [])) e)
out_none f m j n (op ∷ ops) sink rows sound join is none =
    by_test (total f (comes m.each (OutOf (m.probed j)) n (op ∷ ops) sink rows) ≡ 0) (n == m.probed j)
    (λ e. absurd (let g : op ∷ ops ≡ j ∷ m.above j = sym is ∙ ap m.above (eq-is n (m.probed j) e) ∙ sound.probed j join in let same : op ≡ j = cc in let t = ap one (eq-true op j same) in omega arith))
    (λ e. ap (λ b. total f (rows_where b rows ++ comes m.each (OutOf (m.probed j)) op ops sink (flat_map (m.each op) rows))) e
    ∙ out_none f m j op ops sink (flat_map (m.each op) rows) sound join (sound.chained n op ops is).0 (omega arith))

legs_out_none : (f : Row → ℕ) (m : Meaning) (j start : ℕ) (legs : List Leg) → IsSoundMeaning m → m.is_join j ≡ true → AreLegs m start legs → legs_through j legs ≡ 0 → total f (legs_bring m (OutOf (m.probed j)) start legs) ≡ 0
legs_out_none f m j start [] sound join are h = refl
legs_out_none f m j start (leg ∷ legs) sound join are h =
    let x = OutOf (m.probed j) in
    let a = total-append f (leg_brings m x start leg) (legs_bring m x leg.sink legs) in
    let b = out_none f m j start leg.operators leg.sink (m.rows start) sound join (sym are.0.chain) (omega arith) in
    let c = legs_out_none f m j leg.sink legs sound join are.1 (omega arith) in omega arith

pub brought_out_none : (f : Row → ℕ) (m : Meaning) (j : ℕ) (ps : List Way) → IsSoundMeaning m → m.is_join j ≡ true → AllByRecursion (λ p. AreLegs m p.start p.legs) ps → passes j ps ≡ 0 → total f (brought m (OutOf (m.probed j)) ps) ≡ 0
brought_out_none f m j [] sound join are h = refl
brought_out_none f m j (p ∷ ps) sound join are h =
    let x = OutOf (m.probed j) in
    let a = total-append f (way_brings m x p) (brought m x ps) in
    let b = legs_out_none f m j p.start p.legs sound join are.0 (omega arith) in
    let c = brought_out_none f m j ps sound join are.1 (omega arith) in omega arith

-- ---- a sink that legs feed is above where they begin

pub record IsAbove (m : Meaning) (start s : ℕ) : Type 0 where
  pub up : start < s
  pub sides : (j : ℕ) → m.side j s ≡ true → m.side j start ≡ true

pub above : (m : Meaning) (s start : ℕ) (legs : List Leg) → AreLegs m start legs → 0 < legs_to s legs → IsAbove m start s
above m s start [] are h = absurd (omega arith)
above m s start (leg ∷ legs) are h =
    by_test (IsAbove m start s) (leg.sink == s)
    (λ e. (let same = eq-is leg.sink s e in
    let up = are.0.up in
    record { up = omega arith; sides = λ j t. are.0.sides j (ap (m.side j) same ∙ t) }))
    (λ e. (let one_is : one (leg.sink == s) ≡ 0 = ap one e in
    let rest = above m s leg.sink legs are.1 (omega arith) in
    let up = are.0.up in
    let later = rest.up in
    record { up = omega arith; sides = λ j t. are.0.sides j (rest.sides j t) }))

-- ---- what is pending

kept_zero : (n : ℕ) (xs : List Row) → n ≡ 0 → kept n xs ≡ []
kept_zero zero xs e = refl
kept_zero (suc n) xs e = absurd (omega arith)

kept_some : (n : ℕ) (xs : List Row) → 0 < n → kept n xs ≡ xs
kept_some zero xs lt = absurd (omega arith)
kept_some (suc n) xs lt = refl

pending_alike : (old new : ℕ → ℕ) (f : ℕ → List Row) (js : List ℕ) → ((i : ℕ) → kept (new i) (f i) ≡ kept (old i) (f i)) → pending new f js ≡ pending old f js
pending_alike old new f [] h = refl
pending_alike old new f (j ∷ js) h = ap (λ xs. xs ++ pending new f js) (h j) ∙ ap (λ xs. kept (old j) (f j) ++ xs) (pending_alike old new f js h)

-- one join has fewer probers, and still some
pub pending_fewer : (old new : ℕ → ℕ) (f : ℕ → List Row) (js : List ℕ) (j : ℕ) → 0 < old j → 0 < new j → ((k : ℕ) → k ≢ j → new k ≡ old k) → pending new f js ≡ pending old f js
pending_fewer old new f js j some still others = pending_alike old new f js (λ i. by_test (kept (new i) (f i) ≡ kept (old i) (f i)) (i == j)
    (λ e. (let same = eq-is i j e in
    let a : new i ≡ new j = ap new same in
    let b : old i ≡ old j = ap old same in
    kept_some (new i) (f i) (omega arith) ∙ sym (kept_some (old i) (f i) (omega arith))))
    (λ e. ap (λ n. kept n (f i)) (others i (eq-not i j e))))

pub pending_apart : (old new : ℕ → ℕ) (f : ℕ → List Row) (js : List ℕ) (j : ℕ) → occurs j js ≡ 0 → ((k : ℕ) → k ≢ j → new k ≡ old k) → pending new f js ≡ pending old f js
pending_apart old new f [] j none others = refl
pending_apart old new f (i ∷ js) j none others =
    let ne : i ≢ j = λ e. (let t : one (i == j) ≡ 1 = ap one (eq-true i j e) in absurd (omega arith)) in
    ap (λ n. kept n (f i) ++ pending new f js) (others i ne) ∙ ap (λ xs. kept (old i) (f i) ++ xs) (pending_apart old new f js j (omega arith) others)

-- one join has no prober any more
pub pending_last : (g : Row → ℕ) (old new : ℕ → ℕ) (f : ℕ → List Row) (js : List ℕ) (j : ℕ) → occurs j js ≡ 1 → 0 < old j → new j ≡ 0 → ((k : ℕ) → k ≢ j → new k ≡ old k)
    → total g (pending old f js) ≡ total g (f j) + total g (pending new f js)
pending_last g old new f [] j once some none others = absurd (omega arith)
pending_last g old new f (i ∷ js) j once some none others =
    let a = total-append g (kept (old i) (f i)) (pending old f js) in
    let b = total-append g (kept (new i) (f i)) (pending new f js) in
    by_test (total g (pending old f (i ∷ js)) ≡ total g (f j) + total g (pending new f (i ∷ js))) (i == j)
    (λ e. (let same = eq-is i j e in
    let t : one (i == j) ≡ 1 = ap one e in
    let old_i : old i ≡ old j = ap old same in
    let new_i : new i ≡ new j = ap new same in
    let c = ap (total g) (kept_some (old i) (f i) (omega arith)) in
    let d = ap (total g) (kept_zero (new i) (f i) (omega arith)) in
    let k = ap (λ n. total g (f n)) same in
    let rest = ap (total g) (pending_apart old new f js j (omega arith) others) in
    omega arith))
    (λ e. (let t : one (i == j) ≡ 0 = ap one e in
    let c = ap (λ n. total g (kept n (f i))) (others i (eq-not i j e)) in
    let rest = pending_last g old new f js j (omega arith) some none others in
    omega arith))

pub pending_nil : (g : Row → ℕ) (probers : ℕ → ℕ) (f : ℕ → List Row) (js : List ℕ) → ((i : ℕ) → 0 < probers i → total g (f i) ≡ 0) → total g (pending probers f js) ≡ 0
pending_nil g probers f [] h = refl
pending_nil g probers f (i ∷ js) h =
    let a = total-append g (kept (probers i) (f i)) (pending probers f js) in
    let split : (n : ℕ) → probers i ≡ n → total g (kept n (f i)) ≡ 0 = elim [
      | zero ↦ λ e. refl
      | suc n ↦ λ e. h i (omega arith)
    ] in let b = split (probers i) refl in let c = pending_nil g probers f js h in omega arith

-- joins gave some rows more
pub pending_more : (g : Row → ℕ) (m : Meaning) (x : Place) (probers : ℕ → ℕ) (old new more : ℕ → List Row) (js : List ℕ) → ((j : ℕ) → SameBag (new j) (old j ++ more j)) → ((j : ℕ) → probers j ≡ 0 → more j ≡ [])
    → total g (pending probers (λ j. from m x j (new j)) js) ≡ total g (pending probers (λ j. from m x j (old j)) js) + total g (flat_map (λ j. from m x j (more j)) js)
pending_more g m x probers old new more [] same only = refl
pending_more g m x probers old new more (i ∷ js) same only =
    let a = total-append g (kept (probers i) (from m x i (new i))) (pending probers (λ j. from m x j (new j)) js) in
    let b = total-append g (kept (probers i) (from m x i (old i))) (pending probers (λ j. from m x j (old j)) js) in
    let c = total-append g (from m x i (more i)) (flat_map (λ j. from m x j (more j)) js) in
    let r = pending_more g m x probers old new more js same only in
    let split : (n : ℕ) → probers i ≡ n → total g (kept n (from m x i (new i))) ≡ total g (kept n (from m x i (old i))) + total g (from m x i (more i)) = elim [
      | zero ↦ λ e. (let z = ap (λ rows. total g (from m x i rows)) (only i e) in let y = comes_none g m.each x i (m.above i) (m.above_sink i) in omega arith)
      | suc n ↦ λ e. (let p = comes_same g m.each x i (m.above i) (m.above_sink i) (new i) (old i ++ more i) (same i) in let q = comes_add g m.each x i (m.above i) (m.above_sink i) (old i) (more i) in omega arith)
    ] in let d = split (probers i) refl in omega arith

-- ---- behind a node that a leg goes through there are no more than the leg's operators, and the leg's sink

pub alike_from : (m : Meaning) (n : ℕ) (ops : List ℕ) (s : ℕ) → IsSoundMeaning m → m.above n ≡ ops → m.above_sink n ≡ s → AreAlike m s ops
alike_from m n [] s sound is to = tt
alike_from m n (op ∷ ops) s sound is to = let c = sound.chained n op ops is in (c.0, c.1 ∙ to, alike_from m op ops s sound c.0 (c.1 ∙ to))

pub record IsWithin (m : Meaning) (i j s n : ℕ) : Type 0 where
  pub few : occurs j (m.above i) ≤ n
  pub sink : m.above_sink i ≡ s

pub within_ops : (m : Meaning) (i j s : ℕ) (ops : List ℕ) → AreAlike m s ops → 0 < occurs i ops → IsWithin m i j s (occurs j ops)
within_ops m i j s [] are h = absurd (omega arith)
within_ops m i j s (op ∷ ops) are h =
    by_test (IsWithin m i j s (occurs j (op ∷ ops))) (op == i)
    (λ e. (let same = eq-is op i e in
    let a : m.above i ≡ ops = ap m.above (sym same) ∙ are.0 in
    let b = ap (occurs j) a in
    record { few = omega arith; sink = ap m.above_sink (sym same) ∙ are.1 }))
    (λ e. (let t : one (op == i) ≡ 0 = ap one e in
    let w = within_ops m i j s ops are.2 (omega arith) in
    record { few = (let f = w.few in omega arith); sink = w.sink }))

pub record IsBehind (m : Meaning) (i j n : ℕ) (to : ℕ → ℕ) : Type 0 where
  pub few : occurs j (m.above i) ≤ n
  pub sink : 0 < to (m.above_sink i)

within_legs : (m : Meaning) (i j start : ℕ) (legs : List Leg) → IsSoundMeaning m → AreLegs m start legs → 0 < legs_through i legs → IsBehind m i j (legs_through j legs) (λ s. legs_to s legs)
within_legs m i j start [] sound are h = absurd (omega arith)
within_legs m i j start (leg ∷ legs) sound are h =
    elim (some-left (occurs i leg.operators)) [
      | inl z ↦ (let w = within_legs m i j leg.sink legs sound are.1 (omega arith) in record { few = (let f = w.few in omega arith); sink = (let k = w.sink in omega arith) })
      | inr l ↦ (let w = within_ops m i j leg.sink leg.operators (alike_from m start leg.operators leg.sink sound (sym are.0.chain) (sym are.0.chain_sink)) l in
          let t : one (leg.sink == m.above_sink i) ≡ 1 = ap one (eq-true leg.sink (m.above_sink i) (sym w.sink)) in
          record { few = (let f = w.few in omega arith); sink = omega arith })
    ]

pub within_ways : (m : Meaning) (i j : ℕ) (ps : List Way) → IsSoundMeaning m → AllByRecursion (λ p. AreLegs m p.start p.legs) ps → 0 < passes i ps → IsBehind m i j (passes j ps) (λ s. feeds s ps)
within_ways m i j [] sound are h = absurd (omega arith)
within_ways m i j (p ∷ ps) sound are h =
    elim (some-left (way_through i p)) [
      | inl z ↦ (let w = within_ways m i j ps sound are.1 (omega arith) in record { few = (let f = w.few in omega arith); sink = (let k = w.sink in omega arith) })
      | inr l ↦ (let w = within_legs m i j p.start p.legs sound are.0 l in record { few = (let f = w.few in omega arith); sink = (let k = w.sink in omega arith) })
    ]
