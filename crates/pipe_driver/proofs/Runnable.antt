-- The branches of a well-formed plan can be run.
use Rattle.std.proofs.Common.{◌≡◌, ℕ, zero, suc, ◌+◌, ◌<◌, ◌≤◌, Bool, true, false, cond, ◌||◌, ◌==◌, inl, inr, List, [], ◌∷◌, ◌++◌, length, map, refl, sym, ap, subst, ◌∙◌, arith}
use Rattle.std.specs.List.{flat_map, list_any, AllByRecursion}
use Rattle.pipe_schema.specs.Rows.{Row}
use Rattle.pipe_schema.specs.Weights.{total}
use Rattle.pipe_schema.proofs.Weights.{total-append, total-flat_map, Same-from_bag}
use Rattle.pipe_plan.specs.Plan.{Plan}
use Rattle.pipe_plan.specs.Under.{is_under}
use Rattle.pipe_plan.specs.Faults.{IsWellFormed}
use Rattle.pipe_driver.specs.declared.branch.SinkAt.TheVariants as at
use Rattle.pipe_driver.specs.Shape.{Kind, Begins, Each, Unites, Joins, Sorts, is_joining, sources_by, joins_by, sources_of}
use Rattle.pipe_driver.specs.Meaning.{Meaning, Place, OutOf, Into, comes, from, Tree, is_join_at, tree_of, meaning_of}
use Rattle.pipe_driver.specs.Legs.{Leg, Way, ways_of}
use Rattle.pipe_driver.specs.Ways.{one, occurs, feeds, legs_through, passes, starts, begun, starts_from, starts_of, leg_brings, legs_bring, way_brings, brought, own_brings, AreLegs, IsWay, AreOrdered, CanRun}
use Rattle.pipe_driver.specs.LegLaws.{LegsAreChains, BuiltSidesComeFirst, LegsBeginAtSources, LegsBeginOnce, EveryJoinIsRun, SinksHaveTheirRows, NodesHaveTheirRows, BranchesCanRun}
use Rattle.pipe_driver.proofs.Tests.{by_test, eq-is, eq-true, not-both, or-case, or-first, or-right, and-cases, some-left, occurs-append, occurs-total}
use Rattle.pipe_driver.proofs.Trees.{IsInput, AreApart, AreInputs, under_inputs, IsTree}
use Rattle.pipe_driver.proofs.Trails.{Trail, trail_to, trail_through, trail_starts, opened, IsStep, AreSteps, some_legs, IsTrail, IsCut, none_free, or_own, IsCutAt, closed_by, sunk}
use Rattle.pipe_driver.proofs.Trails as trail
use Rattle.pipe_driver.proofs.Steps.{repeated, left_passed, all_sink, closed_sunk}
use Rattle.pipe_driver.proofs.Cuts.{of_sink}
use Rattle.pipe_driver.proofs.Sides.{not_ordered, sides_stay}
use Rattle.pipe_driver.proofs.Nodes.{cuts, know_all}
use Rattle.pipe_driver.proofs.Totals.{sums}
use Rattle.pipe_driver.proofs.Paths.{way_of_trail, within, trails, are_trails, ways_are}
use Rattle.pipe_driver.proofs.PlanParts.{there, is_tree}

-- ---- sources stand once

-- each of some nodes once, and all of them within others
pub record Once (within : ℕ → Bool) (xs : List ℕ) : Type 0 where
  pub few : (n : ℕ) → occurs n xs ≤ 1
  pub inside : (n : ℕ) → 0 < occurs n xs → within n ≡ true

pub two_once : (wa wb within : ℕ → Bool) (a b : List ℕ) → Once wa a → Once wb b → ((k : ℕ) → wa k ≡ true → wb k ≡ true → ⊥) → ((k : ℕ) → wa k ≡ true → within k ≡ true) → ((k : ℕ) → wb k ≡ true → within k ≡ true) → Once within (a ++ b)
two_once wa wb within a b x y apart ua ub = record {
  few = λ n. (let e = occurs-append n a b in let l = x.few n in let r = y.few n in
      elim (some-left (occurs n a)) [ inl z ↦ omega arith | inr p ↦ elim (some-left (occurs n b)) [ inl z ↦ omega arith | inr q ↦ absurd (apart n (x.inside n p) (y.inside n q)) ] ]);
  inside = λ n h. (let e = occurs-append n a b in elim (some-left (occurs n a)) [ inl z ↦ ub n (y.inside n (omega arith)) | inr p ↦ ua n (x.inside n p) ]);
}

pub more_once : (wa within : ℕ → Bool) (n : ℕ) (a : List ℕ) → Once wa a → wa n ≡ false → within n ≡ true → ((k : ℕ) → wa k ≡ true → within k ≡ true) → Once within (n ∷ a)
more_once wa within n a x out own up = record {
  few = λ k. by_test (occurs k (n ∷ a) ≤ 1) (n == k)
      (λ e. (let c = ap one e in elim (some-left (occurs k a)) [ inl z ↦ omega arith | inr p ↦ absurd (not-both (wa n) (ap wa (eq-is n k e) ∙ x.inside k p) out) ]))
      (λ e. (let c = ap one e in let l = x.few k in omega arith));
  inside = λ k h. by_test (within k ≡ true) (n == k) (λ e. ap within (sym (eq-is n k e)) ∙ own) (λ e. (let c = ap one e in up k (x.inside k (omega arith))));
}

pub raise_once : (wa within : ℕ → Bool) (a : List ℕ) → ((k : ℕ) → wa k ≡ true → within k ≡ true) → Once wa a → Once within a
raise_once wa within a up x = record { few = x.few; inside = λ n h. up n (x.inside n h) }

pub list_once : (t : Tree) (f : ℕ → List ℕ) (n : ℕ) (is : List ℕ) → AreApart t is → AllByRecursion (λ i. Once (t.under i) (f i)) is → Once (λ k. list_any (λ o. t.under o k) is) (flat_map f is)
list_once t f n [] apart known = record { few = λ k. omega arith; inside = λ k h. absurd (omega arith) }
list_once t f n (i ∷ is) apart known =
    two_once (t.under i) (λ k. list_any (λ o. t.under o k) is) (λ k. list_any (λ o. t.under o k) (i ∷ is)) (f i) (flat_map f is) known.0 (list_once t f n is apart.1 known.1) (λ k a b. apart.0 k a b)
    (λ k a. or-first (t.under i k) (list_any (λ o. t.under o k) is) a) (λ k b. or-right (t.under i k) (list_any (λ o. t.under o k) is) b)

pub in_any : (t : Tree) (n k : ℕ) (is : List ℕ) → AllByRecursion (IsInput t n) is → list_any (λ o. t.under o k) is ≡ true → t.under n k ≡ true
in_any t n k [] are h = absurd (let e : false ≡ true = h in cc)
in_any t n k (i ∷ is) are h = by_test (t.under n k ≡ true) (t.under i k) (are.0.within k)
    (λ e. in_any t n k is are.1 (sym (ap (λ v. v || list_any (λ o. t.under o k) is) e) ∙ h))

pub above_not : (t : Tree) (n i : ℕ) → IsTree t → i < n → t.under t.root i ≡ true → t.under i n ≡ false
above_not t n i good lt u = by_test (t.under i n ≡ false) (t.under i n) (λ e. (let l = good.lower i n u e in absurd (omega arith))) (λ e. e)

at_once : (t : Tree) (n : ℕ) (x : Kind) → IsTree t → t.under t.root n ≡ true → AreInputs t n x → ((i : ℕ) → i < n → t.under t.root i ≡ true → Once (t.under i) (t.sources i)) → Once (t.under n) (sources_by t.sources n x)
at_once t n Begins good u are known = more_once (λ k. false) (t.under n) n [] (record { few = λ k. omega arith; inside = λ k h. absurd (omega arith) }) refl (good.self n u) (λ k h. absurd (let f : false ≡ true = h in cc))
at_once t n (Each i) good u are known = raise_once (t.under i) (t.under n) (t.sources i) are.within (known i are.lower are.under)
at_once t n (Unites is) good u are known =
    raise_once (λ k. list_any (λ o. t.under o k) is) (t.under n) (flat_map t.sources is) (λ k h. in_any t n k is are.0 h)
    (list_once t t.sources n is are.1 (know_all t (λ i. Once (t.under i) (t.sources i)) n is known are.0))
at_once t n (Joins b p) good u are known =
    two_once (t.under b) (t.under p) (t.under n) (t.sources b) (t.sources p) (known b are.0.lower are.0.under) (known p are.1.lower are.1.under) are.2 are.0.within are.1.within
at_once t n (Sorts i) good u are known =
    more_once (t.under i) (t.under n) n (t.sources i) (known i are.lower are.under) (above_not t n i good are.lower are.under) (good.self n u) are.within

sources_once : (t : Tree) (bound n : ℕ) → IsTree t → n < bound → t.under t.root n ≡ true → Once (t.under n) (t.sources n)
sources_once t zero n good lt u = absurd (omega arith)
sources_once t (suc bound) n good lt u =
    let is = at_once t n (t.kind n) good u (good.inputs n u) (λ i less under. sources_once t bound i good (omega arith) under) in
    let P : List ℕ → Type 0 = Once (t.under n) in
    subst P (sym (good.sources n u)) is

-- ---- joins are among those of the root

own_listed : (t : Tree) (n j : ℕ) (x : Kind) → t.kind n ≡ x → n ≡ j → is_joining (t.kind j) ≡ true → 0 < occurs j (joins_by t.joins n x)
own_listed t n j Begins e same h = absurd (not-both (is_joining (t.kind j)) h (ap (λ i. is_joining (t.kind i)) (sym same) ∙ ap is_joining e))
own_listed t n j (Each i) e same h = absurd (not-both (is_joining (t.kind j)) h (ap (λ i. is_joining (t.kind i)) (sym same) ∙ ap is_joining e))
own_listed t n j (Unites is) e same h = absurd (not-both (is_joining (t.kind j)) h (ap (λ i. is_joining (t.kind i)) (sym same) ∙ ap is_joining e))
own_listed t n j (Joins b p) e same h = let a = occurs-append j (t.joins b) (n ∷ t.joins p) in let c = ap one (eq-true n j same) in omega arith
own_listed t n j (Sorts i) e same h = absurd (not-both (is_joining (t.kind j)) h (ap (λ i. is_joining (t.kind i)) (sym same) ∙ ap is_joining e))

any_listed : (t : Tree) (n j : ℕ) (is : List ℕ) → AllByRecursion (IsInput t n) is → list_any (λ o. t.under o j) is ≡ true → ((i : ℕ) → i < n → t.under t.root i ≡ true → t.under i j ≡ true → 0 < occurs j (t.joins i)) → 0 < occurs j (flat_map t.joins is)
any_listed t n j [] are h inside = absurd (let f : false ≡ true = h in cc)
any_listed t n j (i ∷ is) are h inside =
    let a = occurs-append j (t.joins i) (flat_map t.joins is) in
    by_test (0 < occurs j (flat_map t.joins (i ∷ is))) (t.under i j)
    (λ e. (let k = inside i are.0.lower are.0.under e in omega arith))
    (λ e. (let k = any_listed t n j is are.1 (sym (ap (λ v. v || list_any (λ o. t.under o j) is) e) ∙ h) inside in omega arith))

part_listed : (t : Tree) (n j : ℕ) (x : Kind) → AreInputs t n x → under_inputs t.under x j ≡ true → ((i : ℕ) → i < n → t.under t.root i ≡ true → t.under i j ≡ true → 0 < occurs j (t.joins i)) → 0 < occurs j (joins_by t.joins n x)
part_listed t n j Begins are h inside = absurd (let f : false ≡ true = h in cc)
part_listed t n j (Each i) are h inside = inside i are.lower are.under h
part_listed t n j (Unites is) are h inside = any_listed t n j is are.0 h inside
part_listed t n j (Joins b p) are h inside =
    let a = occurs-append j (t.joins b) (n ∷ t.joins p) in
    elim (or-case (t.under b j) (t.under p j) h) [
      | inl e ↦ (let k = inside b are.0.lower are.0.under e in omega arith)
      | inr e ↦ (let k = inside p are.1.lower are.1.under e in omega arith)
    ]
part_listed t n j (Sorts i) are h inside = inside i are.lower are.under h

pub join_listed : (t : Tree) (bound n j : ℕ) → IsTree t → n < bound → t.under t.root n ≡ true → is_join_at t j ≡ true → t.under n j ≡ true → 0 < occurs j (t.joins n)
join_listed t zero n j good lt u join h = absurd (omega arith)
join_listed t (suc bound) n j good lt u join h =
    let c = and-cases (t.under t.root j) (is_joining (t.kind j)) join in
    let P : List ℕ → Type 0 = λ js. 0 < occurs j js in
    subst P (sym (good.joins n u)) (by_test (0 < occurs j (joins_by t.joins n (t.kind n))) (n == j)
    (λ q. own_listed t n j (t.kind n) refl (eq-is n j q) c.1)
    (λ q. part_listed t n j (t.kind n) (good.inputs n u) (good.parts n j u h (λ s. not-both (n == j) (eq-true n j (sym s)) q) (good.joins_run j c.0 c.1))
    (λ i less under v. join_listed t bound i j good (omega arith) under join v)))

-- ---- trails that are closed, as ways

abbrev AllClosed : List Trail → Type 0
AllClosed [] = Unit {0}
AllClosed (p ∷ ps) = (p.is_open ≡ false) × AllClosed ps

none_open : (ps : List Trail) → total opened ps ≡ 0 → AllClosed ps
none_open [] h = tt
none_open (p ∷ ps) h =
    let split : (b : Bool) → one b + total opened ps ≡ 0 → b ≡ false = elim [ true ↦ λ e. absurd (omega arith) | false ↦ λ e. refl ] in
    (split p.is_open h, none_open ps (omega arith))

record Alike (ps : List Trail) : Type 0 where
  to_is : (s : ℕ) → feeds s (map way_of_trail ps) ≡ total (trail_to s) ps
  passes_is : (j : ℕ) → passes j (map way_of_trail ps) ≡ total (trail_through j) ps
  starts_is : (h : ℕ → ℕ) → total h (flat_map starts_of (map way_of_trail ps)) ≡ total h (flat_map trail_starts ps)

closed_through : (j : ℕ) (p : Trail) → p.is_open ≡ false → trail_through j p ≡ legs_through j p.legs
closed_through j p e = let c = ap (λ b. cond b (occurs j p.operators) 0) e in omega arith

alike : (ps : List Trail) → AllClosed ps → Alike ps
alike [] closed = record { to_is = λ s. refl; passes_is = λ j. refl; starts_is = λ h. refl }
alike (p ∷ ps) closed =
    let rest = alike ps closed.1 in
    record {
      to_is = λ s. (let r = rest.to_is s in omega arith);
      passes_is = λ j. (let r = rest.passes_is j in let e = closed_through j p closed.0 in omega arith);
      starts_is = λ h. (
          let r = rest.starts_is h in
          let a = total-append h (starts_from p.start p.legs) (flat_map starts_of (map way_of_trail ps)) in
          let b = total-append h (trail_starts p) (flat_map trail_starts ps) in
          let c = total-append h (starts_from p.start p.legs) (cond p.is_open (p.from ∷ []) []) in
          let d = ap (λ b. total h (cond b (p.from ∷ []) [])) closed.0 in omega arith);
    }

order_is : (m : Meaning) (ps : List Trail) → AllClosed ps → trail.AreOrdered m ps → AreOrdered m (map way_of_trail ps)
order_is m [] closed are = tt
order_is m (p ∷ ps) closed are = (
  λ j s passed side. (
      let e = closed_through j p closed.0 in
      let h = are.0 j s (omega arith) side in
      let r = (alike ps closed.1).to_is s in omega arith),
  order_is m ps closed.1 are.1,
)

legs_are : (m : Meaning) (start : ℕ) (legs : List Leg) → AreSteps m start legs false → AreLegs m start legs
legs_are m start [] are = tt
legs_are m start (leg ∷ []) are = (record { chain = are.0.chain; chain_sink = are.0.chain_sink; up = are.0.up; sides = are.0.sides; at = are.0.at; on = tt }, tt)
legs_are m start (leg ∷ next ∷ legs) are = (record { chain = are.0.chain; chain_sink = are.0.chain_sink; up = are.0.up; sides = are.0.sides; at = are.0.at; on = are.0.on refl }, legs_are m leg.sink (next ∷ legs) are.1)

ways_all : (m : Meaning) (in_plan : ℕ → Bool) (n : ℕ) (ps : List Trail) → AllClosed ps → AllByRecursion (IsTrail m in_plan n) ps → AllByRecursion (IsWay m) (map way_of_trail ps)
ways_all m in_plan n [] closed are = tt
ways_all m in_plan n (p ∷ ps) closed are =
    let P : Bool → Type 0 = AreSteps m p.start p.legs in
    (record { some = are.0.ended closed.0; legs = legs_are m p.start p.legs (subst P closed.0 are.0.legs) }, ways_all m in_plan n ps closed.1 are.1)

-- ---- what legs bring, by where they begin

abbrev brings_from : Meaning → Place → ℕ → List Row
brings_from m x n = from m x n (m.rows n)

legs_bring_from : (f : Row → ℕ) (m : Meaning) (x : Place) (start : ℕ) (legs : List Leg) → AreLegs m start legs → total f (legs_bring m x start legs) ≡ total (λ n. total f (brings_from m x n)) (starts_from start legs)
legs_bring_from f m x start [] are = refl
legs_bring_from f m x start (leg ∷ legs) are =
    let r = legs_bring_from f m x leg.sink legs are.1 in
    let a = total-append f (leg_brings m x start leg) (legs_bring m x leg.sink legs) in
    let e = ap (λ ops. total f (comes m.each x start ops leg.sink (m.rows start))) are.0.chain ∙ ap (λ s. total f (comes m.each x start (m.above start) s (m.rows start))) are.0.chain_sink in omega arith

brought_from : (f : Row → ℕ) (m : Meaning) (x : Place) (ps : List Way) → AllByRecursion (IsWay m) ps → total f (brought m x ps) ≡ total (λ n. total f (brings_from m x n)) (flat_map starts_of ps)
brought_from f m x [] are = refl
brought_from f m x (p ∷ ps) are =
    let r = brought_from f m x ps are.1 in
    let a = total-append f (way_brings m x p) (brought m x ps) in
    let b = total-append (λ n. total f (brings_from m x n)) (starts_of p) (flat_map starts_of ps) in
    let c = legs_bring_from f m x p.start p.legs are.0.legs in omega arith

legs_start : (n start : ℕ) (legs : List Leg) → starts n start legs ≡ occurs n (starts_from start legs)
legs_start n start [] = refl
legs_start n start (leg ∷ legs) = let r = legs_start n leg.sink legs in omega arith

begun_starts : (n : ℕ) (ps : List Way) → begun n ps ≡ occurs n (flat_map starts_of ps)
begun_starts n [] = refl
begun_starts n (p ∷ ps) =
    let r = begun_starts n ps in
    let a = occurs-append n (starts_of p) (flat_map starts_of ps) in
    let b = legs_start n p.start p.legs in omega arith

-- ---- the whole

-- a plan's branches as trails, and all that is known of them
record Closed (plan : Plan) (root : ℕ) : Type 0 where
  cut : IsCut (meaning_of plan root) (or_own (is_under plan.nodes root) (length plan.nodes)) none_free (IsTrail (meaning_of plan root) (or_own (is_under plan.nodes root) (length plan.nodes)) (length plan.nodes)) (sources_of plan.nodes root) (meaning_of plan root).joins (map (closed_by at.Ordered (length plan.nodes)) (trails plan root))
  closed : AllClosed (map (closed_by at.Ordered (length plan.nodes)) (trails plan root))
  fed : 0 < total (trail_to (length plan.nodes)) (map (closed_by at.Ordered (length plan.nodes)) (trails plan root))
  ways : ways_of plan root ≡ map way_of_trail (map (closed_by at.Ordered (length plan.nodes)) (trails plan root))

closed_trails : (plan : Plan) (root : ℕ) → IsWellFormed plan root → Closed plan root
closed_trails plan root good =
    let size = length plan.nodes in
    let t = tree_of plan root in
    let m = meaning_of plan root in
    let ok = is_tree plan root good in
    let ps = trails plan root in
    let k = cuts t (trails plan) (suc root) root ok (are_trails plan root good (λ n u. there plan root n good u)) (omega arith) ok.root_under in
    let e = closed_sunk at.Ordered size ps in
    let low : (i : ℕ) → is_under plan.nodes root i ≡ true → i < size = λ i h. there plan root i good h in
    let own_test = eq-true size size refl in
    let zero_h : ℕ → ℕ = λ v. 0 in
    let passed = left_passed ps in
    let P : List Trail → Type 0 = IsCut m (or_own (is_under plan.nodes root) size) none_free (IsTrail m (or_own (is_under plan.nodes root) size) size) (sources_of plan.nodes root) m.joins in
    record {
      cut = subst P (sym e) (of_sink m (is_under plan.nodes root) root at.Ordered size true (sources_of plan.nodes root) (sources_of plan.nodes root) m.joins ps
          (record {
            up = low;
            sides = λ j i h side. absurd (not_ordered t j ok side);
            at = refl;
            within_own = or-right (is_under plan.nodes root size) (size == size) own_test;
            within_below = λ i h. or-first (is_under plan.nodes root i) (size == i) h;
            above = ok.root_above;
            above_sink = ok.root_sink;
          })
          (λ h. absurd (let f : true ≡ false = h in cc)) (λ j s h side. sides_stay t root j s ok ok.root_under h side)
          (λ h. (let z = ap (λ q. repeated q (h size)) passed in omega arith)) k.cut);
      closed = none_open (map (closed_by at.Ordered size) ps) (let o = (all_sink m (is_under plan.nodes root) root at.Ordered size true zero_h 0 ps k.cut.each).opened_is in let g = ap (total opened) e in omega arith);
      fed = (let o = (all_sink m (is_under plan.nodes root) root at.Ordered size true zero_h size ps k.cut.each).to_is in
          let c = ap (λ x. cond x (total opened ps) 0) own_test in let g = ap (total (trail_to size)) e in let s = k.some in omega arith);
      ways = ways_are plan root (within plan root root good (low root ok.root_under) ok.root_under);
    }

record Known (plan : Plan) (root : ℕ) (ps : List Way) : Type 0 where
  run : CanRun (meaning_of plan root) ps
  starts : (h : ℕ → ℕ) → total h (flat_map starts_of ps) ≡ total h (sources_of plan.nodes root)

known : (plan : Plan) (root : ℕ) → IsWellFormed plan root → Known plan root (ways_of plan root)
known plan root good =
    let size = length plan.nodes in
    let t = tree_of plan root in
    let m = meaning_of plan root in
    let ok = is_tree plan root good in
    let c = closed_trails plan root good in
    let qs = map (closed_by at.Ordered size) (trails plan root) in
    let ws = map way_of_trail qs in
    let same = alike qs c.closed in
    let ways = ways_all m (or_own (is_under plan.nodes root) size) size qs c.closed c.cut.each in
    let from_sources : (h : ℕ → ℕ) → total h (flat_map starts_of ws) ≡ total h (sources_of plan.nodes root) = λ h. same.starts_is h ∙ c.cut.starts h in
    let P : List Way → Type 0 = Known plan root in
    subst P (sym c.ways) (record {
      run = record {
        ways = ways;
        order = order_is m qs c.closed c.cut.order;
        once = λ n. (
            let a = begun_starts n ws in
            let b = occurs-total n (flat_map starts_of ws) in
            let d = from_sources (λ k. one (k == n)) in
            let e = occurs-total n (sources_of plan.nodes root) in
            let f = (sources_once t (suc root) root ok (omega arith) ok.root_under).few n in omega arith);
        fed = λ j join h. (let a = same.passes_is j in let b = c.cut.fed j join (omega arith) refl in let d = same.to_is j in omega arith);
        come_to = λ j h. (let a = same.passes_is j in let b = c.cut.met j h in omega arith);
        root = (let a = same.to_is size in let b = c.fed in omega arith);
        rows = λ x place. Same-from_bag (record {
          sums = λ f. (
              let a = total-append f (brought m x ws) (flat_map (own_brings m x) m.joins) in
              let b = brought_from f m x ws ways in
              let d = from_sources (λ n. total f (brings_from m x n)) in
              let e = total-flat_map (brings_from m x) f (sources_of plan.nodes root) in
              let g = sums t ok x place f in omega arith);
        });
      };
      starts = from_sources;
    })

pub can_run : BranchesCanRun
can_run plan root good = (known plan root good).run

pub are_chains : LegsAreChains
are_chains plan root good = (known plan root good).run.ways

pub come_first : BuiltSidesComeFirst
come_first plan root good = (known plan root good).run.order

pub at_sources : LegsBeginAtSources
at_sources plan root good = (known plan root good).starts

pub begin_once : LegsBeginOnce
begin_once plan root n good = (known plan root good).run.once n

pub into_sinks : SinksHaveTheirRows
into_sinks plan root s good place = (known plan root good).run.rows (Into s) place

pub out_of_nodes : NodesHaveTheirRows
out_of_nodes plan root n good run = (known plan root good).run.rows (OutOf n) run

pub are_run : EveryJoinIsRun
are_run plan root j good join =
    let t = tree_of plan root in
    let ok = is_tree plan root good in
    let run = (known plan root good).run in
    let under = (and-cases (is_under plan.nodes root j) (is_joining (t.kind j)) join).0 in
    let through = run.come_to j (join_listed t (suc root) root j ok (omega arith) ok.root_under join under) in
    record { through = through; fed = run.fed j join through }
