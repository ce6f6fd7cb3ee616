-- The trails of each node of a plan, from its inputs up.
use Rattle.std.proofs.Common.{◌≡◌, ℕ, zero, suc, ◌<◌, true, false, cond, ◌||◌, ◌==◌, inl, inr, List, [], ◌∷◌, ◌++◌, map, refl, sym, ap, subst, ◌∙◌, arith}
use Rattle.std.specs.List.{flat_map, list_any, AllByRecursion}
use Rattle.pipe_schema.specs.Weights.{total}
use Rattle.pipe_schema.proofs.Weights.{total-append}
use Rattle.pipe_driver.specs.declared.branch.SinkAt.TheVariants as at
use Rattle.pipe_driver.specs.Shape.{Kind, Begins, Each, Unites, Joins, Sorts, is_sorting, sources_by, joins_by}
use Rattle.pipe_driver.specs.Meaning.{Tree, is_sort_at, meaning}
use Rattle.pipe_driver.specs.Ways.{one}
use Rattle.pipe_driver.proofs.Tests.{by_test, eq-is, eq-true, not-both, or-first, or-right, and-both, some-left}
use Rattle.pipe_driver.proofs.Trees.{IsInput, EndsAt, AreApart, AreInputs, IsTree}
use Rattle.pipe_driver.proofs.Trails.{Trail, through, closed_by, sunk, trails_by, AreTrails, trail_to, trail_through, opened, IsTrail, IsCut, none_free, is_free, or_own, IsCutAt}
use Rattle.pipe_driver.proofs.Steps.{all_through, through_each, repeated, left_passed, left_first, all_sink, closed_sunk}
use Rattle.pipe_driver.proofs.Cuts.{raise_trail, raise, two, of_source, of_none, of_operator, of_sink}
use Rattle.pipe_driver.proofs.Sides.{is_join_there, no_join, no_side, side_cases, sides_stay, sides_down}

abbrev pub CutAt : Tree → (ℕ → List Trail) → ℕ → Type 0
CutAt t trails n = IsCutAt (meaning t) (t.under n) n (t.sources n) (t.joins n) (trails n)

own_within : (t : Tree) (n i : ℕ) → t.under n n ≡ true → ((k : ℕ) → t.under i k ≡ true → t.under n k ≡ true) → (k : ℕ) → or_own (t.under i) n k ≡ true → t.under n k ≡ true
own_within t n i self up k h = by_test (t.under n k ≡ true) (t.under i k) (up k)
    (λ e. (let f : (n == k) ≡ true = sym (ap (λ b. b || (n == k)) e) ∙ h in ap (t.under n) (sym (eq-is n k f)) ∙ self))

low_input : (t : Tree) (n i k : ℕ) → IsTree t → i < n → t.under t.root i ≡ true → t.under i k ≡ true → k < n
low_input t n i k good lt u h = let l = good.lower i k u h in omega arith

-- ---- an operator of one input

one_input : (t : Tree) (trails : ℕ → List Trail) (n i : ℕ) → IsTree t → t.under t.root n ≡ true → t.kind n ≡ Each i → IsInput t n i → CutAt t trails i
    → IsCutAt (meaning t) (t.under n) n (t.sources i) (t.joins i) (map (through n) (trails i))
one_input t trails n i good u e input k = record {
  cut = of_operator (meaning t) (t.under i) (t.under n) none_free n (t.sources i) (t.joins i) (trails i) input.within
      (λ h. absurd (no_join t n (Each i) e refl h)) (λ f. good.self n u) (λ s side. absurd (no_side t n s (Each i) e refl side))
      k.cut.sinks (λ j h. k.cut.passed j h refl) (λ j is h. k.cut.fed j is h refl) (λ j h. (let p = (all_through n j 0 (trails i)).passes_is in let r = k.cut.met j h in omega arith))
      k.cut.order (through_each (meaning t) (t.under i) (t.under n) i n (trails i) input.within input.above input.above_sink k.cut.each) k.cut.starts;
  some = (let o = (all_through n 0 0 (trails i)).opened_is in let s = k.some in omega arith);
}

-- ---- a union

-- what a trail of an input becomes
abbrev GoesOn : Tree → ℕ → Trail → Type 0
GoesOn t n p = IsTrail (meaning t) (t.under n) n (through n p)

each_through : (t : Tree) (n : ℕ) (ps : List Trail) → AllByRecursion (GoesOn t n) ps → AllByRecursion (IsTrail (meaning t) (t.under n) n) (map (through n) ps)
each_through t n [] are = tt
each_through t n (p ∷ ps) are = (are.0, each_through t n ps are.1)

through_goes : (t : Tree) (n : ℕ) (ps : List Trail) → AllByRecursion (IsTrail (meaning t) (t.under n) n) (map (through n) ps) → AllByRecursion (GoesOn t n) ps
through_goes t n [] are = tt
through_goes t n (p ∷ ps) are = (are.0, through_goes t n ps are.1)

inputs_cut : (t : Tree) (trails : ℕ → List Trail) (n : ℕ) (is : List ℕ) → IsTree t → AllByRecursion (IsInput t n) is → AreApart t is → AllByRecursion (CutAt t trails) is
    → IsCut (meaning t) (λ k. list_any (λ o. t.under o k) is) none_free (GoesOn t n) (flat_map t.sources is) (flat_map t.joins is) (flat_map trails is)
inputs_cut t trails n [] good inputs apart known = of_none (meaning t) (λ k. false) (GoesOn t n)
inputs_cut t trails n (i ∷ is) good inputs apart known =
    let m = meaning t in
    let rest = inputs_cut t trails n is good inputs.1 apart.1 known.1 in
    let k = known.0.cut in
    let first : IsCut m (t.under i) none_free (GoesOn t n) (t.sources i) (t.joins i) (trails i) = record {
      sinks = k.sinks;
      passed = k.passed;
      fed = k.fed;
      met = k.met;
      order = k.order;
      each = through_goes t n (trails i) (through_each m (t.under i) (t.under n) i n (trails i) inputs.0.within inputs.0.above inputs.0.above_sink k.each);
      starts = k.starts;
    } in
    two m (t.under i) (λ k. list_any (λ o. t.under o k) is) (λ k. list_any (λ o. t.under o k) (i ∷ is)) none_free (GoesOn t n) (t.sources i) (flat_map t.sources is) (t.joins i) (flat_map t.joins is) (trails i) (flat_map trails is) first rest
    (λ k a b. apart.0 k a b)
    (λ k a. or-first (t.under i k) (list_any (λ o. t.under o k) is) a)
    (λ k b. or-right (t.under i k) (list_any (λ o. t.under o k) is) b)
    (λ j e. absurd (let f : false ≡ true = e in cc))
    (λ j s h side. sides_stay t i j s good inputs.0.under (k.passed j h refl) side)

any_within : (t : Tree) (n k : ℕ) (is : List ℕ) → AllByRecursion (IsInput t n) is → list_any (λ o. t.under o k) is ≡ true → t.under n k ≡ true
any_within t n k [] are h = absurd (let e : false ≡ true = h in cc)
any_within t n k (i ∷ is) are h = by_test (t.under n k ≡ true) (t.under i k) (are.0.within k)
    (λ e. any_within t n k is are.1 (sym (ap (λ b. b || list_any (λ o. t.under o k) is) e) ∙ h))

some_first : (t : Tree) (trails : ℕ → List Trail) (is : List ℕ) → (is ≡ [] → ⊥) → AllByRecursion (CutAt t trails) is → 0 < total opened (flat_map trails is)
some_first t trails [] some known = absurd (some refl)
some_first t trails (i ∷ is) some known = let a = total-append opened (trails i) (flat_map trails is) in let s = known.0.some in omega arith

pub know_all : (t : Tree) (P : ℕ → Type 0) (n : ℕ) (is : List ℕ) → ((i : ℕ) → i < n → t.under t.root i ≡ true → P i) → AllByRecursion (IsInput t n) is → AllByRecursion P is
know_all t P n [] known are = tt
know_all t P n (i ∷ is) known are = (known i are.0.lower are.0.under, know_all t P n is known are.1)

union_cut : (t : Tree) (trails : ℕ → List Trail) (n : ℕ) (is : List ℕ) → IsTree t → t.under t.root n ≡ true → t.kind n ≡ Unites is → AreInputs t n (Unites is) → AllByRecursion (CutAt t trails) is
    → IsCutAt (meaning t) (t.under n) n (flat_map t.sources is) (flat_map t.joins is) (map (through n) (flat_map trails is))
union_cut t trails n is good u e are known =
    let x = inputs_cut t trails n is good are.0 are.1 known in
    let ps = flat_map trails is in
    record {
      cut = of_operator (meaning t) (λ k. list_any (λ o. t.under o k) is) (t.under n) none_free n (flat_map t.sources is) (flat_map t.joins is) ps (λ k h. any_within t n k is are.0 h)
          (λ h. absurd (no_join t n (Unites is) e refl h)) (λ f. good.self n u) (λ s side. absurd (no_side t n s (Unites is) e refl side))
          x.sinks (λ j h. x.passed j h refl) (λ j q h. x.fed j q h refl) (λ j h. (let p = (all_through n j 0 ps).passes_is in let r = x.met j h in omega arith))
          x.order (each_through t n ps x.each) x.starts;
      some = (let o = (all_through n 0 0 ps).opened_is in let s = some_first t trails is are.2 known in omega arith);
    }

-- ---- a sort

sort_cut : (t : Tree) (trails : ℕ → List Trail) (n i : ℕ) → IsTree t → t.under t.root n ≡ true → t.kind n ≡ Sorts i → EndsAt t n i → CutAt t trails i
    → IsCutAt (meaning t) (t.under n) n (n ∷ t.sources i) (t.joins i) (sunk (at.Sort n) n false (trails i))
sort_cut t trails n i good u e ends k =
    let m = meaning t in
    let first = left_first (trails i) k.some in
    let sort : is_sort_at t n ≡ true = and-both (t.under t.root n) (is_sorting (t.kind n)) u (ap is_sorting e) in
    let up = own_within t n i (good.self n u) ends.within in
    record {
      cut = raise m (or_own (t.under i) n) (t.under n) none_free (IsTrail m (or_own (t.under i) n) n) (IsTrail m (t.under n) n) (n ∷ t.sources i) (t.joins i) (sunk (at.Sort n) n false (trails i)) up
          (λ p is. raise_trail m (or_own (t.under i) n) (t.under n) n p up is)
          (of_sink m (t.under i) i (at.Sort n) n false (t.sources i) (n ∷ t.sources i) (t.joins i) (trails i)
          (record {
            up = λ j h. low_input t n i j good ends.lower ends.under h;
            sides = λ j s h side. sides_down t n i j s good ends.within h (λ is same. absurd (let f : Sorts i ≡ Joins is.built is.probed = sym e ∙ ap t.kind same ∙ is.kind in cc)) side;
            at = (refl, sort);
            within_own = or-right (t.under i n) (n == n) (eq-true n n refl);
            within_below = λ j h. or-first (t.under i j) (n == j) h;
            above = ends.above;
            above_sink = ends.above_sink;
          })
          (λ h. sort) (λ j s h side. sides_stay t i j s good ends.under h side)
          (λ h. (let one_is = ap (λ q. repeated q (h n)) first in omega arith)) k.cut);
      some = (let o = (all_sink m (t.under i) i (at.Sort n) n false (λ v. 0) 0 (trails i) k.cut.each).opened_is in omega arith);
    }

-- ---- a join

built_cut : (t : Tree) (trails : ℕ → List Trail) (n b p : ℕ) → IsTree t → t.under t.root n ≡ true → t.kind n ≡ Joins b p → EndsAt t n b → CutAt t trails b
    → IsCut (meaning t) (or_own (t.under b) n) none_free (IsTrail (meaning t) (t.under n) n) (t.sources b) (t.joins b) (sunk (at.Build n) n true (trails b))
built_cut t trails n b p good u e ends k =
    let m = meaning t in
    let up = own_within t n b (good.self n u) ends.within in
    raise m (or_own (t.under b) n) (or_own (t.under b) n) none_free (IsTrail m (or_own (t.under b) n) n) (IsTrail m (t.under n) n) (t.sources b) (t.joins b) (sunk (at.Build n) n true (trails b)) (λ j h. h)
    (λ q is. raise_trail m (or_own (t.under b) n) (t.under n) n q up is)
    (of_sink m (t.under b) b (at.Build n) n true (t.sources b) (t.sources b) (t.joins b) (trails b)
    (record {
      up = λ j h. low_input t n b j good ends.lower ends.under h;
      sides = λ j s h side. sides_down t n b j s good ends.within h (λ is same. (let f : Joins b p ≡ Joins is.built is.probed = sym e ∙ ap t.kind same ∙ is.kind in let g : b ≡ is.built = cc in ap (λ x. t.under x s) (sym g) ∙ h)) side;
      at = (refl, is_join_there t n b p u e);
      within_own = or-right (t.under b n) (n == n) (eq-true n n refl);
      within_below = λ j h. or-first (t.under b j) (n == j) h;
      above = ends.above;
      above_sink = ends.above_sink;
    })
    (λ h. absurd (let f : true ≡ false = h in cc)) (λ j s h side. sides_stay t b j s good ends.under h side)
    (λ h. (let z = ap (λ q. repeated q (h n)) (left_passed (trails b)) in omega arith)) k.cut)

probed_cut : (t : Tree) (trails : ℕ → List Trail) (n b p : ℕ) → IsTree t → t.under t.root n ≡ true → t.kind n ≡ Joins b p → AreInputs t n (Joins b p) → CutAt t trails p
    → IsCut (meaning t) (t.under p) (is_free n) (IsTrail (meaning t) (t.under n) n) (t.sources p) (n ∷ t.joins p) (map (through n) (trails p))
probed_cut t trails n b p good u e are k =
    let m = meaning t in
    let input = are.1 in
    let not_probed : t.under p n ≡ true → ⊥ = λ h. (let l = low_input t n p n good input.lower input.under h in absurd (omega arith)) in
    let own_test = eq-true n n refl in
    raise m (t.under p) (t.under p) (is_free n) (IsTrail m (t.under p) n) (IsTrail m (t.under n) n) (t.sources p) (n ∷ t.joins p) (map (through n) (trails p)) (λ j h. h)
    (λ q is. raise_trail m (t.under p) (t.under n) n q input.within is)
    (of_operator m (t.under p) (t.under p) (is_free n) n (t.sources p) (n ∷ t.joins p) (trails p) (λ j h. h)
    (λ h. own_test) (λ f. absurd (not-both (n == n) own_test f))
    (λ s side. elim (some-left (total (trail_to s) (trails p))) [
      | inl z ↦ z
      | inr lt ↦ absurd (
          let w = k.cut.sinks s lt in
          let q = side_cases t n s side in
          elim q.1 [
            | inl same ↦ not_probed (ap (t.under p) (sym same) ∙ w)
            | inr v ↦ (let f : Joins b p ≡ Joins q.0.built q.0.probed = sym e ∙ q.0.kind in let g : b ≡ q.0.built = cc in are.2 s (ap (λ y. t.under y s) g ∙ v) w)
          ])
    ])
    k.cut.sinks (λ j h. k.cut.passed j h refl) (λ j is h. k.cut.fed j is h refl)
    (λ j h. (let q = (all_through n j 0 (trails p)).passes_is in let s = k.some in
    by_test (0 < total (trail_through j) (map (through n) (trails p))) (n == j)
    (λ g. (let c = ap (λ y. cond y (total opened (trails p)) 0) g in omega arith))
    (λ g. (let c = ap one g in let r = k.cut.met j (omega arith) in omega arith))))
    k.cut.order (through_each m (t.under p) (t.under p) p n (trails p) (λ j h. h) input.above input.above_sink k.cut.each) k.cut.starts)

join_cut : (t : Tree) (trails : ℕ → List Trail) (n b p : ℕ) → IsTree t → t.under t.root n ≡ true → t.kind n ≡ Joins b p → AreInputs t n (Joins b p) → CutAt t trails b → CutAt t trails p
    → IsCutAt (meaning t) (t.under n) n (t.sources b ++ t.sources p) (t.joins b ++ n ∷ t.joins p) (map (closed_by (at.Build n) n) (trails b) ++ map (through n) (trails p))
join_cut t trails n b p good u e are kb kp =
    let m = meaning t in
    let a = built_cut t trails n b p good u e are.0 kb in
    let c = probed_cut t trails n b p good u e are kp in
    let not_probed : t.under p n ≡ true → ⊥ = λ h. (let l = low_input t n p n good are.1.lower are.1.under h in absurd (omega arith)) in
    let ended = closed_sunk (at.Build n) n (trails b) in
    let zero_h : ℕ → ℕ = λ v. 0 in
    let R : List Trail → Type 0 = λ ps. IsCut m (t.under n) none_free (IsTrail m (t.under n) n) (t.sources b ++ t.sources p) (t.joins b ++ n ∷ t.joins p) (ps ++ map (through n) (trails p)) in
    record {
      cut = subst R (sym ended) (two m (or_own (t.under b) n) (t.under p) (t.under n) (is_free n) (IsTrail m (t.under n) n) (t.sources b) (t.sources p) (t.joins b) (n ∷ t.joins p) (sunk (at.Build n) n true (trails b)) (map (through n) (trails p)) a c
          (λ k h w. by_test ⊥ (t.under b k) (λ q. are.2 k q w) (λ q. (let f : (n == k) ≡ true = sym (ap (λ x. x || (n == k)) q) ∙ h in not_probed (ap (t.under p) (eq-is n k f) ∙ w))))
          (own_within t n b (good.self n u) are.0.within) are.1.within
          (λ j h. (let same = eq-is n j h in
          let o = (all_sink m (t.under b) b (at.Build n) n true zero_h j (trails b) kb.cut.each).to_is in
          let q = ap (λ x. cond x (total opened (trails b)) 0) h in let s = kb.some in
          (omega arith, ap (t.under n) (sym same) ∙ good.self n u)))
          (λ j s h side. (
          let o = (all_sink m (t.under b) b (at.Build n) n true zero_h j (trails b) kb.cut.each).passes_is in
          let w = kb.cut.passed j (omega arith) refl in
          or-first (t.under b s) (n == s) (sides_stay t b j s good are.0.under w side))));
      some = (let x = total-append opened (map (closed_by (at.Build n) n) (trails b)) (map (through n) (trails p)) in let y = (all_through n 0 0 (trails p)).opened_is in let s = kp.some in omega arith);
    }

-- ---- each node under the root

at_node : (t : Tree) (trails : ℕ → List Trail) (n : ℕ) (x : Kind) → IsTree t → t.under t.root n ≡ true → t.kind n ≡ x → AreInputs t n x → ((i : ℕ) → i < n → t.under t.root i ≡ true → CutAt t trails i)
    → IsCutAt (meaning t) (t.under n) n (sources_by t.sources n x) (joins_by t.joins n x) (trails_by trails n x)
at_node t trails n Begins good u e are known = record { cut = of_source (meaning t) (t.under n) n (good.self n u); some = omega arith }
at_node t trails n (Each i) good u e are known = one_input t trails n i good u e are (known i are.lower are.under)
at_node t trails n (Unites is) good u e are known = union_cut t trails n is good u e are (know_all t (CutAt t trails) n is known are.0)
at_node t trails n (Joins b p) good u e are known = join_cut t trails n b p good u e are (known b are.0.lower are.0.under) (known p are.1.lower are.1.under)
at_node t trails n (Sorts i) good u e are known = sort_cut t trails n i good u e are (known i are.lower are.under)

pub cuts : (t : Tree) (trails : ℕ → List Trail) (bound n : ℕ) → IsTree t → AreTrails t trails → n < bound → t.under t.root n ≡ true → CutAt t trails n
cuts t trails zero n good are lt u = absurd (omega arith)
cuts t trails (suc bound) n good are lt u =
    let m = meaning t in
    let is = at_node t trails n (t.kind n) good u refl (good.inputs n u) (λ i less under. cuts t trails bound i good are (omega arith) under) in
    let P : List ℕ → Type 0 = λ sources. IsCutAt m (t.under n) n sources (t.joins n) (trails n) in
    let Q : List ℕ → Type 0 = λ joins. IsCutAt m (t.under n) n (sources_by t.sources n (t.kind n)) joins (trails n) in
    let S : List Trail → Type 0 = λ ps. IsCutAt m (t.under n) n (sources_by t.sources n (t.kind n)) (joins_by t.joins n (t.kind n)) ps in
    subst P (sym (good.sources n u)) (subst Q (sym (good.joins n u)) (subst S (sym (are n u)) is))
