-- The trails of a node from those of its inputs.
use Rattle.std.proofs.Common.{◌≡◌, ℕ, ◌+◌, ◌<◌, Bool, true, false, cond, ◌==◌, inl, inr, List, [], ◌∷◌, ◌++◌, map, refl, sym, ap, ◌∙◌, arith}
use Rattle.std.specs.List.{flat_map, AllByRecursion}
use Rattle.pipe_schema.specs.Weights.{total}
use Rattle.pipe_schema.proofs.Weights.{total-append}
use Rattle.pipe_driver.specs.declared.branch.SinkAt.{SinkAt}
use Rattle.pipe_driver.specs.Meaning.{Meaning}
use Rattle.pipe_driver.specs.Ways.{occurs}
use Rattle.pipe_driver.proofs.Tests.{by_test, eq-is, not-both, or-first, or-right, some-left, all-append, all-map, flat-total, occurs-append}
use Rattle.pipe_driver.proofs.Trails.{Trail, trail_from, through, sunk, trail_to, trail_through, trail_starts, opened, AreOrdered, IsTrail, IsCut, none_free, or_own}
use Rattle.pipe_driver.proofs.Steps.{all_through, through_starts, through_order, left, repeated, all_sink, sunk_order, sunk_each, TakesAll}

-- ---- lists of trails

order_append : (m : Meaning) (a b : List Trail) → AreOrdered m a → AreOrdered m b → ((j s : ℕ) → 0 < total (trail_through j) a → m.side j s ≡ true → total (trail_to s) b ≡ 0) → AreOrdered m (a ++ b)
order_append m [] b x y cross = y
order_append m (p ∷ a) b x y cross = (
  λ j s passed side. (
      let e = total-append (trail_to s) a b in
      let k = x.0 j s passed side in
      let z = cross j s (omega arith) side in omega arith),
  order_append m a b x.1 y (λ j s h side. cross j s (omega arith) side),
)

pub raise_trail : (m : Meaning) (below within : ℕ → Bool) (n : ℕ) (p : Trail) → ((k : ℕ) → below k ≡ true → within k ≡ true) → IsTrail m below n p → IsTrail m within n p
raise_trail m below within n p up is = record { legs = is.legs; from = is.from; within_from = λ t. up p.from (is.within_from t); above = is.above; above_sink = is.above_sink; ended = is.ended }

-- the same of more nodes, and of each trail something that follows
pub raise : (m : Meaning) (below within free : ℕ → Bool) (P Q : Trail → Type 0) (sources joins : List ℕ) (ps : List Trail) → ((k : ℕ) → below k ≡ true → within k ≡ true) → ((p : Trail) → P p → Q p)
    → IsCut m below free P sources joins ps → IsCut m within free Q sources joins ps
raise m below within free P Q sources joins ps up follows x = record {
  sinks = λ s lt. up s (x.sinks s lt);
  passed = λ j h f. up j (x.passed j h f);
  fed = x.fed;
  met = x.met;
  order = x.order;
  each = all-map P Q ps follows x.each;
  starts = x.starts;
}

-- two lists of trails, one behind the other
pub two : (m : Meaning) (wa wb within free : ℕ → Bool) (P : Trail → Type 0) (sa sb ja jb : List ℕ) (a b : List Trail) → IsCut m wa none_free P sa ja a → IsCut m wb free P sb jb b
    → ((k : ℕ) → wa k ≡ true → wb k ≡ true → ⊥) → ((k : ℕ) → wa k ≡ true → within k ≡ true) → ((k : ℕ) → wb k ≡ true → within k ≡ true)
    → ((j : ℕ) → free j ≡ true → (0 < total (trail_to j) a) × (within j ≡ true))
    → ((j s : ℕ) → 0 < total (trail_through j) a → m.side j s ≡ true → wa s ≡ true) → IsCut m within none_free P (sa ++ sb) (ja ++ jb) (a ++ b)
two m wa wb within free P sa sb ja jb a b x y apart ua ub fed_by_a sides =
    let none_b : (s : ℕ) → wa s ≡ true → total (trail_to s) b ≡ 0 = λ s w. elim (some-left (total (trail_to s) b)) [ inl e ↦ e | inr lt ↦ absurd (apart s w (y.sinks s lt)) ] in
    record {
      sinks = λ s lt. (let e = total-append (trail_to s) a b in elim (some-left (total (trail_to s) a)) [ inl z ↦ ub s (y.sinks s (omega arith)) | inr l ↦ ua s (x.sinks s l) ]);
      passed = λ j h not_free. (let e = total-append (trail_through j) a b in elim (some-left (total (trail_through j) a)) [
        | inr l ↦ ua j (x.passed j l refl)
        | inl z ↦ by_test (within j ≡ true) (free j) (λ e. (fed_by_a j e).1) (λ g. ub j (y.passed j (omega arith) g))
      ]);
      fed = λ j is h not_free. (let e = total-append (trail_to j) a b in let g = total-append (trail_through j) a b in
          elim (some-left (total (trail_through j) a)) [
            | inr l ↦ (let r = x.fed j is l refl in omega arith)
            | inl z ↦ by_test (0 < total (trail_to j) (a ++ b)) (free j) (λ q. (let r = (fed_by_a j q).0 in omega arith)) (λ q. (let r = y.fed j is (omega arith) q in omega arith))
          ]);
      met = λ j h. (let e = occurs-append j ja jb in let g = total-append (trail_through j) a b in
          elim (some-left (occurs j ja)) [ inr l ↦ (let r = x.met j l in omega arith) | inl z ↦ (let r = y.met j (omega arith) in omega arith) ]);
      order = order_append m a b x.order y.order (λ j s h side. none_b s (sides j s h side));
      each = all-append P a b x.each y.each;
      starts = λ h. (let e = flat-total h trail_starts a b in let g = total-append h sa sb in let l = x.starts h in let r = y.starts h in omega arith);
    }

-- ---- the kinds of nodes

pub of_source : (m : Meaning) (within : ℕ → Bool) (n : ℕ) → within n ≡ true → IsCut m within none_free (IsTrail m within n) (n ∷ []) [] (trail_from n ∷ [])
of_source m within n own = record {
  sinks = λ s lt. absurd (omega arith);
  passed = λ j h f. absurd (omega arith);
  fed = λ j is h f. absurd (omega arith);
  met = λ j h. absurd (omega arith);
  order = (λ j s h side. absurd (omega arith), tt);
  each = (record { legs = tt; from = λ t. refl; within_from = λ t. own; above = λ t. refl; above_sink = λ t. refl; ended = λ h. absurd (let e : true ≡ false = h in cc) }, tt);
  starts = λ h. omega arith;
}

-- nothing yet
pub of_none : (m : Meaning) (within : ℕ → Bool) (P : Trail → Type 0) → IsCut m within none_free P [] [] []
of_none m within P = record {
  sinks = λ s lt. absurd (omega arith);
  passed = λ j h f. absurd (omega arith);
  fed = λ j is h f. absurd (omega arith);
  met = λ j h. absurd (omega arith);
  order = tt;
  each = tt;
  starts = λ h. refl;
}

-- trails whose order and legs are known, through an operator
pub of_operator : (m : Meaning) (below within free : ℕ → Bool) (n : ℕ) (sources joins : List ℕ) (ps : List Trail) → ((k : ℕ) → below k ≡ true → within k ≡ true)
    → (m.is_join n ≡ true → free n ≡ true) → (free n ≡ false → within n ≡ true) → ((s : ℕ) → m.side n s ≡ true → total (trail_to s) ps ≡ 0)
    → ((s : ℕ) → 0 < total (trail_to s) ps → below s ≡ true) → ((j : ℕ) → 0 < total (trail_through j) ps → below j ≡ true)
    → ((j : ℕ) → m.is_join j ≡ true → 0 < total (trail_through j) ps → 0 < total (trail_to j) ps) → ((j : ℕ) → 0 < occurs j joins → 0 < total (trail_through j) (map (through n) ps))
    → AreOrdered m ps → AllByRecursion (IsTrail m within n) (map (through n) ps) → ((h : ℕ → ℕ) → total h (flat_map trail_starts ps) ≡ total h sources)
    → IsCut m within free (IsTrail m within n) sources joins (map (through n) ps)
of_operator m below within free n sources joins ps up kind own apart sinks passed fed met order each starts =
    let other : (j : ℕ) → (n == j) ≡ false → total (trail_through j) (map (through n) ps) ≡ total (trail_through j) ps = λ j e. (let p = (all_through n j 0 ps).passes_is in let c = ap (λ t. cond t (total opened ps) 0) e in omega arith) in
    record {
      sinks = λ s lt. up s (sinks s (let e = (all_through n 0 s ps).to_is in omega arith));
      passed = λ j h not_free. by_test (within j ≡ true) (n == j)
          (λ e. (let same = eq-is n j e in ap within (sym same) ∙ own (ap free same ∙ not_free)))
          (λ e. up j (passed j (let o = other j e in omega arith)));
      fed = λ j is h not_free. (let t = (all_through n 0 j ps).to_is in
          by_test (0 < total (trail_to j) (map (through n) ps)) (n == j)
          (λ e. absurd (let same = eq-is n j e in not-both (free n) (kind (ap m.is_join same ∙ is)) (ap free same ∙ not_free)))
          (λ e. (let o = other j e in let r = fed j is (omega arith) in omega arith)));
      met = met;
      order = through_order m n ps apart order;
      each = each;
      starts = λ h. through_starts h n ps ∙ starts h;
    }

-- into a sink, where all trails end or the first goes on
pub of_sink : (m : Meaning) (below : ℕ → Bool) (i : ℕ) (a : SinkAt) (n : ℕ) (is_passed : Bool) (sources sources' joins : List ℕ) (ps : List Trail) → TakesAll m below (or_own below n) i a n
    → (is_passed ≡ false → m.is_sort n ≡ true) → ((j s : ℕ) → below j ≡ true → m.side j s ≡ true → below s ≡ true)
    → ((h : ℕ → ℕ) → total h sources' ≡ total h sources + repeated (left is_passed ps) (h n))
    → IsCut m below none_free (IsTrail m below i) sources joins ps → IsCut m (or_own below n) none_free (IsTrail m (or_own below n) n) sources' joins (sunk a n is_passed ps)
of_sink m below i a n is_passed sources sources' joins ps takes sort inside is_starts x =
    let zero_h : ℕ → ℕ = λ v. 0 in
    let up : (k : ℕ) → below k ≡ true → or_own below n k ≡ true = λ k h. or-first (below k) (n == k) h in
    let not_own : below n ≡ true → ⊥ = λ h. (let l = takes.up n h in absurd (omega arith)) in
    record {
      sinks = λ s lt. by_test (or_own below n s ≡ true) (n == s) (λ e. or-right (below s) (n == s) e)
          (λ e. up s (x.sinks s (let t = (all_sink m below i a n is_passed zero_h s ps x.each).to_is in let c = ap (λ b. cond b (total opened ps) 0) e in omega arith)));
      passed = λ j h f. up j (x.passed j (let e = (all_sink m below i a n is_passed zero_h j ps x.each).passes_is in omega arith) refl);
      fed = λ j is h f. (let t = all_sink m below i a n is_passed zero_h j ps x.each in let p = t.passes_is in let o = t.to_is in let l = x.fed j is (omega arith) refl in omega arith);
      met = λ j h. (let p = (all_sink m below i a n is_passed zero_h j ps x.each).passes_is in let r = x.met j h in omega arith);
      order = sunk_order m below i a n is_passed ps x.each (λ j h side. not_own (inside j n (x.passed j h refl) side)) x.order;
      each = sunk_each m below (or_own below n) i a n is_passed ps takes sort x.each;
      starts = λ h. (let t = (all_sink m below i a n is_passed h 0 ps x.each).starts_is in let s = x.starts h in let q = is_starts h in omega arith);
    }
