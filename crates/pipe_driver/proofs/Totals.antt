-- What comes to a place, by induction over nodes.
use Rattle.std.proofs.Common.{◌≡◌, ◌≢◌, ℕ, zero, suc, ◌+◌, ◌<◌, ◌≤◌, Bool, true, false, cond, ◌||◌, ◌==◌, inl, inr, List, [], ◌∷◌, ◌++◌, refl, sym, ap, subst, ◌∙◌, arith}
use Rattle.std.specs.List.{flat_map, list_any, AllByRecursion}
use Rattle.pipe_schema.specs.Rows.{Row}
use Rattle.pipe_schema.specs.Weights.{total}
use Rattle.pipe_schema.proofs.Weights.{SameBag, total-append, total-flat_map}
use Rattle.pipe_driver.specs.Shape.{Kind, Begins, Each, Unites, Joins, Sorts, is_joining, is_sorting, below_sink, sources_by, joins_by}
use Rattle.pipe_driver.specs.Meaning.{Meaning, Place, OutOf, Into, is_out, is_into, rows_where, comes, from, is_place, due, Tree, is_join_at, is_sort_at, below_at, meaning}
use Rattle.pipe_driver.specs.Ways.{one, occurs, own_brings}
use Rattle.pipe_driver.proofs.Tests.{by_test, eq-is, eq-true, eq-false, eq-not, not-both, or-case, or-none, and-cases, flat-append, flat-total}
use Rattle.pipe_driver.proofs.Trees.{IsInput, EndsAt, AreApart, AreInputs, HasRows, under_inputs, IsTree}
use Rattle.pipe_driver.proofs.Nodes.{know_all}

abbrev pub number_of : Place → ℕ
number_of (OutOf t) = t
number_of (Into s) = s

-- ---- arrivals

where_add : (f : Row → ℕ) (t : Bool) (a b : List Row) → total f (rows_where t (a ++ b)) ≡ total f (rows_where t a) + total f (rows_where t b)
where_add f true a b = total-append f a b
where_add f false a b = refl

-- they add up
pub comes_add : (f : Row → ℕ) (each : ℕ → Row → List Row) (x : Place) (n : ℕ) (ops : List ℕ) (sink : ℕ) (a b : List Row) → total f (comes each x n ops sink (a ++ b)) ≡ total f (comes each x n ops sink a) + total f (comes each x n ops sink b)
comes_add f each x n [] sink a b =
    let p = where_add f (is_out x n) a b in
    let q = where_add f (is_into x sink) a b in
    let e0 = total-append f (rows_where (is_out x n) (a ++ b)) (rows_where (is_into x sink) (a ++ b)) in
    let e1 = total-append f (rows_where (is_out x n) a) (rows_where (is_into x sink) a) in
    let e2 = total-append f (rows_where (is_out x n) b) (rows_where (is_into x sink) b) in omega arith
comes_add f each x n (op ∷ ops) sink a b =
    let g = each op in
    let p = where_add f (is_out x n) a b in
    let e0 = total-append f (rows_where (is_out x n) (a ++ b)) (comes each x op ops sink (flat_map g (a ++ b))) in
    let e1 = total-append f (rows_where (is_out x n) a) (comes each x op ops sink (flat_map g a)) in
    let e2 = total-append f (rows_where (is_out x n) b) (comes each x op ops sink (flat_map g b)) in
    let r = comes_add f each x op ops sink (flat_map g a) (flat_map g b) in
    let q = ap (λ xs. total f (comes each x op ops sink xs)) (flat-append g a b) in omega arith

-- none come of none
pub comes_none : (f : Row → ℕ) (each : ℕ → Row → List Row) (x : Place) (n : ℕ) (ops : List ℕ) (sink : ℕ) → total f (comes each x n ops sink []) ≡ 0
comes_none f each x n ops sink = let e = comes_add f each x n ops sink [] [] in omega arith

-- the same rows bring the same
pub comes_same : (f : Row → ℕ) (each : ℕ → Row → List Row) (x : Place) (n : ℕ) (ops : List ℕ) (sink : ℕ) (a b : List Row) → SameBag a b → total f (comes each x n ops sink a) ≡ total f (comes each x n ops sink b)
comes_same f each x n [] sink a b same =
    let s = same.sums f in
    let p : (t : Bool) → total f (rows_where t a) ≡ total f (rows_where t b) = elim [ true ↦ s | false ↦ refl ] in
    let q = p (is_out x n) in let r = p (is_into x sink) in
    let e1 = total-append f (rows_where (is_out x n) a) (rows_where (is_into x sink) a) in
    let e2 = total-append f (rows_where (is_out x n) b) (rows_where (is_into x sink) b) in omega arith
comes_same f each x n (op ∷ ops) sink a b same =
    let s = same.sums f in
    let p : (t : Bool) → total f (rows_where t a) ≡ total f (rows_where t b) = elim [ true ↦ s | false ↦ refl ] in
    let q = p (is_out x n) in
    let g = each op in
    let e1 = total-append f (rows_where (is_out x n) a) (comes each x op ops sink (flat_map g a)) in
    let e2 = total-append f (rows_where (is_out x n) b) (comes each x op ops sink (flat_map g b)) in
    let made : SameBag (flat_map g a) (flat_map g b) = record { sums = λ w. total-flat_map g w a ∙ same.sums (λ v. total w (g v)) ∙ sym (total-flat_map g w b) } in
    let r = comes_same f each x op ops sink (flat_map g a) (flat_map g b) made in omega arith

-- none come along a chain that doesn't come there
comes_not : (f : Row → ℕ) (each : ℕ → Row → List Row) (x : Place) (n : ℕ) (ops : List ℕ) (sink : ℕ) (rows : List Row) → is_out x n ≡ false → number_of x < sink → occurs (number_of x) ops ≡ 0 → total f (comes each x n ops sink rows) ≡ 0
comes_not f each (OutOf t) n [] sink rows out lt none = ap (λ b. total f (rows_where b rows ++ [])) out
comes_not f each (OutOf t) n (op ∷ ops) sink rows out lt none =
    let here : (op == t) ≡ false = by_test ((op == t) ≡ false) (op == t) (λ e. (let z = ap one e in absurd (omega arith))) (λ e. e) in
    let z = ap one here in
    ap (λ b. total f (rows_where b rows ++ comes each (OutOf t) op ops sink (flat_map (each op) rows))) out ∙ comes_not f each (OutOf t) op ops sink (flat_map (each op) rows) here lt (omega arith)
comes_not f each (Into s) n [] sink rows out lt none = ap (λ b. total f (rows_where b rows)) (eq-false sink s (λ e. absurd (omega arith)))
comes_not f each (Into s) n (op ∷ ops) sink rows out lt none = comes_not f each (Into s) op ops sink (flat_map (each op) rows) refl lt (omega arith)

-- ---- sums

abbrev source_brings : Meaning → Place → ℕ → List Row
source_brings m x n = from m x n (m.rows n)

abbrev brings : (Row → ℕ) → Meaning → Place → List ℕ → List ℕ → ℕ
brings f m x sources joins = total f (flat_map (source_brings m x) sources) + total f (flat_map (own_brings m x) joins)

brings_append : (f : Row → ℕ) (m : Meaning) (x : Place) (a b c d : List ℕ) → brings f m x (a ++ b) (c ++ d) ≡ brings f m x a c + brings f m x b d
brings_append f m x a b c d = let e = flat-total f (source_brings m x) a b in let g = flat-total f (own_brings m x) c d in omega arith

-- All sources and joins under a node bring outside of it what the node's rows bring there along its chain, and inside
-- what is due there
record Known (t : Tree) (n : ℕ) (sources joins : List ℕ) : Type 0 where
  outside : (f : Row → ℕ) (x : Place) → t.under n (number_of x) ≡ false → brings f (meaning t) x sources joins ≡ total f (from (meaning t) x n (t.rows n))
  inside : (f : Row → ℕ) (x : Place) → t.under n (number_of x) ≡ true → is_place (meaning t) x ≡ true → brings f (meaning t) x sources joins ≡ total f (due (meaning t) x)

-- ---- along a chain

out_at : (x : Place) (n : ℕ) → number_of x ≢ n → is_out x n ≡ false
out_at (OutOf t) n ne = eq-false n t (λ e. ne (sym e))
out_at (Into s) n ne = refl

-- what is below a node doesn't come along the node's chain
none_from : (f : Row → ℕ) (t : Tree) (x : Place) (n : ℕ) (rows : List Row) → IsTree t → t.under t.root n ≡ true → is_out x n ≡ false → number_of x ≤ n → total f (from (meaning t) x n rows) ≡ 0
none_from f t x n rows good u out le = comes_not f t.each x n (t.above n) (t.above_sink n) rows out (let l = good.up n u in omega arith) (good.above n (number_of x) u le)

-- of its rows the node itself sees them all, and its sink none
own_from : (f : Row → ℕ) (t : Tree) (n : ℕ) (rows : List Row) → IsTree t → t.under t.root n ≡ true → total f (from (meaning t) (OutOf n) n rows) ≡ total f rows
own_from f t n rows good u =
    let above : (ops : List ℕ) → occurs n ops ≡ 0 → total f (comes t.each (OutOf n) n ops (t.above_sink n) rows) ≡ total f rows = elim [
      | [] ↦ λ none. ap (λ b. total f (rows_where b rows ++ [])) (eq-true n n refl) ∙ total-append f rows [] ∙ omega arith
      | ◌∷◌ op ops ↦ λ none. (
          let here : (op == n) ≡ false = by_test ((op == n) ≡ false) (op == n) (λ e. (let z = ap one e in absurd (omega arith))) (λ e. e) in
          let z = ap one here in
          let rest = comes_not f t.each (OutOf n) op ops (t.above_sink n) (flat_map (t.each op) rows) here (good.up n u) (omega arith) in
          ap (λ b. total f (rows_where b rows ++ comes t.each (OutOf n) op ops (t.above_sink n) (flat_map (t.each op) rows))) (eq-true n n refl)
          ∙ total-append f rows (comes t.each (OutOf n) op ops (t.above_sink n) (flat_map (t.each op) rows)) ∙ omega arith)
    ] in above (t.above n) (good.above n n u (omega arith))

-- from an input through a node
goes : (f : Row → ℕ) (t : Tree) (x : Place) (n i : ℕ) (rows : List Row) → IsInput t n i → is_out x i ≡ false → total f (from (meaning t) x i rows) ≡ total f (from (meaning t) x n (flat_map (t.each n) rows))
goes f t x n i rows input not =
    ap (λ ops. total f (comes t.each x i ops (t.above_sink i) rows)) input.above
    ∙ ap (λ s. total f (comes t.each x i (n ∷ t.above n) s rows)) input.above_sink
    ∙ ap (λ b. total f (rows_where b rows ++ from (meaning t) x n (flat_map (t.each n) rows))) not

-- into a sink
ends : (f : Row → ℕ) (t : Tree) (x : Place) (n i : ℕ) (rows : List Row) → EndsAt t n i → is_out x i ≡ false → total f (from (meaning t) x i rows) ≡ total f (rows_where (is_into x n) rows)
ends f t x n i rows input not =
    ap (λ ops. total f (comes t.each x i ops (t.above_sink i) rows)) input.above
    ∙ ap (λ s. total f (comes t.each x i [] s rows)) input.above_sink
    ∙ ap (λ b. total f (rows_where b rows ++ rows_where (is_into x n) rows)) not

into_at : (x : Place) (n : ℕ) → number_of x ≢ n → is_into x n ≡ false
into_at (OutOf t) n ne = refl
into_at (Into s) n ne = eq-false n s (λ e. ne (sym e))

ends_not : (f : Row → ℕ) (t : Tree) (x : Place) (n i : ℕ) (rows : List Row) → EndsAt t n i → is_out x i ≡ false → number_of x ≢ n → total f (from (meaning t) x i rows) ≡ 0
ends_not f t x n i rows input not ne = ends f t x n i rows input not ∙ ap (λ b. total f (rows_where b rows)) (into_at x n ne)

-- ---- tests of what is under what

not_within : (t : Tree) (n i k : ℕ) → ((k : ℕ) → t.under i k ≡ true → t.under n k ≡ true) → t.under n k ≡ false → t.under i k ≡ false
not_within t n i k within h = by_test (t.under i k ≡ false) (t.under i k) (λ e. absurd (not-both (t.under n k) (within k e) h)) (λ e. e)

not_own : (t : Tree) (n k : ℕ) → IsTree t → t.under t.root n ≡ true → t.under n k ≡ false → k ≢ n
not_own t n k good u h e = not-both (t.under n k) (ap (t.under n) e ∙ good.self n u) h

not_other : (t : Tree) (a b k : ℕ) → ((k : ℕ) → t.under a k ≡ true → t.under b k ≡ true → ⊥) → t.under a k ≡ true → t.under b k ≡ false
not_other t a b k apart h = by_test (t.under b k ≡ false) (t.under b k) (λ e. absurd (apart k h e)) (λ e. e)

lower_than : (t : Tree) (n i k : ℕ) → IsTree t → i < n → t.under t.root i ≡ true → t.under i k ≡ true → k < n
lower_than t n i k good lt u h = let l = good.lower i k u h in omega arith

above_not : (t : Tree) (n i : ℕ) → IsTree t → i < n → t.under t.root i ≡ true → t.under i n ≡ false
above_not t n i good lt u = by_test (t.under i n ≡ false) (t.under i n) (λ e. (let l = good.lower i n u e in absurd (omega arith))) (λ e. e)

out_outside : (t : Tree) (x : Place) (i : ℕ) → IsTree t → t.under t.root i ≡ true → t.under i (number_of x) ≡ false → is_out x i ≡ false
out_outside t x i good u h = out_at x i (not_own t i (number_of x) good u h)

-- a place other than a node, under it, is under an input
part_of : (t : Tree) (x : Place) (n : ℕ) → IsTree t → t.under t.root n ≡ true → t.under n (number_of x) ≡ true → number_of x ≢ n → is_place (meaning t) x ≡ true → under_inputs t.under (t.kind n) (number_of x) ≡ true
part_of t (OutOf k) n good u h ne place = good.parts n k u h ne place
part_of t (Into s) n good u h ne place =
    let v = good.trans t.root n s good.root_under u h in
    let run : t.is_run s ≡ true = elim (or-case (is_sort_at t s || is_join_at t s) (s == t.ordered) place) [
      | inl e ↦ elim (or-case (is_sort_at t s) (is_join_at t s) e) [
        | inl g ↦ good.sorts_run s v (and-cases (t.under t.root s) (is_sorting (t.kind s)) g).1
        | inr g ↦ good.joins_run s v (and-cases (t.under t.root s) (is_joining (t.kind s)) g).1
      ]
      | inr e ↦ (let same = eq-is s t.ordered e in let l = good.lower t.root s good.root_under v in let o = good.ordered in absurd (omega arith))
    ] in good.parts n s u h ne run

-- a node that is neither a sort nor a join has no sink
no_sink : (t : Tree) (s n : ℕ) (k : Kind) → IsTree t → t.under t.root n ≡ true → t.kind n ≡ k → is_joining k ≡ false → is_sorting k ≡ false → s ≡ n → is_place (meaning t) (Into s) ≡ true → ⊥
no_sink t s n k good u e a b same place =
    elim (or-case (is_sort_at t s || is_join_at t s) (s == t.ordered) place) [
      | inl q ↦ elim (or-case (is_sort_at t s) (is_join_at t s) q) [
        | inl g ↦ not-both (is_sorting (t.kind s)) (and-cases (t.under t.root s) (is_sorting (t.kind s)) g).1 (ap (λ i. is_sorting (t.kind i)) same ∙ ap is_sorting e ∙ b)
        | inr g ↦ not-both (is_joining (t.kind s)) (and-cases (t.under t.root s) (is_joining (t.kind s)) g).1 (ap (λ i. is_joining (t.kind i)) same ∙ ap is_joining e ∙ a)
      ]
      | inr q ↦ (let is = eq-is s t.ordered q in let l = good.lower t.root n good.root_under u in let o = good.ordered in absurd (omega arith))
    ]

-- what is due in the sink of a node
sink_due : (t : Tree) (n : ℕ) → IsTree t → t.under t.root n ≡ true → below_at t n ≡ t.rows (below_sink (t.kind n))
sink_due t n good u = ap (λ b. cond b (t.rows t.root) (t.rows (below_sink (t.kind n)))) (eq-false n t.ordered (λ e. (let l = good.lower t.root n good.root_under u in let o = good.ordered in absurd (omega arith))))

-- ---- unions

-- inputs that hand their rows on to a node
record Listed (t : Tree) (n : ℕ) (is : List ℕ) : Type 0 where
  outside : (f : Row → ℕ) (x : Place) → list_any (λ o. t.under o (number_of x)) is ≡ false → brings f (meaning t) x (flat_map t.sources is) (flat_map t.joins is) ≡ total f (from (meaning t) x n (flat_map (t.each n) (flat_map t.rows is)))
  inside : (f : Row → ℕ) (x : Place) → list_any (λ o. t.under o (number_of x)) is ≡ true → is_place (meaning t) x ≡ true → brings f (meaning t) x (flat_map t.sources is) (flat_map t.joins is) ≡ total f (due (meaning t) x)

low_in : (t : Tree) (n k : ℕ) (is : List ℕ) → IsTree t → AllByRecursion (IsInput t n) is → list_any (λ o. t.under o k) is ≡ true → k < n
low_in t n k [] good inputs h = absurd (let e : false ≡ true = h in cc)
low_in t n k (i ∷ is) good inputs h = by_test (k < n) (t.under i k) (λ e. lower_than t n i k good inputs.0.lower inputs.0.under e)
    (λ e. low_in t n k is good inputs.1 (sym (ap (λ v. v || list_any (λ o. t.under o k) is) e) ∙ h))

out_below : (x : Place) (n : ℕ) → number_of x < n → is_out x n ≡ false
out_below x n lt = out_at x n (λ e. absurd (omega arith))

listed : (t : Tree) (n : ℕ) (is : List ℕ) → IsTree t → t.under t.root n ≡ true → AllByRecursion (IsInput t n) is → AreApart t is → AllByRecursion (λ i. Known t i (t.sources i) (t.joins i)) is → Listed t n is
listed t n [] good u inputs apart known = record {
  outside = λ f x h. (let z = comes_none f t.each x n (t.above n) (t.above_sink n) in omega arith);
  inside = λ f x h p. absurd (let e : false ≡ true = h in cc);
}
listed t n (i ∷ is) good u inputs apart known =
    let m = meaning t in
    let rest = listed t n is good u inputs.1 apart.1 known.1 in
    let split : (f : Row → ℕ) (x : Place) → brings f m x (flat_map t.sources (i ∷ is)) (flat_map t.joins (i ∷ is)) ≡ brings f m x (t.sources i) (t.joins i) + brings f m x (flat_map t.sources is) (flat_map t.joins is) =
    λ f x. brings_append f m x (t.sources i) (flat_map t.sources is) (t.joins i) (flat_map t.joins is) in
    record {
      outside = λ f x h. (
          let o = or-none (t.under i (number_of x)) (list_any (λ o. t.under o (number_of x)) is) h in
          let a = split f x in let b = known.0.outside f x o.0 in let c = rest.outside f x o.1 in
          let d = goes f t x n i (t.rows i) inputs.0 (out_outside t x i good inputs.0.under o.0) in
          let g = t.each n in
          let e = comes_add f t.each x n (t.above n) (t.above_sink n) (flat_map g (t.rows i)) (flat_map g (flat_map t.rows is)) in
          let q = ap (λ rows. total f (from m x n rows)) (flat-append g (t.rows i) (flat_map t.rows is)) in omega arith);
      inside = λ f x h p. (
          let a = split f x in
          by_test (brings f m x (flat_map t.sources (i ∷ is)) (flat_map t.joins (i ∷ is)) ≡ total f (due m x)) (t.under i (number_of x))
          (λ e. (
          let none : list_any (λ o. t.under o (number_of x)) is ≡ false = by_test (list_any (λ o. t.under o (number_of x)) is ≡ false) (list_any (λ o. t.under o (number_of x)) is) (λ v. absurd (apart.0 (number_of x) e v)) (λ v. v) in
          let l = lower_than t n i (number_of x) good inputs.0.lower inputs.0.under e in
          let b = known.0.inside f x e p in let c = rest.outside f x none in
          let z = none_from f t x n (flat_map (t.each n) (flat_map t.rows is)) good u (out_below x n l) (omega arith) in omega arith))
          (λ e. (
          let there : list_any (λ o. t.under o (number_of x)) is ≡ true = sym (ap (λ v. v || list_any (λ o. t.under o (number_of x)) is) e) ∙ h in
          let l = low_in t n (number_of x) is good inputs.1 there in
          let b = known.0.outside f x e in let c = rest.inside f x there p in
          let d = goes f t x n i (t.rows i) inputs.0 (out_outside t x i good inputs.0.under e) in
          let z = none_from f t x n (flat_map (t.each n) (t.rows i)) good u (out_below x n l) (omega arith) in omega arith)));
    }

-- ---- the kinds of nodes

-- what comes out of a node whose inputs hand their rows on
hands_on : (f : Row → ℕ) (t : Tree) (n : ℕ) (rows : List Row) → IsTree t → t.under t.root n ≡ true → SameBag (t.rows n) rows → total f (from (meaning t) (OutOf n) n rows) ≡ total f (t.rows n)
hands_on f t n rows good u same = own_from f t n rows good u ∙ sym (same.sums f)

each_known : (t : Tree) (n i : ℕ) → IsTree t → t.under t.root n ≡ true → t.kind n ≡ Each i → IsInput t n i → SameBag (t.rows n) (flat_map (t.each n) (t.rows i)) → Known t i (t.sources i) (t.joins i) → Known t n (t.sources i) (t.joins i)
each_known t n i good u e input rows k =
    let m = meaning t in
    let made = flat_map (t.each n) (t.rows i) in
    let on : (f : Row → ℕ) (x : Place) → t.under i (number_of x) ≡ false → brings f m x (t.sources i) (t.joins i) ≡ total f (from m x n made) =
    λ f x h. k.outside f x h ∙ goes f t x n i (t.rows i) input (out_outside t x i good input.under h) in
    let own : (f : Row → ℕ) (x : Place) → number_of x ≡ n → is_place m x ≡ true → brings f m x (t.sources i) (t.joins i) ≡ total f (due m x) = λ f. elim [
      | OutOf s ↦ λ same place. (
          let P : ℕ → Type 0 = λ s. brings f m (OutOf s) (t.sources i) (t.joins i) ≡ total f (t.rows s) in
          subst P (sym same) (on f (OutOf n) (above_not t n i good input.lower input.under) ∙ hands_on f t n made good u rows))
      | Into s ↦ λ same place. absurd (no_sink t s n (Each i) good u e refl refl same place)
    ] in
    record {
      outside = λ f x h. on f x (not_within t n i (number_of x) input.within h) ∙ sym (comes_same f t.each x n (t.above n) (t.above_sink n) (t.rows n) made rows);
      inside = λ f x h place. by_test (brings f m x (t.sources i) (t.joins i) ≡ total f (due m x)) (number_of x == n)
          (λ q. own f x (eq-is (number_of x) n q) place)
          (λ q. (let ne = eq-not (number_of x) n q in k.inside f x (sym (ap (λ y. under_inputs t.under y (number_of x)) e) ∙ part_of t x n good u h ne place) place));
    }

any_in : (t : Tree) (n k : ℕ) (is : List ℕ) → AllByRecursion (IsInput t n) is → list_any (λ o. t.under o k) is ≡ true → t.under n k ≡ true
any_in t n k [] are h = absurd (let e : false ≡ true = h in cc)
any_in t n k (i ∷ is) are h = by_test (t.under n k ≡ true) (t.under i k) (are.0.within k)
    (λ e. any_in t n k is are.1 (sym (ap (λ v. v || list_any (λ o. t.under o k) is) e) ∙ h))

union_known : (t : Tree) (n : ℕ) (is : List ℕ) → IsTree t → t.under t.root n ≡ true → t.kind n ≡ Unites is → AreInputs t n (Unites is) → SameBag (t.rows n) (flat_map (t.each n) (flat_map t.rows is)) → AllByRecursion (λ i. Known t i (t.sources i) (t.joins i)) is → Known t n (flat_map t.sources is) (flat_map t.joins is)
union_known t n is good u e are rows known =
    let m = meaning t in
    let all = listed t n is good u are.0 are.1 known in
    let made = flat_map (t.each n) (flat_map t.rows is) in
    let none : (k : ℕ) → (k < n → ⊥) → list_any (λ o. t.under o k) is ≡ false = λ k not. by_test (list_any (λ o. t.under o k) is ≡ false) (list_any (λ o. t.under o k) is) (λ v. absurd (not (low_in t n k is good are.0 v))) (λ v. v) in
    let own : (f : Row → ℕ) (x : Place) → number_of x ≡ n → is_place m x ≡ true → brings f m x (flat_map t.sources is) (flat_map t.joins is) ≡ total f (due m x) = λ f. elim [
      | OutOf s ↦ λ same place. (
          let P : ℕ → Type 0 = λ s. brings f m (OutOf s) (flat_map t.sources is) (flat_map t.joins is) ≡ total f (t.rows s) in
          subst P (sym same) (all.outside f (OutOf n) (none n (λ l. absurd (omega arith))) ∙ hands_on f t n made good u rows))
      | Into s ↦ λ same place. absurd (no_sink t s n (Unites is) good u e refl refl same place)
    ] in
    record {
      outside = λ f x h. (
          let nowhere : list_any (λ o. t.under o (number_of x)) is ≡ false = by_test (list_any (λ o. t.under o (number_of x)) is ≡ false) (list_any (λ o. t.under o (number_of x)) is)
          (λ v. absurd (not-both (t.under n (number_of x)) (any_in t n (number_of x) is are.0 v) h)) (λ v. v) in
          all.outside f x nowhere ∙ sym (comes_same f t.each x n (t.above n) (t.above_sink n) (t.rows n) made rows));
      inside = λ f x h place. by_test (brings f m x (flat_map t.sources is) (flat_map t.joins is) ≡ total f (due m x)) (number_of x == n)
          (λ q. own f x (eq-is (number_of x) n q) place)
          (λ q. (let ne = eq-not (number_of x) n q in all.inside f x (sym (ap (λ y. under_inputs t.under y (number_of x)) e) ∙ part_of t x n good u h ne place) place));
    }

source_known : (t : Tree) (n : ℕ) → IsTree t → t.under t.root n ≡ true → t.kind n ≡ Begins → Known t n (n ∷ []) []
source_known t n good u e =
    let m = meaning t in
    let one_source : (f : Row → ℕ) (x : Place) → brings f m x (n ∷ []) [] ≡ total f (from m x n (t.rows n)) = λ f x. (let a = total-append f (from m x n (t.rows n)) [] in omega arith) in
    let own : (f : Row → ℕ) (x : Place) → number_of x ≡ n → is_place m x ≡ true → brings f m x (n ∷ []) [] ≡ total f (due m x) = λ f. elim [
      | OutOf s ↦ λ same place. (
          let P : ℕ → Type 0 = λ s. brings f m (OutOf s) (n ∷ []) [] ≡ total f (t.rows s) in
          subst P (sym same) (one_source f (OutOf n) ∙ own_from f t n (t.rows n) good u))
      | Into s ↦ λ same place. absurd (no_sink t s n Begins good u e refl refl same place)
    ] in
    record {
      outside = λ f x h. one_source f x;
      inside = λ f x h place. by_test (brings f m x (n ∷ []) [] ≡ total f (due m x)) (number_of x == n)
          (λ q. own f x (eq-is (number_of x) n q) place)
          (λ q. absurd (let g : false ≡ true = sym (ap (λ y. under_inputs t.under y (number_of x)) e) ∙ part_of t x n good u h (eq-not (number_of x) n q) place in cc));
    }

sort_known : (t : Tree) (n i : ℕ) → IsTree t → t.under t.root n ≡ true → t.kind n ≡ Sorts i → EndsAt t n i → Known t i (t.sources i) (t.joins i) → Known t n (n ∷ t.sources i) (t.joins i)
sort_known t n i good u e ends_at k =
    let m = meaning t in
    let head : (f : Row → ℕ) (x : Place) → brings f m x (n ∷ t.sources i) (t.joins i) ≡ total f (from m x n (t.rows n)) + brings f m x (t.sources i) (t.joins i) =
    λ f x. (let a = total-append f (from m x n (t.rows n)) (flat_map (source_brings m x) (t.sources i)) in omega arith) in
    let over : t.under i n ≡ false = above_not t n i good ends_at.lower ends_at.under in
    let ne_i : n ≢ i = λ q. (let l = ends_at.lower in absurd (omega arith)) in
    let own : (f : Row → ℕ) (x : Place) → number_of x ≡ n → is_place m x ≡ true → brings f m x (n ∷ t.sources i) (t.joins i) ≡ total f (due m x) = λ f. elim [
      | OutOf s ↦ λ same place. (
          let P : ℕ → Type 0 = λ s. brings f m (OutOf s) (n ∷ t.sources i) (t.joins i) ≡ total f (t.rows s) in
          let a = head f (OutOf n) in
          let o = k.outside f (OutOf n) over in
          let c = ends f t (OutOf n) n i (t.rows i) ends_at (out_at (OutOf n) i ne_i) in
          let z = own_from f t n (t.rows n) good u in
          subst P (sym same) (omega arith))
      | Into s ↦ λ same place. (
          let P : ℕ → Type 0 = λ s. brings f m (Into s) (n ∷ t.sources i) (t.joins i) ≡ total f (below_at t s) in
          let a = head f (Into n) in
          let o = k.outside f (Into n) over in
          let c = ends f t (Into n) n i (t.rows i) ends_at refl in
          let q = ap (λ b. total f (rows_where b (t.rows i))) (eq-true n n refl) in
          let z = none_from f t (Into n) n (t.rows n) good u refl (omega arith) in
          let d = ap (total f) (sink_due t n good u ∙ ap (λ y. t.rows (below_sink y)) e) in
          subst P (sym same) (omega arith))
    ] in
    record {
      outside = λ f x h. (
          let below = not_within t n i (number_of x) ends_at.within h in
          let a = head f x in
          let o = k.outside f x below in
          let c = ends_not f t x n i (t.rows i) ends_at (out_outside t x i good ends_at.under below) (not_own t n (number_of x) good u h) in omega arith);
      inside = λ f x h place. by_test (brings f m x (n ∷ t.sources i) (t.joins i) ≡ total f (due m x)) (number_of x == n)
          (λ q. own f x (eq-is (number_of x) n q) place)
          (λ q. (
          let ne = eq-not (number_of x) n q in
          let there = sym (ap (λ y. under_inputs t.under y (number_of x)) e) ∙ part_of t x n good u h ne place in
          let l = lower_than t n i (number_of x) good ends_at.lower ends_at.under there in
          let a = head f x in let o = k.inside f x there place in
          let z = none_from f t x n (t.rows n) good u (out_below x n l) (omega arith) in omega arith));
    }

-- what the two sides of a join bring, and the join's own rows
join_known : (t : Tree) (n b p : ℕ) → IsTree t → t.under t.root n ≡ true → t.kind n ≡ Joins b p → AreInputs t n (Joins b p) → SameBag (t.rows n) (flat_map (t.each n) (t.rows p) ++ t.own n)
    → Known t b (t.sources b) (t.joins b) → Known t p (t.sources p) (t.joins p) → Known t n (t.sources b ++ t.sources p) (t.joins b ++ n ∷ t.joins p)
join_known t n b p good u e are rows kb kp =
    let m = meaning t in
    let eb = are.0 in let ip = are.1 in
    let made = flat_map (t.each n) (t.rows p) in
    let all : (f : Row → ℕ) (x : Place) → ℕ = λ f x. brings f m x (t.sources b ++ t.sources p) (t.joins b ++ n ∷ t.joins p) in
    let split : (f : Row → ℕ) (x : Place) → brings f m x (t.sources b ++ t.sources p) (t.joins b ++ n ∷ t.joins p) ≡ brings f m x (t.sources b) (t.joins b) + (total f (from m x n (t.own n)) + brings f m x (t.sources p) (t.joins p)) =
    λ f x. (let a = brings_append f m x (t.sources b) (t.sources p) (t.joins b) (n ∷ t.joins p) in let c = total-append f (own_brings m x n) (flat_map (own_brings m x) (t.joins p)) in omega arith) in
    let over_b : t.under b n ≡ false = above_not t n b good eb.lower eb.under in
    let over_p : t.under p n ≡ false = above_not t n p good ip.lower ip.under in
    let ne_b : n ≢ b = λ q. (let l = eb.lower in absurd (omega arith)) in
    let together : (f : Row → ℕ) (x : Place) → total f (from m x n made) + total f (from m x n (t.own n)) ≡ total f (from m x n (t.rows n)) =
    λ f x. (let d = comes_add f t.each x n (t.above n) (t.above_sink n) made (t.own n) in let s = comes_same f t.each x n (t.above n) (t.above_sink n) (t.rows n) (made ++ t.own n) rows in omega arith) in
    let own : (f : Row → ℕ) (x : Place) → number_of x ≡ n → is_place m x ≡ true → brings f m x (t.sources b ++ t.sources p) (t.joins b ++ n ∷ t.joins p) ≡ total f (due m x) = λ f. elim [
      | OutOf s ↦ λ same place. (
          let P : ℕ → Type 0 = λ s. brings f m (OutOf s) (t.sources b ++ t.sources p) (t.joins b ++ n ∷ t.joins p) ≡ total f (t.rows s) in
          let a = split f (OutOf n) in
          let o = kb.outside f (OutOf n) over_b in
          let c = ends f t (OutOf n) n b (t.rows b) eb (out_at (OutOf n) b ne_b) in
          let q = kp.outside f (OutOf n) over_p in
          let d = goes f t (OutOf n) n p (t.rows p) ip (out_outside t (OutOf n) p good ip.under over_p) in
          let g = together f (OutOf n) in
          let z = own_from f t n (t.rows n) good u in
          subst P (sym same) (omega arith))
      | Into s ↦ λ same place. (
          let P : ℕ → Type 0 = λ s. brings f m (Into s) (t.sources b ++ t.sources p) (t.joins b ++ n ∷ t.joins p) ≡ total f (below_at t s) in
          let a = split f (Into n) in
          let o = kb.outside f (Into n) over_b in
          let c = ends f t (Into n) n b (t.rows b) eb refl in
          let v = ap (λ y. total f (rows_where y (t.rows b))) (eq-true n n refl) in
          let q = kp.outside f (Into n) over_p in
          let d = goes f t (Into n) n p (t.rows p) ip refl in
          let g = together f (Into n) in
          let z = none_from f t (Into n) n (t.rows n) good u refl (omega arith) in
          let w = ap (total f) (sink_due t n good u ∙ ap (λ y. t.rows (below_sink y)) e) in
          subst P (sym same) (omega arith))
    ] in
    record {
      outside = λ f x h. (
          let in_b = not_within t n b (number_of x) eb.within h in
          let in_p = not_within t n p (number_of x) ip.within h in
          let a = split f x in
          let o = kb.outside f x in_b in
          let c = ends_not f t x n b (t.rows b) eb (out_outside t x b good eb.under in_b) (not_own t n (number_of x) good u h) in
          let q = kp.outside f x in_p in
          let d = goes f t x n p (t.rows p) ip (out_outside t x p good ip.under in_p) in
          let g = together f x in omega arith);
      inside = λ f x h place. by_test (brings f m x (t.sources b ++ t.sources p) (t.joins b ++ n ∷ t.joins p) ≡ total f (due m x)) (number_of x == n)
          (λ q. own f x (eq-is (number_of x) n q) place)
          (λ q. (
          let ne = eq-not (number_of x) n q in
          let there = sym (ap (λ y. under_inputs t.under y (number_of x)) e) ∙ part_of t x n good u h ne place in
          let a = split f x in
          elim (or-case (t.under b (number_of x)) (t.under p (number_of x)) there) [
            | inl v ↦ (
                let l = lower_than t n b (number_of x) good eb.lower eb.under v in
                let not_p = not_other t b p (number_of x) are.2 v in
                let o = kb.inside f x v place in
                let c = kp.outside f x not_p in
                let d = goes f t x n p (t.rows p) ip (out_outside t x p good ip.under not_p) in
                let z1 = none_from f t x n made good u (out_below x n l) (omega arith) in
                let z2 = none_from f t x n (t.own n) good u (out_below x n l) (omega arith) in omega arith)
            | inr v ↦ (
                let l = lower_than t n p (number_of x) good ip.lower ip.under v in
                let not_b = not_other t p b (number_of x) (λ k y w. are.2 k w y) v in
                let o = kp.inside f x v place in
                let c = kb.outside f x not_b in
                let d = ends_not f t x n b (t.rows b) eb (out_outside t x b good eb.under not_b) ne in
                let z = none_from f t x n (t.own n) good u (out_below x n l) (omega arith) in omega arith)
          ]));
    }

at_node : (t : Tree) (n : ℕ) (x : Kind) → IsTree t → t.under t.root n ≡ true → t.kind n ≡ x → AreInputs t n x → HasRows t n x → ((i : ℕ) → i < n → t.under t.root i ≡ true → Known t i (t.sources i) (t.joins i)) → Known t n (sources_by t.sources n x) (joins_by t.joins n x)
at_node t n Begins good u e are rows known = source_known t n good u e
at_node t n (Each i) good u e are rows known = each_known t n i good u e are rows (known i are.lower are.under)
at_node t n (Unites is) good u e are rows known = union_known t n is good u e are rows (know_all t (λ i. Known t i (t.sources i) (t.joins i)) n is known are.0)
at_node t n (Joins b p) good u e are rows known = join_known t n b p good u e are rows (known b are.0.lower are.0.under) (known p are.1.lower are.1.under)
at_node t n (Sorts i) good u e are rows known = sort_known t n i good u e are (known i are.lower are.under)

totals : (t : Tree) (bound n : ℕ) → IsTree t → n < bound → t.under t.root n ≡ true → Known t n (t.sources n) (t.joins n)
totals t zero n good lt u = absurd (omega arith)
totals t (suc bound) n good lt u =
    let is = at_node t n (t.kind n) good u refl (good.inputs n u) (good.rows n u) (λ i less under. totals t bound i good (omega arith) under) in
    let P : List ℕ → Type 0 = λ sources. Known t n sources (t.joins n) in
    let Q : List ℕ → Type 0 = λ joins. Known t n (sources_by t.sources n (t.kind n)) joins in
    subst P (sym (good.sources n u)) (subst Q (sym (good.joins n u)) is)

-- What all sources and all joins under the root bring to a place, each along its chain, is what is due there
pub sums : (t : Tree) → IsTree t → (x : Place) → is_place (meaning t) x ≡ true → (f : Row → ℕ)
    → total f (flat_map (λ n. from (meaning t) x n (t.rows n)) (t.sources t.root)) + total f (flat_map (own_brings (meaning t) x) (t.joins t.root)) ≡ total f (due (meaning t) x)
sums t good x place f =
    let m = meaning t in
    let root = t.root in
    let u = good.root_under in
    let k = totals t (suc root) root good (omega arith) u in
    by_test (brings f m x (t.sources root) (t.joins root) ≡ total f (due m x)) (t.under root (number_of x))
    (λ h. k.inside f x h place)
    (λ h. (
    let at_root : (y : Place) → is_place m y ≡ true → t.under root (number_of y) ≡ false → total f (from m y root (t.rows root)) ≡ total f (due m y) = elim [
      | OutOf s ↦ λ p not. absurd (not-both (t.under root s) (good.run_under s p) not)
      | Into s ↦ λ p not. elim (or-case (is_sort_at t s || is_join_at t s) (s == t.ordered) p) [
        | inl e ↦ absurd (elim (or-case (is_sort_at t s) (is_join_at t s) e) [
          | inl g ↦ not-both (t.under root s) (and-cases (t.under root s) (is_sorting (t.kind s)) g).0 not
          | inr g ↦ not-both (t.under root s) (and-cases (t.under root s) (is_joining (t.kind s)) g).0 not
        ])
        | inr e ↦ (
            let same = eq-is s t.ordered e in
            ap (λ ops. total f (comes t.each (Into s) root ops (t.above_sink root) (t.rows root))) good.root_above
            ∙ ap (λ y. total f (rows_where (y == s) (t.rows root))) good.root_sink
            ∙ ap (λ y. total f (rows_where y (t.rows root))) (eq-true t.ordered s (sym same))
            ∙ sym (ap (λ y. total f (cond y (t.rows root) (t.rows (below_sink (t.kind s))))) e))
      ]
    ] in
    k.outside f x h ∙ at_root x place h))
