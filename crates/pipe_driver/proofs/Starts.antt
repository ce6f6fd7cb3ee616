-- Before the first branch runs, all is still to come.
use Rattle.std.proofs.Common.{◌≡◌, ℕ, zero, suc, ◌<◌, true, ◌||◌, ◌==◌, List, [], ◌∷◌, refl, sym, ap, ◌∙◌, arith, inl, inr}
use Rattle.std.specs.List.{flat_map, AllByRecursion}
use Rattle.pipe_schema.specs.Rows.{Row}
use Rattle.pipe_schema.specs.Weights.{total}
use Rattle.pipe_schema.proofs.Weights.{total-append, SameBag-from_rows}
use Rattle.pipe_driver.specs.declared.branch.SinkAt.{SinkAt}
use Rattle.pipe_driver.specs.declared.branch.SinkAt.TheVariants as at
use Rattle.pipe_driver.specs.Meaning.{Meaning, Place, OutOf, Into, from, is_place, due}
use Rattle.pipe_driver.specs.Legs.{Leg, Way}
use Rattle.pipe_driver.specs.Ways.{one, occurs, legs_to, way_to, feeds, brought, own_brings, IsSinkOf, AreLegs, IsWay}
use Rattle.pipe_driver.proofs.Tests.{by_test, eq-is, eq-true, or-first, or-right, some-left}
use Rattle.pipe_driver.proofs.Totals.{comes_none}
use Rattle.pipe_driver.specs.State.{Counts, IsOpen, kept, pending, gained_brings}
use Rattle.pipe_driver.specs.Steps.{BranchesStart}
use Rattle.pipe_driver.proofs.Sums.{split4, pending_nil}

-- a sink that is fed is a place
sink_place : (m : Meaning) (s : ℕ) (a : SinkAt) → IsSinkOf m s a → is_place m (Into s) ≡ true
sink_place m s at.Ordered is = or-right (m.is_sort s || m.is_join s) (s == m.ordered) (eq-true s m.ordered is)
sink_place m s (at.Sort n) is = or-first (m.is_sort s || m.is_join s) (s == m.ordered) (or-first (m.is_sort s) (m.is_join s) (ap m.is_sort is.0 ∙ is.1))
sink_place m s (at.Build n) is = or-first (m.is_sort s || m.is_join s) (s == m.ordered) (or-right (m.is_sort s) (m.is_join s) (ap m.is_join is.0 ∙ is.1))

legs_place : (m : Meaning) (s start : ℕ) (legs : List Leg) → AreLegs m start legs → 0 < legs_to s legs → is_place m (Into s) ≡ true
legs_place m s start [] are h = absurd (omega arith)
legs_place m s start (leg ∷ legs) are h =
    by_test (is_place m (Into s) ≡ true) (leg.sink == s)
    (λ e. ap (λ k. is_place m (Into k)) (sym (eq-is leg.sink s e)) ∙ sink_place m leg.sink leg.at are.0.at)
    (λ e. (let t = ap one e in legs_place m s leg.sink legs are.1 (omega arith)))

fed_place : (m : Meaning) (s : ℕ) (ps : List Way) → AllByRecursion (IsWay m) ps → 0 < feeds s ps → is_place m (Into s) ≡ true
fed_place m s [] are h = absurd (omega arith)
fed_place m s (p ∷ ps) are h = elim (some-left (way_to s p)) [ inr l ↦ legs_place m s p.start p.legs are.0.legs l | inl z ↦ fed_place m s ps are.1 (omega arith) ]

-- each join is still to come
pending_all : (f : Row → ℕ) (probers : ℕ → ℕ) (g : ℕ → List Row) (js : List ℕ) → ((j : ℕ) → 0 < occurs j js → 0 < probers j) → total f (pending probers g js) ≡ total f (flat_map g js)
pending_all f probers g [] h = refl
pending_all f probers g (j ∷ js) h =
    let a = total-append f (kept (probers j) (g j)) (pending probers g js) in
    let b = total-append f (g j) (flat_map g js) in
    let r = pending_all f probers g js (λ k l. h k (omega arith)) in
    let t = ap one (eq-true j j refl) in
    let split : (n : ℕ) → 0 < n → total f (kept n (g j)) ≡ total f (g j) = elim [ zero ↦ λ l. absurd (omega arith) | suc n ↦ λ l. refl ] in
    let c = split (probers j) (h j (omega arith)) in omega arith

is_there : (m : Meaning) (c : Counts) (x : Place) (ps : List Way) → ((s : ℕ) → c.sinks s ≡ feeds s ps) → AllByRecursion (IsWay m) ps → IsOpen m c x → is_place m x ≡ true
is_there m c (OutOf t) ps sinks are h = h
is_there m c (Into s) ps sinks are h = fed_place m s ps are (let a = sinks s in omega arith)

pub starts : BranchesStart
starts m w c ps sound run start = record {
  left = record {
    sinks = λ s. start.sinks s ∙ omega arith;
    probers = λ n. start.probers n ∙ omega arith;
    rows = λ x open_there. record {
      sums = λ f. (
          let own = pending c.probers (own_brings m x) m.joins in
          let place : is_place m x ≡ true = is_there m c x ps (λ s. start.sinks s) run.ways open_there in
          let e = split4 f (w.there x) [] (brought m x ps) own in
          let none = ap (total f) (start.there x) in
          let all = pending_all f c.probers (own_brings m x) m.joins (λ j l. (let a = run.come_to j l in let b = start.probers j in omega arith)) in
          let g = (SameBag-from_rows (run.rows x place)).sums f in
          let g2 = total-append f (brought m x ps) (flat_map (own_brings m x) m.joins) in
          let z = pending_nil f c.probers (gained_brings m w x) m.joins (λ j l. ap (λ rows. total f (from m x j rows)) (start.gained j) ∙ comes_none f m.each x j (m.above j) (m.above_sink j)) in
          let r = total-append f (due m x) (pending c.probers (gained_brings m w x) m.joins) in
          omega arith);
    };
    empty = λ j l. start.slot j;
    built = λ j but join some none. absurd (let a = run.fed j join (omega arith) in let b = start.sinks j in omega arith);
    once = λ n. (let a = run.once n in omega arith);
    ways = run.ways;
    order = run.order;
  };
  waiting = tt;
}
