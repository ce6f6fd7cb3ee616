-- A leg's rows go along its chain, and what is left of its way waits.
use Rattle.std.proofs.Common.{◌≡◌, ℕ, ◌+◌, ◌<◌, List, [], ◌∷◌, ◌++◌, refl, sym, ap, subst, ◌∙◌, arith, true}
use Rattle.std.specs.List.{AllByRecursion}
use Rattle.pipe_schema.specs.Rows.{Row}
use Rattle.pipe_schema.specs.Weights.{total}
use Rattle.pipe_schema.proofs.Weights.{total-append}
use Rattle.pipe_driver.specs.Meaning.{Meaning, Place, comes, from, due}
use Rattle.pipe_driver.specs.Legs.{Leg, Way}
use Rattle.pipe_driver.specs.Ways.{occurs, legs_to, way_to, feeds, legs_through, way_through, passes, starts, way_starts, begun, leg_brings, legs_bring, way_brings, brought, own_brings, AreLegs, MayGoOn, IsSoundMeaning}
use Rattle.pipe_driver.proofs.Tests.{eq-not, all-append, all-map}
use Rattle.pipe_driver.specs.State.{World, Counts, pending, gained_brings, spread, Slot, IsBuilt, IsParked, IsReady, IsPassing, HasPassed, HasTail, IsTail, nothing, is_sink}
use Rattle.pipe_driver.proofs.Sums.{split4, brought_append, pending_more, alike_from}
use Rattle.pipe_driver.proofs.Settled.{settled}

-- ---- what is known of a tail

record Tail (m : Meaning) (s : ℕ) (legs : List Leg) (tails : List Way) : Type 0 where
  to : (k : ℕ) → feeds k tails ≡ legs_to k legs
  bring : (x : Place) (f : Row → ℕ) → total f (brought m x tails) ≡ total f (legs_bring m x s legs)
  begin : (k : ℕ) → begun k tails ≡ starts k s legs
  pass : (j : ℕ) → passes j tails ≡ legs_through j legs

tail_is : (m : Meaning) (s : ℕ) (legs : List Leg) (tails : List Way) → IsTail s legs tails → Tail m s legs tails
tail_is m s [] tails is = record {
  to = λ k. ap (feeds k) is;
  bring = λ x f. ap (λ ps. total f (brought m x ps)) is;
  begin = λ k. ap (begun k) is;
  pass = λ j. ap (passes j) is;
}
tail_is m s (leg ∷ legs) tails is =
    let q = is.0 in
    record {
      to = λ k. ap (feeds k) is.3 ∙ (let e : way_to k q ≡ legs_to k (leg ∷ legs) = ap (legs_to k) is.2 in omega arith);
      bring = λ x f. ap (λ ps. total f (brought m x ps)) is.3 ∙ total-append f (way_brings m x q) [] ∙ (
          let e : way_brings m x q ≡ legs_bring m x s (leg ∷ legs) = ap (λ n. legs_bring m x n q.legs) is.1 ∙ ap (legs_bring m x s) is.2 in
          let g = ap (total f) e in omega arith);
      begin = λ k. ap (begun k) is.3 ∙ (
          let e : way_starts k q ≡ starts k s (leg ∷ legs) = ap (λ n. starts k n q.legs) is.1 ∙ ap (starts k s) is.2 in omega arith);
      pass = λ j. ap (passes j) is.3 ∙ (let e : way_through j q ≡ legs_through j (leg ∷ legs) = ap (legs_through j) is.2 in omega arith);
    }

tail_each : (P : Way → Type 0) (s : ℕ) (legs : List Leg) (tails : List Way) → IsTail s legs tails → ((q : Way) → q.start ≡ s → q.legs ≡ legs → (legs ≡ [] → ⊥) → P q) → AllByRecursion P tails
tail_each P s [] tails is f = let Q : List Way → Type 0 = AllByRecursion P in subst Q (sym is) tt
tail_each P s (leg ∷ legs) tails is f =
    let Q : List Way → Type 0 = AllByRecursion P in
    let some : leg ∷ legs ≡ [] → ⊥ = λ e. cc in
    subst Q (sym is.3) (f is.0 is.1 is.2 some, tt)

-- what is known of the ways that wait, with the tail among them
record Later (m : Meaning) (s : ℕ) (legs : List Leg) (parked later : List Way) : Type 0 where
  to : (k : ℕ) → feeds k later ≡ feeds k parked + legs_to k legs
  bring : (x : Place) (f : Row → ℕ) → total f (brought m x later) ≡ total f (brought m x parked) + total f (legs_bring m x s legs)
  pass : (j : ℕ) → passes j later ≡ passes j parked + legs_through j legs
  begin : (k : ℕ) → begun k later ≡ begun k parked + starts k s legs

later_is : (m : Meaning) (s : ℕ) (legs : List Leg) (parked later : List Way) → HasTail s legs parked later → Later m s legs parked later
later_is m s legs parked later tail =
    let known = tail_is m s legs tail.tails tail.tail in
    record {
      to = λ k. ap (feeds k) tail.is ∙ total-append (way_to k) parked tail.tails ∙ ap (λ n. feeds k parked + n) (known.to k);
      bring = λ x f. ap (λ ps. total f (brought m x ps)) tail.is ∙ brought_append f m x parked tail.tails ∙ ap (λ n. total f (brought m x parked) + n) (known.bring x f);
      pass = λ j. ap (passes j) tail.is ∙ total-append (way_through j) parked tail.tails ∙ ap (λ n. passes j parked + n) (known.pass j);
      begin = λ k. ap (begun k) tail.is ∙ total-append (way_starts k) parked tail.tails ∙ ap (λ n. begun k parked + n) (known.begin k);
    }

-- a way goes on behind sorts alone
goes_on : (m : Meaning) (s : ℕ) (legs : List Leg) → (legs ≡ [] → ⊥) → MayGoOn m s legs → m.is_sort s ≡ true
goes_on m s [] some on = absurd (some refl)
goes_on m s (leg ∷ legs) some on = on

-- the joins of a ready way's first leg are built
pub leg_tables : (m : Meaning) (w : World) (c : Counts) (p : Way) (leg : Leg) (legs : List Leg) (parked todo : List Way) → IsSoundMeaning m → IsReady m w c p parked todo → p.legs ≡ leg ∷ legs
    → (j : ℕ) → 0 < occurs j leg.operators → m.is_join j ≡ true → IsBuilt m j (w.slot j)
leg_tables m w c p leg legs parked todo sound ready first j some join = settled m w c p parked todo sound ready j join (let e = ap (legs_through j) first in omega arith)

-- a ready way's first leg
pub leg_there : (m : Meaning) (w : World) (c : Counts) (p : Way) (leg : Leg) (legs : List Leg) (parked todo : List Way) → IsReady m w c p parked todo → p.legs ≡ leg ∷ legs → AreLegs m p.start (leg ∷ legs)
leg_there m w c p leg legs parked todo ready first = let Q : List Leg → Type 0 = AreLegs m p.start in subst Q first ready.way.legs

-- the rows of a ready way's first leg went along its chain
pub passed : (m : Meaning) (old new : World) (c : Counts) (p : Way) (leg : Leg) (legs : List Leg) (parked later todo : List Way)
    → IsSoundMeaning m → IsReady m old c p parked todo → p.legs ≡ leg ∷ legs → HasPassed m p.start (m.rows p.start) old new → HasTail leg.sink legs parked later → IsPassing m new c leg.operators leg.sink later todo
passed m old new c p leg legs parked later todo sound ready first has tail =
    let s = leg.sink in
    let l = later_is m s legs parked later tail in
    let are = leg_there m old c p leg legs parked todo ready first in
    let same_slot : (k : ℕ) → new.slot k ≡ old.slot k = λ k. ap (λ q. q k) has.slot in
    let pass_old : (j : ℕ) → c.probers j ≡ occurs j leg.operators + legs_through j legs + passes j parked + passes j todo = λ j. (let q = ready.left.probers j in let e = ap (legs_through j) first in omega arith) in
    let none_more : (j : ℕ) → c.probers j ≡ 0 → has.more j ≡ [] = λ j z. has.only j (let a = pass_old j in let e = ap (occurs j) are.0.chain in omega arith) in
    record {
      left = record {
        sinks = λ k. (let a = ready.left.sinks k in let e = ap (legs_to k) first in let b = l.to k in omega arith);
        probers = λ j. (let a = pass_old j in let b = l.pass j in omega arith);
        rows = λ x open_there. record {
          sums = λ f. (
              let own = pending c.probers (own_brings m x) m.joins in
              let was = (ready.left.rows x open_there).sums f in
              let e1 = split4 f (old.there x) (brought m x (p ∷ parked)) (brought m x todo) own in
              let e2 = total-append f (way_brings m x p) (brought m x parked) in
              let e3 : total f (way_brings m x p) ≡ total f (legs_bring m x p.start (leg ∷ legs)) = ap (λ ls. total f (legs_bring m x p.start ls)) first in
              let e4 = total-append f (leg_brings m x p.start leg) (legs_bring m x leg.sink legs) in
              let e5 : total f (leg_brings m x p.start leg) ≡ total f (from m x p.start (m.rows p.start)) =
              ap (λ ops. total f (comes m.each x p.start ops leg.sink (m.rows p.start))) are.0.chain ∙ ap (λ k. total f (comes m.each x p.start (m.above p.start) k (m.rows p.start))) are.0.chain_sink in
              let d = l.bring x f in
              let e6 = split4 f (new.there x) (brought m x later) (brought m x todo) own in
              let g = (has.there x).sums f in
              let g2 = total-append f (old.there x) (from m x p.start (m.rows p.start) ++ spread m x has.more) in
              let g3 = total-append f (from m x p.start (m.rows p.start)) (spread m x has.more) in
              let h = pending_more f m x c.probers old.gained new.gained has.more m.joins has.gained none_more in
              let r1 = total-append f (due m x) (pending c.probers (gained_brings m old x) m.joins) in
              let r2 = total-append f (due m x) (pending c.probers (gained_brings m new x) m.joins) in
              omega arith);
        };
        empty = λ k lt. same_slot k ∙ ready.left.empty k lt;
        built = λ j but join some none. (
            let P : Slot → Type 0 = IsBuilt m j in
            subst P (sym (same_slot j)) (ready.left.built j refl join (let b = l.pass j in let e = ap (legs_through j) first in omega arith) none));
        once = λ k. (let q = ready.left.once k in let e = ap (starts k p.start) first in let b = l.begin k in omega arith);
        ways = ready.left.ways;
        order = ready.left.order;
      };
      waiting =
          (let P : Way → Type 0 = IsParked m c.sinks (is_sink s) todo in
          let old_ones : AllByRecursion P parked = all-map (IsParked m c.sinks nothing todo) P parked (λ q is. record {
            sort = is.sort;
            waits = λ not. is.waits refl;
            some = is.some;
            legs = is.legs;
            behind = is.behind;
          }) ready.waiting in
          let tails : AllByRecursion P tail.tails = tail_each P s legs tail.tails tail.tail (λ q start ls some. record {
            sort = ap m.is_sort start ∙ goes_on m s legs some are.0.on;
            waits = λ not. absurd (eq-not q.start s not start);
            some = λ e. some (sym ls ∙ e);
            legs = (let Q : ℕ → Type 0 = λ n. AreLegs m n q.legs in let R : List Leg → Type 0 = AreLegs m s in subst Q (sym start) (subst R (sym ls) are.1));
            behind = λ j k some_through side. (
                let e0 = ap (legs_through j) ls in
                let e1 = ap (legs_through j) first in
                let b = ready.behind j k (omega arith) side in
                let e2 = ap (legs_to k) first in
                let e3 = ap (legs_to k) ls in omega arith);
          }) in
          let R : List Way → Type 0 = AllByRecursion P in
          subst R (sym tail.is) (all-append P parked tail.tails old_ones tails));
      alike = alike_from m p.start leg.operators s sound (sym are.0.chain) (sym are.0.chain_sink);
      tables = λ j some join. (let P : Slot → Type 0 = IsBuilt m j in subst P (sym (same_slot j)) (leg_tables m old c p leg legs parked todo sound ready first j some join));
    }
