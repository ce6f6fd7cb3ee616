-- A sink is closed, or stays open.
use Rattle.std.proofs.Common.{◌≡◌, ℕ, ◌<◌, List, [], ◌∷◌, ◌++◌, refl, sym, ap, subst, ◌∙◌, arith, ◌==◌, Bool, true}
use Rattle.std.specs.List.{AllByRecursion}
use Rattle.pipe_schema.specs.Rows.{Row}
use Rattle.pipe_schema.specs.Weights.{total}
use Rattle.pipe_schema.proofs.Weights.{total-append}
use Rattle.pipe_driver.specs.Meaning.{Meaning, Place, Into, from, due}
use Rattle.pipe_driver.specs.Legs.{Leg, Way}
use Rattle.pipe_driver.specs.Ways.{one, way_to, feeds, way_through, passes, starts, way_starts, begun, way_brings, brought, own_brings, IsSoundMeaning}
use Rattle.pipe_driver.proofs.Tests.{by_test, eq-is, eq-true, eq-false, eq-not, all-append, all-map}
use Rattle.pipe_driver.specs.State.{World, Counts, IsOpen, pending, gained_brings, Slot, IsBuilt, IsLeft, IsParked, IsBetween, IsReady, IsFed, HasClosed, TakesOut, BeginsElsewhere, nothing, none_due, is_sink}
use Rattle.pipe_driver.proofs.Sums.{split4, brought_append}

-- ---- the sink stays open

pub stays_open : (m : Meaning) (w : World) (c : Counts) (s : ℕ) (parked todo : List Way) → IsFed m w c s parked todo → 0 < c.sinks s → IsBetween m w c parked todo
stays_open m w c s parked todo is some = record {
  left = record {
    sinks = is.left.sinks;
    probers = is.left.probers;
    rows = is.left.rows;
    empty = is.left.empty;
    built = λ j but join passed none. is.left.built j (eq-false j s (λ e. (let f : c.sinks s ≡ 0 = sym (ap c.sinks e) ∙ none in absurd (omega arith)))) join passed none;
    once = is.left.once;
    ways = is.left.ways;
    order = is.left.order;
  };
  waiting = all-map (IsParked m c.sinks (is_sink s) todo) (IsParked m c.sinks nothing todo) parked (λ q p. record {
    sort = p.sort;
    waits = λ not. by_test (0 < c.sinks q.start) (q.start == s)
        (λ e. (let f : c.sinks q.start ≡ c.sinks s = ap c.sinks (eq-is q.start s e) in omega arith))
        p.waits;
    some = p.some;
    legs = p.legs;
    behind = p.behind;
  }) is.waiting;
}

-- ---- the sink is closed

-- as much is left to run of the one as of the other
record AsMuch (m : Meaning) (old new : List Way) : Type 0 where
  to : (k : ℕ) → feeds k new ≡ feeds k old
  bring : (x : Place) (f : Row → ℕ) → total f (brought m x new) ≡ total f (brought m x old)
  begin : (k : ℕ) → begun k new ≡ begun k old
  pass : (k : ℕ) → passes k new ≡ passes k old

as_much : (m : Meaning) (ps : List Way) → AsMuch m ps ps
as_much m ps = record { to = λ k. refl; bring = λ x f. refl; begin = λ k. refl; pass = λ k. refl }

closed_left : (m : Meaning) (old new : World) (c : Counts) (s : ℕ) (parked live todo : List Way) → IsFed m old c s parked todo → c.sinks s ≡ 0 → HasClosed s old new
    → (m.is_join s ≡ true → IsBuilt m s (new.slot s)) → AsMuch m parked live → IsLeft m new c none_due [] nothing live todo
closed_left m old new c s parked live todo is none has filled much =
    let other_place : (x : Place) → IsOpen m c x → x ≡ Into s → ⊥ = λ x open_there e. (let P : Place → Type 0 = IsOpen m c in let l : 0 < c.sinks s = subst P e open_there in absurd (omega arith)) in
    record {
      sinks = λ k. (let a = is.left.sinks k in let b = much.to k in omega arith);
      probers = λ k. (let a = is.left.probers k in let b = much.pass k in omega arith);
      rows = λ x open_there. record {
        sums = λ f. (
            let was = (is.left.rows x open_there).sums f in
            let a = (has.there x (other_place x open_there)).sums f in
            let b = much.bring x f in
            let own = pending c.probers (own_brings m x) m.joins in
            let e1 = split4 f (new.there x) (brought m x live) (brought m x todo) own in
            let e3 = split4 f (old.there x) (brought m x parked) (brought m x todo) own in
            let g = ap (λ q. total f (pending c.probers (λ j. from m x j (q j)) m.joins)) has.gained in
            let r1 = total-append f (due m x) (pending c.probers (gained_brings m old x) m.joins) in
            let r2 = total-append f (due m x) (pending c.probers (gained_brings m new x) m.joins) in
            omega arith);
      };
      empty = λ k lt. has.slots k (λ e. (let f : c.sinks k ≡ 0 = ap c.sinks e ∙ none in absurd (omega arith))) ∙ is.left.empty k lt;
      built = λ j but join passed zero. by_test (IsBuilt m j (new.slot j)) (j == s)
          (λ e. (let same = eq-is j s e in
          let P : ℕ → Type 0 = λ n. IsBuilt m n (new.slot n) in
          subst P (sym same) (filled (ap m.is_join (sym same) ∙ join))))
          (λ e. (let P : Slot → Type 0 = IsBuilt m j in
          subst P (sym (has.slots j (eq-not j s e)))
          (is.left.built j e join (let b = much.pass j in omega arith) zero)));
      once = λ k. (let a = is.left.once k in let b = much.begin k in omega arith);
      ways = is.left.ways;
      order = is.left.order;
    }

-- a way that waits elsewhere
elsewhere : (m : Meaning) (sinks : ℕ → ℕ) (s : ℕ) (todo : List Way) (q : Way) → (q.start ≡ s → ⊥) → IsParked m sinks (is_sink s) todo q → IsParked m sinks nothing todo q
elsewhere m sinks s todo q ne p = record {
  sort = p.sort;
  waits = λ not. p.waits (eq-false q.start s ne);
  some = p.some;
  legs = p.legs;
  behind = p.behind;
}

all_elsewhere : (m : Meaning) (sinks : ℕ → ℕ) (s : ℕ) (todo qs : List Way) → AllByRecursion (BeginsElsewhere s) qs
    → AllByRecursion (IsParked m sinks (is_sink s) todo) qs → AllByRecursion (IsParked m sinks nothing todo) qs
all_elsewhere m sinks s todo [] ne are = tt
all_elsewhere m sinks s todo (q ∷ qs) ne are = (elsewhere m sinks s todo q ne.0 are.0, all_elsewhere m sinks s todo qs ne.1 are.1)

-- no way waits for the sink
pub closes : (m : Meaning) (old new : World) (c : Counts) (s : ℕ) (parked todo : List Way) → IsFed m old c s parked todo → c.sinks s ≡ 0 → HasClosed s old new
    → (m.is_join s ≡ true → IsBuilt m s (new.slot s)) → AllByRecursion (BeginsElsewhere s) parked → IsBetween m new c parked todo
closes m old new c s parked todo is none has filled ne = record {
  left = closed_left m old new c s parked parked todo is none has filled (as_much m parked);
  waiting = all_elsewhere m c.sinks s todo parked ne is.waiting;
}

pub no_sort_elsewhere : (m : Meaning) (sinks : ℕ → ℕ) (but : ℕ → Bool) (s : ℕ) (todo qs : List Way) → (m.is_sort s ≡ true → ⊥) → AllByRecursion (IsParked m sinks but todo) qs → AllByRecursion (BeginsElsewhere s) qs
no_sort_elsewhere m sinks but s todo [] not are = tt
no_sort_elsewhere m sinks but s todo (q ∷ qs) not are = (λ e. not (ap m.is_sort (sym e) ∙ are.0.sort), no_sort_elsewhere m sinks but s todo qs not are.1)

-- ---- the sort's rows go on

begins : (s : ℕ) (q : Way) → (q.legs ≡ [] → ⊥) → q.start ≡ s → 0 < way_starts s q
begins s q some e =
    let split : (legs : List Leg) → (legs ≡ [] → ⊥) → 0 < starts s q.start legs = elim [
      | [] ↦ λ h. absurd (h refl)
      | leg ∷ legs ↦ λ h. (let t : one (q.start == s) ≡ 1 = ap one (eq-true q.start s e) in omega arith)
    ] in split q.legs some

none_begins : (m : Meaning) (sinks : ℕ → ℕ) (but : ℕ → Bool) (s : ℕ) (todo qs : List Way) → begun s qs ≡ 0 → AllByRecursion (IsParked m sinks but todo) qs → AllByRecursion (BeginsElsewhere s) qs
none_begins m sinks but s todo [] none are = tt
none_begins m sinks but s todo (q ∷ qs) none are =
    (λ e. (let b = begins s q are.0.some e in absurd (omega arith)), none_begins m sinks but s todo qs (omega arith) are.1)

all_front : {A : Type 0} (P : A → Type 0) (a b : List A) → AllByRecursion P (a ++ b) → AllByRecursion P a
all_front P [] b h = tt
all_front P (x ∷ a) b h = (h.0, all_front P a b h.1)

all_back : {A : Type 0} (P : A → Type 0) (a b : List A) → AllByRecursion P (a ++ b) → AllByRecursion P b
all_back P [] b h = h
all_back P (x ∷ a) b h = all_back P a b h.1

moved : (m : Meaning) (s : ℕ) (q : Way) (parked later : List Way) → TakesOut s q parked later → AsMuch m parked (q ∷ later)
moved m s q parked later out = record {
  to = λ k. (
      let a = ap (feeds k) out.was ∙ total-append (way_to k) out.before (q ∷ out.after) in
      let b = ap (feeds k) out.is ∙ total-append (way_to k) out.before out.after in omega arith);
  bring = λ x f. (
      let a = ap (λ ps. total f (brought m x ps)) out.was ∙ brought_append f m x out.before (q ∷ out.after) in
      let a2 = total-append f (way_brings m x q) (brought m x out.after) in
      let b = ap (λ ps. total f (brought m x ps)) out.is ∙ brought_append f m x out.before out.after in
      let b2 = total-append f (way_brings m x q) (brought m x later) in omega arith);
  begin = λ k. (
      let a = ap (begun k) out.was ∙ total-append (way_starts k) out.before (q ∷ out.after) in
      let b = ap (begun k) out.is ∙ total-append (way_starts k) out.before out.after in omega arith);
  pass = λ k. (
      let a = ap (passes k) out.was ∙ total-append (way_through k) out.before (q ∷ out.after) in
      let b = ap (passes k) out.is ∙ total-append (way_through k) out.before out.after in omega arith);
}

-- the way that waited for a sort can go on
pub resumes : (m : Meaning) (old new : World) (c : Counts) (s : ℕ) (q : Way) (parked later todo : List Way) → IsSoundMeaning m → m.is_sort s ≡ true → IsFed m old c s parked todo → c.sinks s ≡ 0
    → HasClosed s old new → TakesOut s q parked later → IsReady m new c q later todo
resumes m old new c s q parked later todo sound sort is none has out =
    let P : Way → Type 0 = IsParked m c.sinks (is_sink s) todo in
    let Q : List Way → Type 0 = AllByRecursion P in
    let all : AllByRecursion P (out.before ++ q ∷ out.after) = subst Q out.was is.waiting in
    let back = all_back P out.before (q ∷ out.after) all in
    let others : AllByRecursion P (out.before ++ out.after) = all-append P out.before out.after (all_front P out.before (q ∷ out.after) all) back.1 in
    let mine = back.0 in
    let alone : begun s (out.before ++ out.after) ≡ 0 = (
    let a = ap (begun s) out.was ∙ total-append (way_starts s) out.before (q ∷ out.after) in
    let b = total-append (way_starts s) out.before out.after in
    let d = begins s q mine.some out.start in
    let e = is.left.once s in omega arith) in
    let apart = none_begins m c.sinks (is_sink s) s todo (out.before ++ out.after) alone others in
    let R : List Way → Type 0 = AllByRecursion (IsParked m c.sinks nothing todo) in
    record {
      left = closed_left m old new c s parked (q ∷ later) todo is none has (λ join. absurd (sound.apart s sort join)) (moved m s q parked later out);
      waiting = subst R (sym out.is) (all_elsewhere m c.sinks s todo (out.before ++ out.after) apart others);
      way = record { some = mine.some; legs = mine.legs };
      behind = mine.behind;
    }
