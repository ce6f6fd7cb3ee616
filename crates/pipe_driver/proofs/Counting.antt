-- A leg is counted at each node that it went through, the last one closes a join, and at last at its sink.
use Rattle.std.proofs.Common.{◌≡◌, ℕ, ◌+◌, ◌<◌, ◌≤◌, List, [], ◌∷◌, ◌++◌, refl, sym, ap, subst, ◌∙◌, arith, ◌==◌, Bool, true, false, inl, inr, cond}
use Rattle.std.specs.List.{AllByRecursion}
use Rattle.pipe_schema.specs.Rows.{Row}
use Rattle.pipe_schema.specs.Weights.{total}
use Rattle.pipe_schema.proofs.Weights.{SameBag, total-append}
use Rattle.pipe_driver.specs.Meaning.{Meaning, Place, OutOf, Into, from, due}
use Rattle.pipe_driver.specs.Legs.{Way}
use Rattle.pipe_driver.specs.Ways.{one, occurs, feeds, passes, brought, own_brings, AreLegs, IsWay, IsSoundMeaning}
use Rattle.pipe_driver.proofs.Tests.{by_test, eq-is, eq-true, eq-false, eq-not, some-left, all-map}
use Rattle.pipe_driver.proofs.Totals.{comes_add, comes_none, comes_same}
use Rattle.pipe_driver.specs.State.{World, Counts, IsOpen, pending, gained_brings, spread, Slot, Waits, spent, spent_at, IsBuilt, IsParked, IsFed, IsPassing, AreAlike, HasSettled, IsLowered, is_sink}
use Rattle.pipe_driver.proofs.Sums.{split4, brought_into_none, from_into_none, out_none, brought_out_none, pending_fewer, pending_apart, pending_last, pending_nil, pending_more, within_ops, within_ways}

legs_parked : (m : Meaning) (sinks : ℕ → ℕ) (but : ℕ → Bool) (todo qs : List Way) → AllByRecursion (IsParked m sinks but todo) qs → AllByRecursion (λ p. AreLegs m p.start p.legs) qs
legs_parked m sinks but todo [] are = tt
legs_parked m sinks but todo (q ∷ qs) are = (are.0.legs, legs_parked m sinks but todo qs are.1)

legs_todo : (m : Meaning) (ps : List Way) → AllByRecursion (IsWay m) ps → AllByRecursion (λ p. AreLegs m p.start p.legs) ps
legs_todo m [] are = tt
legs_todo m (p ∷ ps) are = (are.0.legs, legs_todo m ps are.1)

-- the counts of a leg that is counted at a node
counted_at : (old new : ℕ → ℕ) (op : ℕ) (now : List ℕ) (parked todo : List Way) → ((k : ℕ) → old k ≡ occurs k (op ∷ now) + (passes k parked + passes k todo)) → IsLowered op old new → (k : ℕ) → new k ≡ occurs k now + (passes k parked + passes k todo)
counted_at old new op now parked todo is low k =
    by_test (new k ≡ occurs k now + (passes k parked + passes k todo)) (k == op)
    (λ e. (let same = eq-is k op e in
    let a = is k in
    let t : one (op == k) ≡ 1 = ap one (eq-true op k (sym same)) in
    let h : old k ≡ new k + 1 = ap old same ∙ low.here ∙ ap (λ n. new n + 1) (sym same) in omega arith))
    (λ e. (let ne = eq-not k op e in
    let a = is k in
    let t : one (op == k) ≡ 0 = ap one (eq-false op k (λ f. ne (sym f))) in
    let h = low.others k ne in omega arith))

still_open : (m : Meaning) (c : Counts) (probers : ℕ → ℕ) (x : Place) → IsOpen m (record { sinks = c.sinks; probers = probers }) x → IsOpen m c x
still_open m c probers (OutOf t) h = h
still_open m c probers (Into s) h = h

-- ---- a node that other legs still go through

pub stays : (m : Meaning) (w : World) (c : Counts) (probers : ℕ → ℕ) (op : ℕ) (now : List ℕ) (s : ℕ) (parked todo : List Way) → IsPassing m w c (op ∷ now) s parked todo → IsLowered op c.probers probers → 0 < probers op
    → IsPassing m w (record { sinks = c.sinks; probers = probers }) now s parked todo
stays m w c probers op now s parked todo is low some =
    let pend : (f : ℕ → List Row) → pending probers f m.joins ≡ pending c.probers f m.joins = λ f. pending_fewer c.probers probers f m.joins op (let h = low.here in omega arith) some low.others in
    record {
      left = record {
        sinks = is.left.sinks;
        probers = counted_at c.probers probers op now parked todo is.left.probers low;
        rows = λ x open_there. record {
          sums = λ f. (
              let was = (is.left.rows x (still_open m c probers x open_there)).sums f in
              let e1 = split4 f (w.there x) (brought m x parked) (brought m x todo) (pending probers (own_brings m x) m.joins) in
              let e2 = split4 f (w.there x) (brought m x parked) (brought m x todo) (pending c.probers (own_brings m x) m.joins) in
              let a = ap (total f) (pend (own_brings m x)) in
              let b = ap (total f) (pend (gained_brings m w x)) in
              let r1 = total-append f (due m x) (pending probers (gained_brings m w x) m.joins) in
              let r2 = total-append f (due m x) (pending c.probers (gained_brings m w x) m.joins) in
              omega arith);
        };
        empty = is.left.empty;
        built = is.left.built;
        once = is.left.once;
        ways = is.left.ways;
        order = is.left.order;
      };
      waiting = is.waiting;
      alike = is.alike.2;
      tables = λ j more join. is.tables j (omega arith) join;
    }

-- ---- the last leg that goes through a node

-- no join that some leg still goes through has the node on its chain, where no leg goes through that
none_behind : (m : Meaning) (c : Counts) (j : ℕ) (now : List ℕ) (s : ℕ) (parked todo : List Way) (but : ℕ → Bool) → IsSoundMeaning m → AreAlike m s now → AllByRecursion (IsParked m c.sinks but todo) parked → AllByRecursion (IsWay m) todo
    → occurs j now + (passes j parked + passes j todo) ≡ 0 → (i : ℕ) → 0 < occurs i now + (passes i parked + passes i todo) → occurs j (m.above i) ≡ 0
none_behind m c j now s parked todo but sound alike waiting ways none i some =
    elim (some-left (occurs i now)) [
      | inr l ↦ (let k = (within_ops m i j s now alike l).few in omega arith)
      | inl z ↦ elim (some-left (passes i parked)) [
        | inr l ↦ (let k = (within_ways m i j parked sound (legs_parked m c.sinks but todo parked waiting) l).few in omega arith)
        | inl y ↦ (let k = (within_ways m i j todo sound (legs_todo m todo ways) (omega arith)).few in omega arith)
      ]
    ]

-- what came out of the probe side of a join is all that has to come out of it, once no leg goes through the join
pub seen_all : (m : Meaning) (w : World) (c : Counts) (j : ℕ) (now : List ℕ) (s : ℕ) (parked todo : List Way) → IsSoundMeaning m → IsPassing m w c (j ∷ now) s parked todo → m.is_join j ≡ true → c.probers j ≡ 1 → SameBag (w.there (OutOf (m.probed j))) (m.rows (m.probed j))
seen_all m w c j now s parked todo sound is join last = record {
  sums = λ f. (
      let x = OutOf (m.probed j) in
      let p = is.left.probers j in
      let t : one (j == j) ≡ 1 = ap one (eq-true j j refl) in
      let zero_now : occurs j now + (passes j parked + passes j todo) ≡ 0 = omega arith in
      let was = (is.left.rows x (sound.run j join)).sums f in
      let own = pending c.probers (own_brings m x) m.joins in
      let e = split4 f (w.there x) (brought m x parked) (brought m x todo) own in
      let n1 = brought_out_none f m j parked sound join (legs_parked m c.sinks (is_sink s) todo parked is.waiting) (omega arith) in
      let n2 = brought_out_none f m j todo sound join (legs_todo m todo is.left.ways) (omega arith) in
      let none : (i : ℕ) (bag : List Row) → 0 < c.probers i → total f (from m x i bag) ≡ 0 = λ i bag some. out_none f m j i (m.above i) (m.above_sink i) bag sound join refl (
      by_test (occurs j (m.above i) ≡ 0) (i == j)
      (λ q. (let a : m.above i ≡ now = ap m.above (eq-is i j q) ∙ is.alike.0 in let b = ap (occurs j) a in omega arith))
      (λ q. none_behind m c j now s parked todo (is_sink s) sound is.alike.2 is.waiting is.left.ways zero_now i
      (let q2 = is.left.probers i in let t2 : one (j == i) ≡ 0 = ap one (eq-false j i (λ g. eq-not i j q (sym g))) in omega arith))) in
      let n3 = pending_nil f c.probers (own_brings m x) m.joins (λ i some. none i (m.own i) some) in
      let n4 = pending_nil f c.probers (gained_brings m w x) m.joins (λ i some. none i (w.gained i) some) in
      let r = total-append f (m.rows (m.probed j)) (pending c.probers (gained_brings m w x) m.joins) in
      omega arith);
}

-- a slot that waits is not spent, and others are as before
pub waits_still : (op k : ℕ) (old new : World) → new.slot ≡ (spent_at op old).slot → old.slot k ≡ Waits → new.slot k ≡ Waits
waits_still op k old new is e =
    ap (λ q. q k) is ∙ by_test (cond (k == op) (spent (old.slot k)) (old.slot k) ≡ Waits) (k == op)
    (λ t. ap (λ b. cond b (spent (old.slot k)) (old.slot k)) t ∙ ap spent e)
    (λ t. ap (λ b. cond b (spent (old.slot k)) (old.slot k)) t ∙ e)

others_still : (op k : ℕ) (old new : World) → new.slot ≡ (spent_at op old).slot → (k ≡ op → ⊥) → new.slot k ≡ old.slot k
others_still op k old new is ne = ap (λ q. q k) is ∙ ap (λ b. cond b (spent (old.slot k)) (old.slot k)) (eq-false k op ne)

-- the node is closed: what a join has of its own went along its chain
pub closes_last : (m : Meaning) (old new : World) (c : Counts) (probers : ℕ → ℕ) (op : ℕ) (now : List ℕ) (s : ℕ) (parked todo : List Way) → IsSoundMeaning m → IsPassing m old c (op ∷ now) s parked todo → IsLowered op c.probers probers → probers op ≡ 0
    → HasSettled m op old new → IsPassing m new (record { sinks = c.sinks; probers = probers }) now s parked todo
closes_last m old new c probers op now s parked todo sound is low none has =
    let flush = has.passed in
    let counts = counted_at c.probers probers op now parked todo is.left.probers low in
    let above : m.above op ≡ now = is.alike.0 in
    let none_more : (j : ℕ) → probers j ≡ 0 → flush.more j ≡ [] = λ j z. flush.only j (let a = counts j in let e = ap (occurs j) above in omega arith) in
    -- what was pending of the join, and is no longer
    let pend : (f : Row → ℕ) (x : Place) → total f (pending c.probers (own_brings m x) m.joins) + total f (pending probers (gained_brings m old x) m.joins)
    ≡ total f (from m x op has.flushed) + total f (pending probers (own_brings m x) m.joins) + total f (pending c.probers (gained_brings m old x) m.joins) = λ f x. (
    let own = comes_same f m.each x op (m.above op) (m.above_sink op) (m.own op) (old.gained op ++ has.flushed) has.own in
    let two = comes_add f m.each x op (m.above op) (m.above_sink op) (old.gained op) has.flushed in
    elim (some-left (occurs op m.joins)) [
      | inl z ↦ (
          let not_join : m.is_join op ≡ false = by_test (m.is_join op ≡ false) (m.is_join op) (λ e. (let l = sound.listed op e in absurd (omega arith))) (λ e. e) in
          let own_none = ap (λ rows. total f (from m x op rows)) (sound.only op not_join) in
          let zero_own = comes_none f m.each x op (m.above op) (m.above_sink op) in
          let a = ap (total f) (pending_apart c.probers probers (own_brings m x) m.joins op z low.others) in
          let b = ap (total f) (pending_apart c.probers probers (gained_brings m old x) m.joins op z low.others) in omega arith)
      | inr l ↦ (
          let once : occurs op m.joins ≡ 1 = (let k = sound.few op in omega arith) in
          let some_old : 0 < c.probers op = (let h = low.here in omega arith) in
          let a = pending_last f c.probers probers (own_brings m x) m.joins op once some_old none low.others in
          let b = pending_last f c.probers probers (gained_brings m old x) m.joins op once some_old none low.others in omega arith)
    ]) in
    record {
      left = record {
        sinks = is.left.sinks;
        probers = counts;
        rows = λ x open_there. record {
          sums = λ f. (
              let was = (is.left.rows x (still_open m c probers x open_there)).sums f in
              let e1 = split4 f (new.there x) (brought m x parked) (brought m x todo) (pending probers (own_brings m x) m.joins) in
              let e2 = split4 f (old.there x) (brought m x parked) (brought m x todo) (pending c.probers (own_brings m x) m.joins) in
              let g = (flush.there x).sums f in
              let g2 = total-append f (old.there x) (from m x op has.flushed ++ spread m x flush.more) in
              let g3 = total-append f (from m x op has.flushed) (spread m x flush.more) in
              let p = pend f x in
              let h = pending_more f m x probers old.gained new.gained flush.more m.joins flush.gained none_more in
              let r1 = total-append f (due m x) (pending c.probers (gained_brings m old x) m.joins) in
              let r2 = total-append f (due m x) (pending probers (gained_brings m new x) m.joins) in
              omega arith);
        };
        empty = λ k lt. waits_still op k old new flush.slot (is.left.empty k lt);
        built = λ k but join some zero_now. (
            let apart : k ≡ op → ⊥ = λ e. (let a = counts k in let b = ap probers e in absurd (omega arith)) in
            let P : Slot → Type 0 = IsBuilt m k in
            subst P (sym (others_still op k old new flush.slot apart)) (is.left.built k but join (omega arith) zero_now));
        once = is.left.once;
        ways = is.left.ways;
        order = is.left.order;
      };
      waiting = is.waiting;
      alike = is.alike.2;
      tables = λ k more join. (
          let apart : k ≡ op → ⊥ = λ e. (let a = counts k in let b = ap probers e in absurd (omega arith)) in
          let P : Slot → Type 0 = IsBuilt m k in
          subst P (sym (others_still op k old new flush.slot apart)) (is.tables k (omega arith) join));
    }

-- ---- the sink

pub counted : (m : Meaning) (w : World) (c : Counts) (sinks : ℕ → ℕ) (s : ℕ) (parked todo : List Way) → IsSoundMeaning m → IsPassing m w c [] s parked todo → IsLowered s c.sinks sinks
    → IsFed m w (record { sinks = sinks; probers = c.probers }) s parked todo
counted m w c sinks s parked todo sound is low =
    let counts : (k : ℕ) → sinks k ≡ feeds k parked + feeds k todo = λ k. by_test (sinks k ≡ feeds k parked + feeds k todo) (k == s)
    (λ e. (let same = eq-is k s e in
    let a : c.sinks k ≡ sinks k + 1 = ap c.sinks same ∙ low.here ∙ ap (λ n. sinks n + 1) (sym same) in
    let t : one (s == k) ≡ 1 = ap one (eq-true s k (sym same)) in
    let q = is.left.sinks k in omega arith))
    (λ e. (let ne = eq-not k s e in
    let a = low.others k ne in
    let t : one (s == k) ≡ 0 = ap one (eq-false s k (λ f. ne (sym f))) in
    let q = is.left.sinks k in omega arith)) in
    let rises : (k : ℕ) → sinks k ≤ c.sinks k = λ k. by_test (sinks k ≤ c.sinks k) (k == s)
    (λ e. (let same = eq-is k s e in let a : c.sinks k ≡ sinks k + 1 = ap c.sinks same ∙ low.here ∙ ap (λ n. sinks n + 1) (sym same) in omega arith))
    (λ e. (let a = low.others k (eq-not k s e) in omega arith)) in
    let was_open : (x : Place) → IsOpen m (record { sinks = sinks; probers = c.probers }) x → IsOpen m c x = elim [ OutOf t ↦ λ h. h | Into k ↦ λ h. (let r = rises k in omega arith) ] in
    let open_s : IsOpen m c (Into s) = (let h = low.here in omega arith) in
    record {
      left = record {
        sinks = λ k. counts k ∙ (omega arith);
        probers = is.left.probers;
        rows = λ x open_there. is.left.rows x (was_open x open_there);
        empty = λ k lt. is.left.empty k (let r = rises k in omega arith);
        built = λ j but join some none. (let ne = eq-not j s but in is.left.built j refl join some (sym (low.others j ne) ∙ none));
        once = is.left.once;
        ways = is.left.ways;
        order = is.left.order;
      };
      waiting = all-map (IsParked m c.sinks (is_sink s) todo) (IsParked m sinks (is_sink s) todo) parked (λ q p. record {
        sort = p.sort;
        waits = λ not. (let a = low.others q.start (eq-not q.start s not) in let b = p.waits not in omega arith);
        some = p.some;
        legs = p.legs;
        behind = p.behind;
      }) is.waiting;
      closed = λ none. record {
        sums = λ f. (
            let x = Into s in
            let was = (is.left.rows x open_s).sums f in
            let own = pending c.probers (own_brings m x) m.joins in
            let e = split4 f (w.there x) (brought m x parked) (brought m x todo) own in
            let z = counts s in
            let n1 = brought_into_none f m s parked (omega arith) in
            let n2 = brought_into_none f m s todo (omega arith) in
            let none_into : (i : ℕ) (bag : List Row) → 0 < c.probers i → total f (from m x i bag) ≡ 0 = λ i bag some. by_test (total f (from m x i bag) ≡ 0) (m.above_sink i == s)
            (λ q. (
            let p = is.left.probers i in
            let sink = eq-is (m.above_sink i) s q in
            elim (some-left (passes i parked)) [
              | inr l ↦ (let t = (within_ways m i i parked sound (legs_parked m c.sinks (is_sink s) todo parked is.waiting) l).sink in let v : feeds (m.above_sink i) parked ≡ feeds s parked = ap (λ y. feeds y parked) sink in absurd (omega arith))
              | inl y ↦ (let t = (within_ways m i i todo sound (legs_todo m todo is.left.ways) (omega arith)).sink in let v : feeds (m.above_sink i) todo ≡ feeds s todo = ap (λ y. feeds y todo) sink in absurd (omega arith))
            ]))
            (λ q. from_into_none f m s i bag q) in
            let n3 = pending_nil f c.probers (own_brings m x) m.joins (λ i some. none_into i (m.own i) some) in
            let n4 = pending_nil f c.probers (gained_brings m w x) m.joins (λ i some. none_into i (w.gained i) some) in
            let r = total-append f (m.below s) (pending c.probers (gained_brings m w x) m.joins) in
            omega arith);
      };
    }
