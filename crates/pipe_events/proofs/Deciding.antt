-- The tests of events decide what events ask.
use Rattle.std.proofs.Common.{◌≡◌, ◌≢◌, ℕ, ◌+◌, ◌-◌, ◌<◌, ◌≤◌, Bool, true, false, ◌&&◌, eqb, length, List, [], ◌∷◌, refl, subst, arith, Some, None, Option}
use Rattle.std.specs.Prelude.{not, nat_le}
use Rattle.std.specs.List.{list_any}
use Rattle.std.specs.Bool.{Decides}
use Rattle.std.proofs.lemmas.Bool.{leb-true, le-leb}
use Rattle.std.proofs.lemmas.Bool.Decides.{Decides-eqb, Decides-ltb, Decides-and, Decides-like, Decides-below_and}
use Rattle.pipe_events.specs.Stages.{Key, JoinStage, Stage, Stages, Scan, Each, Union, Sort, Joined, reaches, marks, flushes}
use Rattle.pipe_events.specs.Worlds.{World, Event, Take, Mark, Emit, Done, Close, Flush, Side, OfSort, OfBuild, OfProbe, side_below, mine, source_rows, seen, owes_mark, at_join, after, count, IsReady, ChainBuilt, IsSpent, MayTake, MayMark, MayEmit, MayDo, MayClose, MayFlush, Allowed}
use Rattle.pipe_events.specs.Schedules.{AllAllowed, IsComplete}
use Rattle.pipe_events.specs.Decided.{all_below, stands_in, is_nil, implies, if_some, is_ready, is_closed, sides_closed, all_joins, chain_built, is_spent, may_close, may_flush, is_allowed, all_allowed, is_complete, EventsAreDecided, ListsAreDecided, CompletenessIsDecided}
use Rattle.pipe_events.proofs.Tests.{any-some, any-none, any-from_some}

itself : (b : Bool) → Decides b (b ≡ true)
itself b = (λ e. e, λ e. e)

not_it : (b : Bool) → Decides (not b) (b ≡ false)
not_it true = (λ e. cc, λ e. cc)
not_it false = (λ e. refl, λ e. refl)

is_leb : (a b : ℕ) → Decides (nat_le a b) (a ≤ b)
is_leb a b = (leb-true a b, le-leb a b)

implied : {A P : Type 0} → (a b : Bool) → Decides a A → Decides b P → Decides (implies a b) (A → P)
implied true b d e = (λ t _. e.0 t, λ f. e.1 (f (d.0 refl)))
implied false b d e = (λ _ x. (let t : false ≡ true = d.1 x in cc), λ _. refl)

each_below : (test : ℕ → Bool) (P : ℕ → Type 0) → ((k : ℕ) → Decides (test k) (P k)) → (n : ℕ) → Decides (all_below test n) ((k : ℕ) → k < n → P k)
each_below test P each n = Decides-below_and test P (all_below test) each refl (λ _. refl) n

stands : (ps : List ℕ) (p : ℕ) → Decides (stands_in ps p) (1 ≤ count p ps)
stands ps p = (any-some (λ q. eqb q p) ps, any-from_some (λ q. eqb q p) ps)

stands_not : (ps : List ℕ) (p : ℕ) → Decides (not (stands_in ps p)) (count p ps ≡ 0)
stands_not ps p =
    Decides-like (not (stands_in ps p)) (any-none (λ q. eqb q p) ps)
    (λ none. elim (stands_in ps p) as (λ b. stands_in ps p ≡ b → b ≡ false) [ true ↦ λ e. (let some = any-some (λ q. eqb q p) ps e in absurd (omega arith)) | false ↦ λ _. refl ] refl)
    (not_it (stands_in ps p))

nil : {X : Type 0} (xs : List X) → Decides (is_nil xs) (xs ≡ [])
nil [] = (λ _. refl, λ _. refl)
nil (x ∷ xs) = (λ e. cc, λ e. cc)

not_nil : {X : Type 0} (xs : List X) → Decides (not (is_nil xs)) (xs ≢ [])
not_nil [] = (λ e. cc, λ e. absurd (e refl))
not_nil (x ∷ xs) = (λ _ e. cc, λ _. refl)

ready : (closed : ℕ → Bool) (x : Stage) → Decides (is_ready closed x) (IsReady closed x)
ready closed (Scan rows) = (λ _. tt, λ _. refl)
ready closed (Each i op) = (λ e. cc, λ e. absurd e)
ready closed (Union is) = (λ e. cc, λ e. absurd e)
ready closed (Sort i sorted) = itself (closed i)
ready closed (Joined j) = (λ e. cc, λ e. absurd e)

-- at the join of a node, if it is one
where_join : (P : JoinStage → Type 0) (test : JoinStage → Bool) → ((j : JoinStage) → Decides (test j) (P j)) → (x : Stage) → Decides (at_join true test x) ((j : JoinStage) → x ≡ Joined j → P j)
where_join P test each (Scan rows) = (λ _ j e. cc, λ _. refl)
where_join P test each (Each i op) = (λ _ j e. cc, λ _. refl)
where_join P test each (Union is) = (λ _ j e. cc, λ _. refl)
where_join P test each (Sort i sorted) = (λ _ j e. cc, λ _. refl)
where_join P test each (Joined k) = (λ e j same. (let is : k ≡ j = cc in subst P is ((each k).0 e)), λ f. (each k).1 (f k refl))

some_join : (P : JoinStage → Type 0) (test : JoinStage → Bool) → ((j : JoinStage) → Decides (test j) (P j)) → (x : Stage) → Decides (at_join false test x) ((j : JoinStage) × (x ≡ Joined j) × P j)
some_join P test each (Scan rows) = (λ e. cc, λ h. (let e = h.1 in cc))
some_join P test each (Each i op) = (λ e. cc, λ h. (let e = h.1 in cc))
some_join P test each (Union is) = (λ e. cc, λ h. (let e = h.1 in cc))
some_join P test each (Sort i sorted) = (λ e. cc, λ h. (let e = h.1 in cc))
some_join P test each (Joined k) = (λ e. (k, refl, (each k).0 e), λ h. (let same = h.1 in let is : h.0 ≡ k = cc in (each k).1 (subst P is h.2)))

some_side : (P : ℕ → Type 0) (test : ℕ → Bool) → ((t : ℕ) → Decides (test t) (P t)) → (o : Option ℕ) → Decides (if_some test o) ((t : ℕ) × (o ≡ Some t) × P t)
some_side P test each None = (λ e. cc, λ h. (let e = h.1 in cc))
some_side P test each (Some k) = (λ e. (k, refl, (each k).0 e), λ h. (let same = h.1 in let is : h.0 ≡ k = cc in (each k).1 (subst P is h.2)))

closed_side : (w : World) (o : Option ℕ) → Decides (is_closed w o) ((t : ℕ) → o ≡ Some t → w.closed t ≡ true)
closed_side w None = (λ _ t e. cc, λ _. refl)
closed_side w (Some k) = (λ e t same. (let is : k ≡ t = cc in subst (λ i. w.closed i ≡ true) is e), λ f. f k refl)

all_sides : (w : World) (x : Stage) → Decides (sides_closed w x) ((side : Side) (t : ℕ) → side_below x side ≡ Some t → w.closed t ≡ true)
all_sides w x =
    Decides-like (sides_closed w x)
    (λ h side. elim side as (λ s. (t : ℕ) → side_below x s ≡ Some t → w.closed t ≡ true) [ OfSort ↦ h.0 | OfBuild ↦ h.1.0 | OfProbe ↦ h.1.1 ])
    (λ h. (h OfSort, (h OfBuild, h OfProbe)))
    (Decides-and _ _ (closed_side w (side_below x OfSort)) (Decides-and _ _ (closed_side w (side_below x OfBuild)) (closed_side w (side_below x OfProbe))))

module _ (plan : Stages) where
  every_join : (P : ℕ → JoinStage → Type 0) (test : ℕ → JoinStage → Bool) → ((k : ℕ) (j : JoinStage) → Decides (test k j) (P k j)) → Decides (all_joins plan test) ((k : ℕ) (j : JoinStage) → k < plan.size → plan.stage k ≡ Joined j → P k j)
  every_join P test each =
      Decides-like (all_joins plan test) (λ h k j lt is. h k lt j is) (λ h k lt j is. h k j lt is)
      (each_below (λ k. at_join true (test k) (plan.stage k)) (λ k. (j : JoinStage) → plan.stage k ≡ Joined j → P k j) (λ k. where_join (P k) (test k) (each k) (plan.stage k)) plan.size)

  chain : (closed : ℕ → Bool) (n : ℕ) → Decides (chain_built plan closed n) (ChainBuilt plan closed n)
  chain closed n = every_join (λ k j. reaches plan n j.probe ≡ true → closed j.build ≡ true) (λ k j. implies (reaches plan n j.probe) (closed j.build)) (λ k j. implied _ _ (itself (reaches plan n j.probe)) (itself (closed j.build)))

  spent : (w : World) (n : ℕ) (x : Stage) → Decides (is_spent plan w n x) (IsSpent plan w n x)
  spent w n (Scan rows) = each_below (stands_in (w.taken n)) (λ p. 1 ≤ count p (w.taken n)) (stands (w.taken n)) (length rows)
  spent w n (Each i op) = (λ _. tt, λ _. refl)
  spent w n (Union is) = (λ _. tt, λ _. refl)
  spent w n (Sort i sorted) = Decides-and _ _ (itself (w.closed i)) (each_below (stands_in (w.taken n)) (λ p. 1 ≤ count p (w.taken n)) (stands (w.taken n)) (length (sorted (w.bag i))))
  spent w n (Joined j) = implied _ _ (itself (flushes j)) (each_below (stands_in (w.flushed n)) (λ p. 1 ≤ count p (w.flushed n)) (stands (w.flushed n)) plan.parts)

  spent_below : (w : World) (t : ℕ) → Decides (all_below (λ m. implies (reaches plan m t) (is_spent plan w m (plan.stage m))) plan.size) ((m : ℕ) → m < plan.size → reaches plan m t ≡ true → IsSpent plan w m (plan.stage m))
  spent_below w t = each_below (λ m. implies (reaches plan m t) (is_spent plan w m (plan.stage m))) (λ m. reaches plan m t ≡ true → IsSpent plan w m (plan.stage m)) (λ m. implied _ _ (itself (reaches plan m t)) (spent w m (plan.stage m))) plan.size

  fresh_from : (taken : List ℕ) (from amount : ℕ) → Decides (all_below (λ i. not (stands_in taken (from + i))) amount) ((p : ℕ) → from ≤ p → p < from + amount → count p taken ≡ 0)
  fresh_from taken from amount =
      Decides-like _
      (λ h p lo hi. (let gap : from + (p - from) ≡ p = omega arith in subst (λ q. count q taken ≡ 0) gap (h (p - from) (omega arith))))
      (λ h i lt. h (from + i) (omega arith) (omega arith))
      (each_below (λ i. not (stands_in taken (from + i))) (λ i. count (from + i) taken ≡ 0) (λ i. stands_not taken (from + i)) amount)

  -- ---- each event

  takes : (w : World) (worker s from amount : ℕ) → Decides (is_allowed plan w (Take worker s from amount)) (MayTake plan w worker s from amount)
  takes w worker s from amount =
      Decides-like _
      (λ h. record { is_worker = h.0; idle = h.1.0; inside = h.1.1.0; some = h.1.1.1.0.0; is_ready = h.1.1.1.0.1.0; there = h.1.1.1.0.1.1.0; fresh = h.1.1.1.0.1.1.1; built = h.1.1.1.1 })
      (λ m. (m.is_worker, (m.idle, (m.inside, ((m.some, (m.is_ready, (m.there, m.fresh))), m.built)))))
      (Decides-and _ _ (Decides-ltb worker plan.workers)
      (Decides-and _ _ (nil (mine worker w.pending))
      (Decides-and _ _ (Decides-ltb s plan.size)
      (Decides-and _ _
      (Decides-and _ _ (is_leb 1 amount)
      (Decides-and _ _ (ready w.closed (plan.stage s))
      (Decides-and _ _ (is_leb (from + amount) (length (source_rows w.bag (plan.stage s)))) (fresh_from (w.taken s) from amount))))
      (chain w.closed s)))))

  marks_key : (w : World) (worker k : ℕ) (key : Key) → Decides (is_allowed plan w (Mark worker k key)) (MayMark plan w worker k key)
  marks_key w worker k key =
      Decides-like _
      (λ h. record { is_worker = h.0; inside = h.1.0; join = h.1.1.0; is_join = h.1.1.1; marking = h.1.1.2.0; matched = h.1.1.2.1 })
      (λ m. (m.is_worker, (m.inside, (m.join, m.is_join, (m.marking, m.matched)))))
      (Decides-and _ _ (Decides-ltb worker plan.workers)
      (Decides-and _ _ (Decides-ltb k plan.size)
      (some_join (λ j. (marks j ≡ true) × (seen plan worker w j key ≡ true)) (λ j. marks j && seen plan worker w j key) (λ j. Decides-and _ _ (itself (marks j)) (itself (seen plan worker w j key))) (plan.stage k))))

  emits : (w : World) (worker : ℕ) → Decides (is_allowed plan w (Emit worker)) (MayEmit plan w worker)
  emits w worker =
      Decides-like _
      (λ h. record { is_worker = h.0; busy = h.1.0; marked = h.1.1 })
      (λ m. (m.is_worker, (m.busy, m.marked)))
      (Decides-and _ _ (Decides-ltb worker plan.workers)
      (Decides-and _ _ (not_nil (mine worker w.pending))
      (every_join (λ k j. marks j ≡ true → owes_mark plan worker w k j ≡ false) (λ k j. implies (marks j) (not (owes_mark plan worker w k j))) (λ k j. implied _ _ (itself (marks j)) (not_it (owes_mark plan worker w k j))))))

  does : (w : World) (worker : ℕ) → Decides (is_allowed plan w (Done worker)) (MayDo plan w worker)
  does w worker =
      Decides-like _ (λ h. record { is_worker = h.0; busy = h.1 }) (λ m. (m.is_worker, m.busy))
      (Decides-and _ _ (Decides-ltb worker plan.workers) (not_nil (mine worker w.pending)))

  closes : (w : World) (n : ℕ) (side : Side) → Decides (is_allowed plan w (Close n side)) ((t : ℕ) × MayClose plan w n side t)
  closes w n side =
      Decides-like _
      (λ h. (h.1.0, record { inside = h.0; is_side = h.1.1; still_open = h.1.2.0; spent = h.1.2.1.0.0; idle = h.1.2.1.0.1; built = h.1.2.1.1 }))
      (λ m. (m.1.inside, (m.0, m.1.is_side, (m.1.still_open, ((m.1.spent, m.1.idle), m.1.built)))))
      (Decides-and _ _ (Decides-ltb n plan.size) (some_side _ (may_close plan w) (λ t.
      Decides-and _ _ (not_it (w.closed t))
      (Decides-and _ _ (Decides-and _ _ (spent_below w t) (not_it (list_any (λ load. reaches plan load.node t) w.pending)))
      (every_join (λ k j. j.probe ≡ t → w.closed j.build ≡ true) (λ k j. implies (eqb j.probe t) (w.closed j.build)) (λ k j. implied _ _ (Decides-eqb j.probe t) (itself (w.closed j.build))))))
      (side_below (plan.stage n) side)))

  flushes_part : (w : World) (worker k p : ℕ) → Decides (is_allowed plan w (Flush worker k p)) (MayFlush plan w worker k p)
  flushes_part w worker k p =
      Decides-like _
      (λ h. record { is_worker = h.0; idle = h.1.0; inside = h.1.1.0; join = h.1.1.1.0; is_join = h.1.1.1.1; flushing = h.1.1.1.2.0; probed = h.1.1.1.2.1.0; part = h.1.1.1.2.1.1.0; fresh = h.1.1.1.2.1.1.1.0; built = h.1.1.1.2.1.1.1.1 })
      (λ m. (m.is_worker, (m.idle, (m.inside, (m.join, m.is_join, (m.flushing, (m.probed, (m.part, (m.fresh, m.built)))))))))
      (Decides-and _ _ (Decides-ltb worker plan.workers)
      (Decides-and _ _ (nil (mine worker w.pending))
      (Decides-and _ _ (Decides-ltb k plan.size)
      (some_join _ (may_flush plan w k p) (λ j.
      Decides-and _ _ (itself (flushes j))
      (Decides-and _ _ (itself (w.closed j.probe))
      (Decides-and _ _ (Decides-ltb p plan.parts)
      (Decides-and _ _ (stands_not (w.flushed k) p) (chain w.closed k)))))
      (plan.stage k)))))

  event : (w : World) (e : Event) → Decides (is_allowed plan w e) (Allowed plan w e)
  event w (Take worker s from amount) = takes w worker s from amount
  event w (Mark worker k key) = marks_key w worker k key
  event w (Emit worker) = emits w worker
  event w (Done worker) = does w worker
  event w (Close n side) = closes w n side
  event w (Flush worker k p) = flushes_part w worker k p

  list : (w : World) (es : List Event) → Decides (all_allowed plan w es) (AllAllowed plan w es)
  list w [] = (λ _. tt, λ _. refl)
  list w (e ∷ es) = Decides-and _ _ (event w e) (list (after plan w e) es)

  complete : (w : World) → Decides (is_complete plan w) (IsComplete plan w)
  complete w =
      Decides-like _
      (λ h. record { spent = h.0; nothing_pending = h.1.0; all_closed = λ n side t lt is. h.1.1 n lt side t is })
      (λ m. (m.spent, (m.nothing_pending, λ n lt side t is. m.all_closed n side t lt is)))
      (Decides-and _ _ (each_below (λ n. is_spent plan w n (plan.stage n)) (λ n. IsSpent plan w n (plan.stage n)) (λ n. spent w n (plan.stage n)) plan.size)
      (Decides-and _ _ (nil w.pending)
      (each_below (λ n. sides_closed w (plan.stage n)) (λ n. (side : Side) (t : ℕ) → side_below (plan.stage n) side ≡ Some t → w.closed t ≡ true) (λ n. all_sides w (plan.stage n)) plan.size)))

pub events_decided : EventsAreDecided
events_decided = event

pub lists_decided : ListsAreDecided
lists_decided = list

pub completeness_decided : CompletenessIsDecided
completeness_decided = complete
