-- The rows of a leg were taken.
use Rattle.std.proofs.Common.{◌≡◌, ℕ, ◌+◌, ◌<◌, Bool, true, false, ◌||◌, ◌==◌, List, ◌∷◌, ◌++◌, refl, ap, sym, ◌∙◌, arith}
use Rattle.pipe_schema.specs.Rows.{Row}
use Rattle.pipe_events.specs.Stages.{Stage, Scan, Each, Union, Sort, Joined}
use Rattle.pipe_events.specs.Worlds.{Event, Side}
use Rattle.pipe_events.proofs.Members.{mem, or_right}
use Rattle.pipe_events.proofs.Flows.{supplies}
use Rattle.pipe_events.proofs.Steps.{adds, or_none, Knows, BuiltAbove, SortedBelow}
use Rattle.pipe_events.proofs.Going.{untrue}
use Rattle.pipe_driver.specs.Meaning.{Meaning}
use Rattle.pipe_driver.specs.Legs.{Leg, Way}
use Rattle.pipe_driver.specs.Ways.{one, occurs, starts, way_starts, AreLegs}
use Rattle.pipe_driver.proofs.Tests.{by_test, eq-is, eq-true, not-both}
use Rattle.pipe_driver.specs.State.{World, Counts, Waits, Has, Slot, IsBuilt, IsReady, HasTail, nothing}
use Rattle.pipe_driver.proofs.Sums.{no_more}
use Rattle.pipe_driver.proofs.LegPasses.{leg_there, leg_tables}
use Rattle.pipe_driver.specs.Boards.{Board, held_at, IsBoard}
use Rattle.pipe_driver.specs.Recorded.{begun_in, left_at, was_run, is_shut, IsNoted, IsSorted}
use Rattle.pipe_driver.specs.Written.{IsLegOf}
use Rattle.pipe_driver.proofs.Known.{knows, recorded, alike, take_sources}
use Rattle.pipe_driver.proofs.Counts.{later_begun}
use Rattle.pipe_driver.proofs.Boards.{unrun_as, on_leg, source_there, held_once, held_from, held_no_join, sort_own, held}

-- a slot that waits has no table
no_table : (s : Slot) (table : List Row) → s ≡ Waits → s ≡ Has table → ⊥
no_table s table waits has = (let e : Waits ≡ Has table = sym waits ∙ has in cc)

-- where the table of a join is there, no leg feeds it
pub built_none : (m : Meaning) (c : Counts) (j : ℕ) (slot : Slot) → (0 < c.sinks j → slot ≡ Waits) → IsBuilt m j slot → c.sinks j ≡ 0
built_none m c j slot empty is = no_more (c.sinks j) (λ some. no_table slot is.table (empty some) is.is)

module _ (b : Board) (w : World) (c : Counts) (p : Way) (leg : Leg) (legs : List Leg) (parked later todo : List Way) (events more : List Event)
    (ok : IsBoard b) (ready : IsReady b.m w c p parked todo) (sorted : IsSorted b.m c p) (first : p.legs ≡ leg ∷ legs) (tail : HasTail leg.sink legs parked later)
    (noted : IsNoted b c nothing (p ∷ parked) todo events) (wrote : IsLegOf b p.start more) where
  abbrev x : ℕ
  x = p.start

  abbrev ran : ℕ → Bool
  ran = was_run b c (p ∷ parked) todo

  abbrev ran_now : ℕ → Bool
  ran_now = was_run b c later todo

  abbrev shut : ℕ → Side → Bool
  shut = is_shut c nothing

  abbrev ns : List ℕ
  ns = held_at b x

  are : AreLegs b.m x (leg ∷ legs)
  are = leg_there b.m w c p leg legs parked todo ready first

  begun_was : (n : ℕ) → begun_in (p ∷ parked) todo n ≡ one (x == n) + begun_in later todo n
  begun_was n =
      let e : way_starts n p ≡ starts n x (leg ∷ legs) = ap (starts n x) first in
      let l = later_begun leg.sink legs parked later n tail in
      omega (arith, e, l)

  -- the leg that begins there is one, and the last
  begun_once : begun_in later todo x ≡ 0
  begun_once =
      let self : one (x == x) ≡ 1 = ap one (eq-true x x refl) in
      let was = begun_was x in
      let few = ready.left.once x in
      omega (arith, self, was, few)

  built : (n : ℕ) → mem n ns ≡ true → BuiltAbove b.stages ran shut n
  built n e k j lt is r =
      let on : 0 < occurs k (b.m.above (b.source_of n)) = on_leg b ok n k j lt is r in
      let here : occurs k leg.operators ≡ occurs k (b.m.above (b.source_of n)) = ap (occurs k) (are.0.chain ∙ ap b.m.above (sym (held_from b ok x n e))) in
      let table = leg_tables b.m w c p leg legs parked todo ok.sound ready first k (omega (arith, on, here)) (ok.join k (record { join = j; is = is })) in
      eq-true (c.sinks k) 0 (built_none b.m c k (w.slot k) (ready.left.empty k) table)

  sorted_below : (n : ℕ) → mem n ns ≡ true → SortedBelow b.stages ran shut n
  sorted_below n e input by is =
      let same : x ≡ n = sym (held_from b ok x n e) ∙ sort_own b ok n input by is in
      let sort_x : b.m.is_sort x ≡ true = ap b.m.is_sort same ∙ ok.sort n (record { input = input; sorted = by; is = is }) in
      eq-true (c.sinks n) 0 (ap c.sinks (sym same) ∙ sorted sort_x)

  fresh : (n : ℕ) → mem n ns ≡ true → supplies (b.stages.stage n) ≡ true → ran n ≡ false
  fresh n e s =
      let from = held_from b ok x n e in
      let self : one (x == b.source_of n) ≡ 1 = ap one (eq-true x (b.source_of n) (sym from)) in
      let was = begun_was (b.source_of n) in
      unrun_as b c (begun_in (p ∷ parked) todo) n (b.stages.stage n) s (omega (arith, self, was))

  took : Knows b.stages (adds ran ns) shut (events ++ more)
  took =
      take_sources b.stages ok.ok shut ns ran events more (knows b.stages ran shut events noted.recorded) wrote
      (λ n e s. source_there b ok n s) built sorted_below fresh (λ n j e is. absurd (held_no_join b ok x n j e is)) (held_once b ok x)

  -- ---- what was run

  ran_as : (n : ℕ) (s : Stage) → b.stages.stage n ≡ s → ran n ≡ (left_at b c (begun_in (p ∷ parked) todo) n s == 0)
  ran_as n s is = ap (λ t. left_at b c (begun_in (p ∷ parked) todo) n t == 0) is

  now_as : (n : ℕ) (s : Stage) → b.stages.stage n ≡ s → ran_now n ≡ (left_at b c (begun_in later todo) n s == 0)
  now_as n s is = ap (λ t. left_at b c (begun_in later todo) n t == 0) is

  true_or : (a d : Bool) → a ≡ true → (a || d) ≡ true
  true_or true d e = refl
  true_or false d e = cc

  same_source : (n : ℕ) → supplies (b.stages.stage n) ≡ true → (ran n ≡ (begun_in (p ∷ parked) todo (b.source_of n) == 0)) → (ran_now n ≡ (begun_in later todo (b.source_of n) == 0)) → adds ran ns n ≡ ran_now n
  same_source n s old new =
      by_test (adds ran ns n ≡ ran_now n) (b.source_of n == x)
      (λ e.
      let from = eq-is (b.source_of n) x e in
      let in_it : mem n ns ≡ true = held b ok x n s from in
      let none : begun_in later todo (b.source_of n) ≡ 0 = ap (begun_in later todo) from ∙ begun_once in
      or_right (ran n) (mem n ns) in_it ∙ sym (new ∙ eq-true (begun_in later todo (b.source_of n)) 0 none))
      (λ e.
      let out : mem n ns ≡ false = untrue (mem n ns) (λ it. not-both (b.source_of n == x) (eq-true (b.source_of n) x (held_from b ok x n it)) e) in
      let apart : one (x == b.source_of n) ≡ 0 = by_test (one (x == b.source_of n) ≡ 0) (x == b.source_of n) (λ yes. absurd (not-both (b.source_of n == x) (eq-true (b.source_of n) x (sym (eq-is x (b.source_of n) yes))) e)) (λ no. ap one no) in
      let was = begun_was (b.source_of n) in
      let same : begun_in (p ∷ parked) todo (b.source_of n) ≡ begun_in later todo (b.source_of n) = omega (arith, was, apart) in
      or_none (ran n) (mem n ns) out ∙ old ∙ ap (λ k. k == 0) same ∙ sym new)

  same_run : (n : ℕ) (s : Stage) → b.stages.stage n ≡ s → adds ran ns n ≡ ran_now n
  same_run n (Scan rows) is = same_source n (ap supplies is) (ran_as n (Scan rows) is) (now_as n (Scan rows) is)
  same_run n (Each input op) is = true_or (ran n) (mem n ns) (ran_as n (Each input op) is) ∙ sym (now_as n (Each input op) is)
  same_run n (Union inputs) is = true_or (ran n) (mem n ns) (ran_as n (Union inputs) is) ∙ sym (now_as n (Union inputs) is)
  same_run n (Sort input by) is = same_source n (ap supplies is) (ran_as n (Sort input by) is) (now_as n (Sort input by) is)
  same_run n (Joined j) is =
      or_none (ran n) (mem n ns) (untrue (mem n ns) (λ e. held_no_join b ok x n j e is)) ∙ ran_as n (Joined j) is ∙ sym (now_as n (Joined j) is)

  sorts_wait : (n : ℕ) → b.m.is_sort n ≡ true → 0 < c.sinks n → 0 < begun_in later todo n
  sorts_wait n sort some =
      let was = begun_was n in
      let l = noted.sorts n sort some in
      by_test (0 < begun_in later todo n) (x == n)
      (λ e. (let same = eq-is x n e in let none : c.sinks n ≡ 0 = ap c.sinks (sym same) ∙ sorted (ap b.m.is_sort same ∙ sort) in absurd (omega (arith, none, some))))
      (λ e. (let none : one (x == n) ≡ 0 = ap one e in omega (arith, was, l, none)))

  pub leg_noted : IsNoted b c nothing later todo (events ++ more)
  leg_noted = record {
    recorded = alike b.stages (adds ran ns) ran_now shut shut (λ n. same_run n (b.stages.stage n) refl) (λ n side t is. refl) (events ++ more) (recorded b.stages (adds ran ns) shut (events ++ more) took);
    sorts = sorts_wait;
    joins = noted.joins;
    fresh = noted.fresh;
  }
