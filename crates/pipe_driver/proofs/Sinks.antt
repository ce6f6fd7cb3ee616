-- A leg is counted at a node that others still go through, and at its sink; the next branch begins, or a way goes on.
use Rattle.std.proofs.Common.{◌≡◌, ℕ, ◌<◌, Bool, false, cond, ◌==◌, List, ◌∷◌, refl, ap, sym, ◌∙◌, subst, arith}
use Rattle.std.specs.List.{AllByRecursion}
use Rattle.pipe_events.specs.Stages.{Stage, Scan, Each, Union, Sort, Joined}
use Rattle.pipe_events.specs.Worlds.{Event, Side, OfSort, OfBuild, OfProbe}
use Rattle.pipe_driver.specs.Legs.{Way}
use Rattle.pipe_driver.proofs.Tests.{by_test, eq-is, eq-not, not-both}
use Rattle.pipe_driver.specs.State.{Counts, nothing, is_sink, IsLowered, TakesOut}
use Rattle.pipe_driver.specs.Steps.{with_probers, with_sinks}
use Rattle.pipe_driver.specs.Boards.{Board}
use Rattle.pipe_driver.specs.Recorded.{begun_in, left_at, was_run, is_shut, IsNoted, IsSorted}
use Rattle.pipe_driver.proofs.Known.{alike}
use Rattle.pipe_driver.proofs.Counts.{out_begun}
use Rattle.pipe_driver.proofs.Boards.{some_not}

-- ---- other legs still go through the node

-- as many are none as before
same_none : (n op : ℕ) (old new : ℕ → ℕ) → IsLowered op old new → 0 < new op → (old n == 0) ≡ (new n == 0)
same_none n op old new low some =
    by_test ((old n == 0) ≡ (new n == 0)) (n == op)
    (λ e.
    let same = eq-is n op e in
    let here = low.here in
    let a : (old n == 0) ≡ false = ap (λ k. old k == 0) same ∙ some_not (old op) (omega (arith, here)) in
    let d : (new n == 0) ≡ false = ap (λ k. new k == 0) same ∙ some_not (new op) some in
    a ∙ sym d)
    (λ e. ap (λ k. k == 0) (sym (low.others n (eq-not n op e))))

leave_run : (b : Board) (c : Counts) (probers : ℕ → ℕ) (op : ℕ) (parked todo : List Way) → IsLowered op c.probers probers → 0 < probers op → (n : ℕ) (s : Stage) → b.stages.stage n ≡ s → was_run b c parked todo n ≡ was_run b (with_probers c probers) parked todo n
leave_run b c probers op parked todo low some n (Scan rows) is = ap (λ t. left_at b c (begun_in parked todo) n t == 0) is ∙ sym (ap (λ t. left_at b (with_probers c probers) (begun_in parked todo) n t == 0) is)
leave_run b c probers op parked todo low some n (Each input f) is = ap (λ t. left_at b c (begun_in parked todo) n t == 0) is ∙ sym (ap (λ t. left_at b (with_probers c probers) (begun_in parked todo) n t == 0) is)
leave_run b c probers op parked todo low some n (Union inputs) is = ap (λ t. left_at b c (begun_in parked todo) n t == 0) is ∙ sym (ap (λ t. left_at b (with_probers c probers) (begun_in parked todo) n t == 0) is)
leave_run b c probers op parked todo low some n (Sort input sorted) is = ap (λ t. left_at b c (begun_in parked todo) n t == 0) is ∙ sym (ap (λ t. left_at b (with_probers c probers) (begun_in parked todo) n t == 0) is)
leave_run b c probers op parked todo low some n (Joined j) is =
    ap (λ t. left_at b c (begun_in parked todo) n t == 0) is ∙ same_none n op c.probers probers low some ∙ sym (ap (λ t. left_at b (with_probers c probers) (begun_in parked todo) n t == 0) is)

leave_shut : (c : Counts) (probers : ℕ → ℕ) (op : ℕ) → IsLowered op c.probers probers → 0 < probers op → (n : ℕ) (side : Side) → is_shut c nothing n side ≡ is_shut (with_probers c probers) nothing n side
leave_shut c probers op low some n OfSort = refl
leave_shut c probers op low some n OfBuild = refl
leave_shut c probers op low some n OfProbe = same_none n op c.probers probers low some

-- a join that some leg goes through has one that does, also where one less does
pub still_some : (op n : ℕ) (old new : ℕ → ℕ) → IsLowered op old new → (n ≡ op → 0 < new n) → 0 < old n → 0 < new n
still_some op n old new low here some =
    by_test (0 < new n) (n == op)
    (λ e. here (eq-is n op e))
    (λ e. (let same = low.others n (eq-not n op e) in omega (arith, same, some)))

pub leave_noted : (b : Board) (c : Counts) (probers : ℕ → ℕ) (op : ℕ) (parked todo : List Way) (events : List Event) → IsLowered op c.probers probers → 0 < probers op → IsNoted b c nothing parked todo events → IsNoted b (with_probers c probers) nothing parked todo events
leave_noted b c probers op parked todo events low some noted = record {
  recorded =
      alike b.stages (was_run b c parked todo) (was_run b (with_probers c probers) parked todo) (is_shut c nothing) (is_shut (with_probers c probers) nothing)
      (λ n. leave_run b c probers op parked todo low some n (b.stages.stage n) refl) (λ n side t is. leave_shut c probers op low some n side) events noted.recorded;
  sorts = noted.sorts;
  joins = λ n join l. still_some op n c.probers probers low (λ same. subst (λ k. 0 < probers k) (sym same) some) (noted.joins n join l);
  fresh = noted.fresh;
}

-- ---- the leg is counted at its sink

abbrev fed_shut : Bool → ℕ → Bool
fed_shut but left = cond but false (left == 0)

feed_shut : (c : Counts) (sinks : ℕ → ℕ) (s : ℕ) → IsLowered s c.sinks sinks → (n : ℕ) → (c.sinks n == 0) ≡ fed_shut (n == s) (sinks n)
feed_shut c sinks s low n =
    by_test ((c.sinks n == 0) ≡ fed_shut (n == s) (sinks n)) (n == s)
    (λ e.
    let here = low.here in
    let a : (c.sinks n == 0) ≡ false = ap (λ k. c.sinks k == 0) (eq-is n s e) ∙ some_not (c.sinks s) (omega (arith, here)) in
    a ∙ sym (ap (λ t. fed_shut t (sinks n)) e))
    (λ e. ap (λ k. k == 0) (sym (low.others n (eq-not n s e))) ∙ sym (ap (λ t. fed_shut t (sinks n)) e))

feed_sides : (c : Counts) (sinks : ℕ → ℕ) (s : ℕ) → IsLowered s c.sinks sinks → (n : ℕ) (side : Side) → is_shut c nothing n side ≡ is_shut (with_sinks c sinks) (is_sink s) n side
feed_sides c sinks s low n OfSort = feed_shut c sinks s low n
feed_sides c sinks s low n OfBuild = feed_shut c sinks s low n
feed_sides c sinks s low n OfProbe = refl

fewer_fed : (n s : ℕ) (old new : ℕ → ℕ) → IsLowered s old new → 0 < new n → 0 < old n
fewer_fed n s old new low some =
    by_test (0 < old n) (n == s)
    (λ e. (let here = low.here in let same : old n ≡ old s = ap old (eq-is n s e) in omega (arith, here, same)))
    (λ e. (let same = low.others n (eq-not n s e) in omega (arith, same, some)))

feed_run : (b : Board) (c : Counts) (sinks : ℕ → ℕ) (parked todo : List Way) (n : ℕ) (s : Stage) → left_at b c (begun_in parked todo) n s ≡ left_at b (with_sinks c sinks) (begun_in parked todo) n s
feed_run b c sinks parked todo n (Scan rows) = refl
feed_run b c sinks parked todo n (Each input f) = refl
feed_run b c sinks parked todo n (Union inputs) = refl
feed_run b c sinks parked todo n (Sort input sorted) = refl
feed_run b c sinks parked todo n (Joined j) = refl

pub feed_noted : (b : Board) (c : Counts) (sinks : ℕ → ℕ) (s : ℕ) (parked todo : List Way) (events : List Event) → IsLowered s c.sinks sinks → IsNoted b c nothing parked todo events → IsNoted b (with_sinks c sinks) (is_sink s) parked todo events
feed_noted b c sinks s parked todo events low noted = record {
  recorded =
      alike b.stages (was_run b c parked todo) (was_run b (with_sinks c sinks) parked todo) (is_shut c nothing) (is_shut (with_sinks c sinks) (is_sink s))
      (λ n. ap (λ k. k == 0) (feed_run b c sinks parked todo n (b.stages.stage n))) (λ n side t is. feed_sides c sinks s low n side) events noted.recorded;
  sorts = λ n sort l. noted.sorts n sort (fewer_fed n s c.sinks sinks low l);
  joins = λ n join l. noted.joins n join (fewer_fed n s c.sinks sinks low l);
  fresh = noted.fresh;
}

-- ---- a sink that others still feed stays open

open_one : (c : Counts) (s : ℕ) → 0 < c.sinks s → (n : ℕ) → fed_shut (n == s) (c.sinks n) ≡ (c.sinks n == 0)
open_one c s some n =
    by_test (fed_shut (n == s) (c.sinks n) ≡ (c.sinks n == 0)) (n == s)
    (λ e. ap (λ t. fed_shut t (c.sinks n)) e ∙ sym (ap (λ k. c.sinks k == 0) (eq-is n s e) ∙ some_not (c.sinks s) some))
    (λ e. ap (λ t. fed_shut t (c.sinks n)) e)

open_sides : (c : Counts) (s : ℕ) → 0 < c.sinks s → (n : ℕ) (side : Side) → is_shut c (is_sink s) n side ≡ is_shut c nothing n side
open_sides c s some n OfSort = open_one c s some n
open_sides c s some n OfBuild = open_one c s some n
open_sides c s some n OfProbe = refl

pub open_noted : (b : Board) (c : Counts) (s : ℕ) (parked todo : List Way) (events : List Event) → 0 < c.sinks s → IsNoted b c (is_sink s) parked todo events → IsNoted b c nothing parked todo events
open_noted b c s parked todo events some noted = record {
  recorded =
      alike b.stages (was_run b c parked todo) (was_run b c parked todo) (is_shut c (is_sink s)) (is_shut c nothing)
      (λ n. refl) (λ n side t is. open_sides c s some n side) events noted.recorded;
  sorts = noted.sorts;
  joins = noted.joins;
  fresh = noted.fresh;
}

-- ---- ways go on

-- the same, of other lists of ways with as many legs that begin anywhere
other_run : (b : Board) (c : Counts) (old new : ℕ → ℕ) → ((n : ℕ) → old n ≡ new n) → (n : ℕ) (s : Stage) → left_at b c old n s ≡ left_at b c new n s
other_run b c old new same n (Scan rows) = same (b.source_of n)
other_run b c old new same n (Each input f) = refl
other_run b c old new same n (Union inputs) = refl
other_run b c old new same n (Sort input sorted) = same (b.source_of n)
other_run b c old new same n (Joined j) = refl

other_noted : (b : Board) (c : Counts) (live live' todo todo' : List Way) (events : List Event) → ((n : ℕ) → begun_in live todo n ≡ begun_in live' todo' n) → AllByRecursion (λ p. b.m.is_sort p.start ≡ false) todo' → IsNoted b c nothing live todo events → IsNoted b c nothing live' todo' events
other_noted b c live live' todo todo' events same fresh noted = record {
  recorded =
      alike b.stages (was_run b c live todo) (was_run b c live' todo') (is_shut c nothing) (is_shut c nothing)
      (λ n. ap (λ k. k == 0) (other_run b c (begun_in live todo) (begun_in live' todo') same n (b.stages.stage n))) (λ n side t is. refl) events noted.recorded;
  sorts = λ n sort l. (let was = noted.sorts n sort l in let e = same n in omega (arith, was, e));
  joins = noted.joins;
  fresh = fresh;
}

pub begin_noted : (b : Board) (c : Counts) (p : Way) (parked todo : List Way) (events : List Event) → IsNoted b c nothing parked (p ∷ todo) events → IsNoted b c nothing (p ∷ parked) todo events × IsSorted b.m c p
begin_noted b c p parked todo events noted = (
  other_noted b c parked (p ∷ parked) (p ∷ todo) todo events (λ n. omega arith) noted.fresh.1 noted,
  λ sort. absurd (not-both (b.m.is_sort p.start) sort noted.fresh.0),
)

pub way_noted : (b : Board) (c : Counts) (s : ℕ) (q : Way) (parked later todo : List Way) (events : List Event) → c.sinks s ≡ 0 → TakesOut s q parked later → IsNoted b c nothing parked todo events → IsNoted b c nothing (q ∷ later) todo events × IsSorted b.m c q
way_noted b c s q parked later todo events none out noted = (
  other_noted b c parked (q ∷ later) todo todo events (λ n. (let e = out_begun s q parked later n out in omega (arith, e))) noted.fresh noted,
  λ sort. ap c.sinks out.start ∙ none,
)
