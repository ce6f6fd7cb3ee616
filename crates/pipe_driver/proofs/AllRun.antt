-- Where the root's sink is closed, all was run.
use Rattle.std.proofs.Common.{◌≡◌, ℕ, zero, suc, ◌+◌, ◌<◌, ◌≤◌, Bool, true, ◌==◌, List, [], ◌∷◌, ap, ◌∙◌, subst, arith, ◌⊎◌, inl, inr}
use Rattle.std.specs.List.{AllByRecursion}
use Rattle.pipe_events.specs.Stages.{Stages}
use Rattle.pipe_events.specs.Worlds.{Event, Side, OfSort, OfBuild, OfProbe, start}
use Rattle.pipe_events.specs.Schedules.{run, IsComplete}
use Rattle.pipe_events.proofs.Every.{every}
use Rattle.pipe_events.proofs.Journals.{journals_end}
use Rattle.pipe_events.proofs.Steps.{Knows, spent}
use Rattle.pipe_driver.specs.declared.branch.SinkAt.{SinkAt}
use Rattle.pipe_driver.specs.declared.branch.SinkAt.TheVariants as at
use Rattle.pipe_driver.specs.Meaning.{Meaning}
use Rattle.pipe_driver.specs.Legs.{Leg, Way}
use Rattle.pipe_driver.specs.Ways.{one, legs_to, way_to, feeds, passes, begun, IsSinkOf, AreLegs}
use Rattle.pipe_driver.proofs.Tests.{by_test, eq-is, eq-true, some-left}
use Rattle.pipe_driver.specs.State.{World, Counts, IsBetween, nothing}
use Rattle.pipe_driver.proofs.Sums.{no_more}
use Rattle.pipe_driver.specs.Boards.{Board, IsBoard}
use Rattle.pipe_driver.specs.Recorded.{begun_in, was_run, is_shut, IsNoted}
use Rattle.pipe_driver.specs.JournalLaws.{IsWhole}
use Rattle.pipe_driver.proofs.Known.{knows}
use Rattle.pipe_driver.proofs.Climbs.{chain_rises}
use Rattle.pipe_driver.proofs.Counts.{HasLegs, some_begun_feeds, none_begins, none_passes, some_pass_feeds, parked_legs, todo_legs}
use Rattle.pipe_driver.proofs.Boards.{run_as, join_there, sort_there}

-- a sink that a leg feeds is that of a sort, of a join, or of the root
data IsSink (m : Meaning) (s : ℕ) : Type 0 where
  Root : s ≡ m.ordered → IsSink m s
  OfSortAt : m.is_sort s ≡ true → IsSink m s
  OfJoinAt : m.is_join s ≡ true → IsSink m s

sink_is : (m : Meaning) (s : ℕ) (a : SinkAt) → IsSinkOf m s a → IsSink m s
sink_is m s at.Ordered is = Root is
sink_is m s (at.Sort n) is = OfSortAt (ap m.is_sort is.0 ∙ is.1)
sink_is m s (at.Build n) is = OfJoinAt (ap m.is_join is.0 ∙ is.1)

legs_sink : (m : Meaning) (s start : ℕ) (legs : List Leg) → AreLegs m start legs → 0 < legs_to s legs → IsSink m s
legs_sink m s start [] are some = absurd (omega (arith, some))
legs_sink m s start (leg ∷ legs) are some =
    by_test (IsSink m s) (leg.sink == s)
    (λ e. subst (IsSink m) (eq-is leg.sink s e) (sink_is m leg.sink leg.at are.0.at))
    (λ e. (let none : one (leg.sink == s) ≡ 0 = ap one e in legs_sink m s leg.sink legs are.1 (omega (arith, some, none))))

fed_sink : (m : Meaning) (s : ℕ) (ps : List Way) → AllByRecursion (HasLegs m) ps → 0 < feeds s ps → IsSink m s
fed_sink m s [] are some = absurd (omega (arith, some))
fed_sink m s (p ∷ ps) are some =
    elim (some-left (way_to s p)) [
      | inr here ↦ legs_sink m s p.start p.legs are.0 here
      | inl none ↦ fed_sink m s ps are.1 (omega (arith, some, none))
    ]

module _ (b : Board) (w : World) (c : Counts) (parked todo : List Way) (events : List Event)
    (ok : IsBoard b) (between : IsBetween b.m w c parked todo) (root : c.sinks b.m.ordered ≡ 0) (noted : IsNoted b c nothing parked todo events) where
  abbrev plan : Stages
  plan = b.stages

  abbrev ran : ℕ → Bool
  ran = was_run b c parked todo

  abbrev shut : ℕ → Side → Bool
  shut = is_shut c nothing

  known : Knows plan ran shut events
  known = knows plan ran shut events noted.recorded

  live_legs : AllByRecursion (HasLegs b.m) parked
  live_legs = parked_legs b.m c.sinks nothing todo parked between.waiting

  other_legs : AllByRecursion (HasLegs b.m) todo
  other_legs = todo_legs b.m todo between.left.ways

  is_fed : (s : ℕ) → 0 < c.sinks s → IsSink b.m s
  is_fed s some =
      let all = between.left.sinks s in
      elim (some-left (feeds s parked)) [
        | inr here ↦ fed_sink b.m s parked live_legs here
        | inl none ↦ fed_sink b.m s todo other_legs (omega (arith, some, all, none))
      ]

  -- what is fed by a leg that is left is fed
  feeds_left : (s : ℕ) → (0 < feeds s parked) ⊎ (0 < feeds s todo) → 0 < c.sinks s
  feeds_left s (inl l) = (let all = between.left.sinks s in omega (arith, all, l))
  feeds_left s (inr l) = (let all = between.left.sinks s in omega (arith, all, l))

  next_begun : (s : ℕ) → 0 < begun_in parked todo s → 0 < c.sinks (b.m.above_sink s)
  next_begun s some =
      feeds_left (b.m.above_sink s)
      (elim (some-left (begun s parked)) [
        | inr here ↦ inl (some_begun_feeds b.m s parked live_legs here)
        | inl none ↦ inr (some_begun_feeds b.m s todo other_legs (omega (arith, some, none)))
      ])

  next_passed : (s : ℕ) → 0 < c.probers s → 0 < c.sinks (b.m.above_sink s)
  next_passed s some =
      let all = between.left.probers s in
      feeds_left (b.m.above_sink s)
      (elim (some-left (passes s parked)) [
        | inr here ↦ inl (some_pass_feeds b.m s parked ok.sound live_legs here)
        | inl none ↦ inr (some_pass_feeds b.m s todo ok.sound other_legs (omega (arith, some, all, none)))
      ])

  rises : (s : ℕ) → s < plan.size → s < b.m.above_sink s
  rises s lt = (let up = (chain_rises plan ok.tree s lt).sink in let is = ok.above_sink s in omega (arith, up, is))

  -- where a sink is fed, so is the next one above it
  next_one : (s : ℕ) → 0 < c.sinks s → IsSink b.m s → (s < b.m.ordered) × (s < b.m.above_sink s) × (0 < c.sinks (b.m.above_sink s))
  next_one s some (Root is) = absurd (let gone : c.sinks s ≡ 0 = ap c.sinks is ∙ root in omega (arith, gone, some))
  next_one s some (OfSortAt sort) = (let h = ok.is_sort s sort in (ok.sound.low_sort s sort, rises s (sort_there b ok s h.input h.sorted h.is), next_begun s (noted.sorts s sort some)))
  next_one s some (OfJoinAt join) = (let h = ok.is_join s join in (ok.sound.low_join s join, rises s (join_there b ok s h.join h.is), next_passed s (noted.joins s join some)))

  no_fed : (d s : ℕ) → b.m.ordered ≤ s + d → 0 < c.sinks s → ⊥
  no_fed zero s enough some = (let h = next_one s some (is_fed s some) in let low = h.0 in absurd (omega (arith, enough, low)))
  no_fed (suc d) s enough some = (let h = next_one s some (is_fed s some) in let up = h.1 in no_fed d (b.m.above_sink s) (omega (arith, enough, up)) h.2)

  none_open : (s : ℕ) → c.sinks s ≡ 0
  none_open s = no_more (c.sinks s) (λ some. no_fed b.m.ordered s (omega arith) some)

  no_begin : (n : ℕ) → begun_in parked todo n ≡ 0
  no_begin n =
      let all = between.left.sinks (b.m.above_sink n) in
      let none = none_open (b.m.above_sink n) in
      let a = none_begins b.m n parked live_legs (omega (arith, all, none)) in
      let d = none_begins b.m n todo other_legs (omega (arith, all, none)) in
      omega (arith, a, d)

  no_pass : (n : ℕ) → c.probers n ≡ 0
  no_pass n =
      let all = between.left.sinks (b.m.above_sink n) in
      let none = none_open (b.m.above_sink n) in
      let a = none_passes b.m n parked ok.sound live_legs (omega (arith, all, none)) in
      let d = none_passes b.m n todo ok.sound other_legs (omega (arith, all, none)) in
      let counted = between.left.probers n in
      omega (arith, a, d, counted)

  all_ran : (n : ℕ) → ran n ≡ true
  all_ran n = run_as b c (begun_in parked todo) n (plan.stage n) (λ e. no_begin (b.source_of n)) (λ j is. no_pass n)

  all_shut : (n : ℕ) (side : Side) → shut n side ≡ true
  all_shut n OfSort = eq-true (c.sinks n) 0 (none_open n)
  all_shut n OfBuild = eq-true (c.sinks n) 0 (none_open n)
  all_shut n OfProbe = eq-true (c.probers n) 0 (no_pass n)

  complete : IsComplete plan (run plan start events)
  complete =
      journals_end plan events known.stands
      (λ n lt. spent plan ran shut ok.ok events known n lt (λ act. all_ran n) (λ input sorted is. all_shut n OfSort))
      (λ n side t lt is. known.tells.closed n side t is ∙ all_shut n side)

  pub whole : IsWhole b events
  whole = record {
    allowed = known.stands.allowed;
    complete = complete;
    rows = (every plan ok.ok events known.stands.allowed).1 complete;
  }
