-- What a run's own journal is tied by: closed sides, flags, and lists that are joined.
use Rattle.std.proofs.Common.{◌≡◌, ℕ, ◌<◌, true, false, List, [], ◌∷◌, ◌++◌, refl, ap}
use Rattle.std.specs.List.{list_any}
use Rattle.pipe_schema.specs.Rows.{Same}
use Rattle.pipe_schema.proofs.Weights.{Same-from_bag}
use Rattle.pipe_events.specs.Stages.{JoinStage, Stages, Joined, rows, reaches, IsStages, marks}
use Rattle.pipe_events.specs.Worlds.{World, start, Event, is_sink, after}
use Rattle.pipe_expr.specs.declared.join_words.JoinType.TheVariants as how
use Rattle.pipe_events.specs.Schedules.{AllAllowed, run, IsComplete, FlagsAreMatches, flagged_rows, ClosedSidesHaveTheirRows, ClosedProbesHaveTheirFlags, CompleteListsHaveTheirFlags, SemiJoinsKeepEachRowOnce, ListsJoin}
use Rattle.pipe_expr.specs.Shares.{matched_built}
use Rattle.pipe_events.proofs.Every.{kept_run, kept_start}
use Rattle.pipe_events.proofs.Facts.{all_flagged_rows, IsFlagged, Holds}
use Rattle.pipe_events.proofs.Ways.{all_flagged, settled_at, closed_rows, closed_bag}
use Rattle.pipe_events.proofs.Closing.{spent_gave}

module _ (plan : Stages) (ok : IsStages plan) (events : List Event) (allowed : AllAllowed plan start events) where
  abbrev end : World
  end = run plan start events

  kept : Holds plan end
  kept = kept_run plan ok events start (kept_start plan ok) allowed

  as_matches : (k : ℕ) (j : JoinStage) → IsFlagged (rows plan) (end.flag k) j → FlagsAreMatches plan end k j
  as_matches k j f = record { each = f.marked; only = f.back }

  pub closed_has_rows : (t : ℕ) → is_sink plan t ≡ true → end.closed t ≡ true → Same (end.bag t) (rows plan t)
  closed_has_rows t sink closed = Same-from_bag (closed_bag plan ok end kept t closed sink)

  pub closed_has_flags : (k : ℕ) (j : JoinStage) → k < plan.size → plan.stage k ≡ Joined j → marks j ≡ true → end.closed j.probe ≡ true → FlagsAreMatches plan end k j
  closed_has_flags k j lt e marking closed = as_matches k j (all_flagged plan ok end kept k j lt e marking (kept.quiet j.probe closed) (closed_rows plan ok end kept j.probe closed))

  complete_flagged : IsComplete plan end → (k : ℕ) (j : JoinStage) → k < plan.size → plan.stage k ≡ Joined j → marks j ≡ true → IsFlagged (rows plan) (end.flag k) j
  complete_flagged done k j lt e marking =
      let idle : list_any (λ l. reaches plan l.node j.probe) end.pending ≡ false = ap (list_any (λ l. reaches plan l.node j.probe)) done.nothing_pending in
      all_flagged plan ok end kept k j lt e marking idle (settled_at plan ok end kept j.probe idle (λ n lt' r. spent_gave plan ok end kept n (plan.stage n) lt' refl (done.spent n lt')))

  pub complete_has_flags : IsComplete plan end → (k : ℕ) (j : JoinStage) → k < plan.size → plan.stage k ≡ Joined j → marks j ≡ true → FlagsAreMatches plan end k j
  complete_has_flags done k j lt e marking = as_matches k j (complete_flagged done k j lt e marking)

  pub semi_keeps : IsComplete plan end → (k : ℕ) (j : JoinStage) → k < plan.size → plan.stage k ≡ Joined j → j.join.how ≡ how.Semi → j.right_built ≡ false →
      flagged_rows plan end k j ≡ matched_built j.join j.right_built (rows plan j.probe) (rows plan j.build)
  semi_keeps done k j lt e semi left = all_flagged_rows (rows plan) (end.flag k) j (complete_flagged done k j lt e (rw (semi, left) refl))

pub closed_sides : ClosedSidesHaveTheirRows
closed_sides = closed_has_rows

pub closed_probes : ClosedProbesHaveTheirFlags
closed_probes = closed_has_flags

pub complete_flags : CompleteListsHaveTheirFlags
complete_flags = complete_has_flags

pub semi_joins : SemiJoinsKeepEachRowOnce
semi_joins = semi_keeps

joined_allowed : (plan : Stages) (w : World) (earlier later : List Event) → AllAllowed plan w earlier → AllAllowed plan (run plan w earlier) later → AllAllowed plan w (earlier ++ later)
joined_allowed plan w [] later h k = k
joined_allowed plan w (e ∷ es) later h k = (h.0, joined_allowed plan (after plan w e) es later h.1 k)

parts_allowed : (plan : Stages) (w : World) (earlier later : List Event) → AllAllowed plan w (earlier ++ later) → AllAllowed plan w earlier × AllAllowed plan (run plan w earlier) later
parts_allowed plan w [] later h = (tt, h)
parts_allowed plan w (e ∷ es) later h = let parts = parts_allowed plan (after plan w e) es later h.1 in ((h.0, parts.0), parts.1)

joined_run : (plan : Stages) (w : World) (earlier later : List Event) → run plan w (earlier ++ later) ≡ run plan (run plan w earlier) later
joined_run plan w [] later = refl
joined_run plan w (e ∷ es) later = joined_run plan (after plan w e) es later

pub lists_join : ListsJoin
lists_join plan w earlier later = ((parts_allowed plan w earlier later, λ h. joined_allowed plan w earlier later h.0 h.1), joined_run plan w earlier later)
