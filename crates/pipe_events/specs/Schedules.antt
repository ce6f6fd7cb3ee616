-- Lists of events, each allowed where it stands, and complete ones.
use Rattle.std.specs.Prelude.{◌≡◌, ℕ, ◌<◌, List, [], ◌∷◌, ◌++◌, Bool, true, false, not, if◌then◌else◌, filter, Some}
use Rattle.std.specs.List.{list_any}
use mathlib.Core.Logic.{◌↔◌}
use Rattle.pipe_schema.specs.Rows.{Row, Same, Within}
use Rattle.pipe_expr.specs.Shares.{matched_built}
use Rattle.pipe_expr.specs.declared.join_words.JoinType.TheVariants as how
use Rattle.pipe_events.specs.Stages.{JoinStage, Stages, Joined, IsStages, rows, build_key, matches_built, marks}
use Rattle.pipe_events.specs.Worlds.{World, Event, Side, start, side_below, is_sink, Allowed, after, IsSpent}

module _ (plan : Stages) where
  -- each event is allowed where it stands
  abbrev pub AllAllowed : World → List Event → Type 0
  AllAllowed w [] = Unit {0}
  AllAllowed w (event ∷ events) = Allowed plan w event × AllAllowed (after plan w event) events

  -- the world after them
  abbrev pub run : World → List Event → World
  run w [] = w
  run w (event ∷ events) = run (after plan w event) events

  -- all is taken, flushed and closed, and nothing is on its way
  pub record IsComplete (w : World) : Type 0 where
    pub spent : (n : ℕ) → n < plan.size → IsSpent plan w n (plan.stage n)
    pub nothing_pending : w.pending ≡ []
    pub all_closed : (n : ℕ) (side : Side) (t : ℕ) → n < plan.size →
        side_below (plan.stage n) side ≡ Some t → w.closed t ≡ true

-- after the events the root's bag is within the rows; where they are a complete list, it has them
abbrev pub GivesTheRows : Stages → List Event → List Row → Type 0
GivesTheRows plan events expected =
    let end = run plan start events in
    Within (end.bag plan.root) expected
    × (IsComplete plan end → Same (end.bag plan.root) expected)

-- Each list of allowed events gives the plan's rows
abbrev pub EverySchedule : Type 0
EverySchedule =
    (plan : Stages) → IsStages plan → (events : List Event) → AllAllowed plan start events →
    GivesTheRows plan events (rows plan plan.root)

-- The bag of a closed sort or build side has the rows of the node below it
abbrev pub ClosedSidesHaveTheirRows : Type 0
ClosedSidesHaveTheirRows =
    (plan : Stages) → IsStages plan → (events : List Event) → AllAllowed plan start events →
    (t : ℕ) → is_sink plan t ≡ true → (run plan start events).closed t ≡ true →
    Same ((run plan start events).bag t) (rows plan t)

-- whether a built row of a join has a match among the rows of its probe side
abbrev pub is_met : Stages → JoinStage → Row → Bool
is_met plan j r = list_any (matches_built j r) (rows plan j.probe)

-- the flags of a join are the keys that the rows of its probe side match
pub record FlagsAreMatches (plan : Stages) (w : World) (k : ℕ) (j : JoinStage) : Type 0 where
  pub each : list_any (λ r. if is_met plan j r then not (w.flag k (build_key j r)) else false)
      (rows plan j.build) ≡ false
  pub only : (r : Row) → w.flag k (build_key j r) ≡ true → is_met plan j r ≡ true

-- At a closed probe side the flags are the keys that the rows of the probe side match
abbrev pub ClosedProbesHaveTheirFlags : Type 0
ClosedProbesHaveTheirFlags =
    (plan : Stages) → IsStages plan → (events : List Event) → AllAllowed plan start events →
    (k : ℕ) (j : JoinStage) → k < plan.size → plan.stage k ≡ Joined j → marks j ≡ true →
    (run plan start events).closed j.probe ≡ true →
    FlagsAreMatches plan (run plan start events) k j

-- After a complete list the flags of each marking join are the keys that the rows of its probe side
-- match, whether it is closed by an event or not
abbrev pub CompleteListsHaveTheirFlags : Type 0
CompleteListsHaveTheirFlags =
    (plan : Stages) → IsStages plan → (events : List Event) → AllAllowed plan start events →
    IsComplete plan (run plan start events) →
    (k : ℕ) (j : JoinStage) → k < plan.size → plan.stage k ≡ Joined j → marks j ≡ true →
    FlagsAreMatches plan (run plan start events) k j

-- the built rows whose key is flagged
abbrev pub flagged_rows : Stages → World → ℕ → JoinStage → List Row
flagged_rows plan w k j = filter (λ r. w.flag k (build_key j r)) (rows plan j.build)

-- What the first marks of a semi join whose left side is built gave, each key's rows once, are the
-- rows that it keeps; no flush is allowed there
abbrev pub SemiJoinsKeepEachRowOnce : Type 0
SemiJoinsKeepEachRowOnce =
    (plan : Stages) → IsStages plan → (events : List Event) → AllAllowed plan start events →
    IsComplete plan (run plan start events) →
    (k : ℕ) (j : JoinStage) → k < plan.size → plan.stage k ≡ Joined j → j.join.how ≡ how.Semi →
    j.right_built ≡ false →
    flagged_rows plan (run plan start events) k j ≡ matched_built j.join j.right_built
    (rows plan j.probe) (rows plan j.build)

-- Lists may be joined, round by round
abbrev pub ListsJoin : Type 0
ListsJoin =
    (plan : Stages) (w : World) (earlier later : List Event) →
    (AllAllowed plan w (earlier ++ later) ↔
    (AllAllowed plan w earlier × AllAllowed plan (run plan w earlier) later))
    × (run plan w (earlier ++ later) ≡ run plan (run plan w earlier) later)
