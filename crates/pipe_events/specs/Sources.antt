-- Sources: the rows that they have, and when all of them are taken.
use Rattle.std.specs.Prelude.{◌≡◌, ℕ, ◌<◌, ◌≤◌, List, length}
use Rattle.pipe_events.specs.Stages.{Stages, IsStages, rows, own_rows}
use Rattle.pipe_events.specs.Worlds.{World, Event, start, IsReady, IsSpent, count, source_rows}
use Rattle.pipe_events.specs.Schedules.{AllAllowed, run}

-- A source that has positions has the rows that are its own in the plan: a scan its rows, a closed
-- sort the list of its input
abbrev pub ReadySourcesHaveTheirRows : Type 0
ReadySourcesHaveTheirRows =
    (plan : Stages) → IsStages plan → (events : List Event) → AllAllowed plan start events →
    (n : ℕ) → n < plan.size → IsReady (run plan start events).closed (plan.stage n) →
    source_rows (run plan start events).bag (plan.stage n) ≡ own_rows (rows plan) (plan.stage n)

-- A source that has positions is spent where each of them was taken
abbrev pub TakenSourcesAreSpent : Type 0
TakenSourcesAreSpent =
    (plan : Stages) (w : World) (n : ℕ) → IsReady w.closed (plan.stage n) →
    ((p : ℕ) → p < length (source_rows w.bag (plan.stage n)) → 1 ≤ count p (w.taken n)) →
    IsSpent plan w n (plan.stage n)
