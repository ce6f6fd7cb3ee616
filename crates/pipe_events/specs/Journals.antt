-- Journals that grow round by round: each event is allowed where it stands, and nothing is on its
-- way at the end of a round.
use Rattle.std.specs.Prelude.{◌≡◌, ℕ, ◌<◌, List, [], ◌∷◌, ◌++◌, true, Some}
use Rattle.pipe_events.specs.Stages.{JoinStage, Stages, IsStages}
use Rattle.pipe_events.specs.Worlds.{World, Event, Close, Side, start, put, side_below, IsSpent, MayClose}
use Rattle.pipe_events.specs.Schedules.{AllAllowed, run, IsComplete}
use Rattle.pipe_events.specs.Rounds.{Chunk, Flushed, takes, flushing, MayTakeAll, MayFlushAll, HasTaken, HasFlushed}

-- the world after a journal
abbrev pub world_after : Stages → List Event → World
world_after plan events = run plan start events

-- a journal at the end of a round
pub record Stands (plan : Stages) (events : List Event) : Type 0 where
  pub allowed : AllAllowed plan start events
  pub idle : (world_after plan events).pending ≡ []

-- the world after the side above a node was closed
pub record HasClosed (t : ℕ) (w end : World) : Type 0 where
  pub closed : end.closed ≡ put w.closed t true
  pub taken : end.taken ≡ w.taken
  pub flushed : end.flushed ≡ w.flushed
  pub bag : end.bag ≡ w.bag

-- The empty journal stands
abbrev pub EmptyJournalsStand : Type 0
EmptyJournalsStand = (plan : Stages) → Stands plan []

-- A journal that stands does so with a round of takes behind it
abbrev pub JournalsTake : Type 0
JournalsTake =
    (plan : Stages) → IsStages plan → (events : List Event) → Stands plan events →
    (source : ℕ) (chunks : List Chunk) → MayTakeAll plan (world_after plan events) source chunks →
    let more = events ++ takes source chunks in
    Stands plan more × HasTaken source chunks (world_after plan events) (world_after plan more)

-- with a round of flushes
abbrev pub JournalsFlush : Type 0
JournalsFlush =
    (plan : Stages) → IsStages plan → (events : List Event) → Stands plan events →
    (k : ℕ) (join : JoinStage) (parts : List Flushed) →
    MayFlushAll plan (world_after plan events) k join parts →
    let more = events ++ flushing k parts in
    Stands plan more × HasFlushed k parts (world_after plan events) (world_after plan more)

-- and with a side closed
abbrev pub JournalsClose : Type 0
JournalsClose =
    (plan : Stages) (events : List Event) → Stands plan events → (n : ℕ) (side : Side) (t : ℕ) →
    MayClose plan (world_after plan events) n side t →
    let more = events ++ Close n side ∷ [] in
    Stands plan more × HasClosed t (world_after plan events) (world_after plan more)

-- Where all is taken, flushed and closed, a journal that stands is complete
abbrev pub JournalsEnd : Type 0
JournalsEnd =
    (plan : Stages) (events : List Event) → Stands plan events →
    ((n : ℕ) → n < plan.size → IsSpent plan (world_after plan events) n (plan.stage n)) →
    ((n : ℕ) (side : Side) (t : ℕ) → n < plan.size → side_below (plan.stage n) side ≡ Some t →
    (world_after plan events).closed t ≡ true) →
    IsComplete plan (world_after plan events)
