-- How often workers take to a question of the stop check, by what is written.
use Rattle.std.specs.Prelude.{◌≡◌, ℕ, ◌+◌, ◌*◌, ◌≤◌, List, [], ◌∷◌, ◌++◌, map}
use Rattle.std.specs.List.{AllByRecursion}
use Rattle.pipe_schema.specs.Counts.{Counts}
use Rattle.pipe_events.specs.EventValues.{event_value}
use Rattle.pipe_events.specs.Worlds as worlds
use Rattle.pipe_events.specs.declared.event.Event.{Event}
use Rattle.pipe_run.specs.declared.note.Note.{Note}
use Rattle.pipe_run.specs.Notes.{events_of}

-- 1 where a worker takes rows of a source
abbrev pub takes_by : worlds.Event → ℕ
takes_by (worlds.Take worker source from amount) = 1
takes_by (worlds.Mark worker join key) = 0
takes_by (worlds.Emit worker) = 0
takes_by (worlds.Done worker) = 0
takes_by (worlds.Close node side) = 0
takes_by (worlds.Flush worker join part) = 0

-- how often workers take, by some events
abbrev pub takes_in : List worlds.Event → ℕ
takes_in [] = 0
takes_in (event ∷ events) = takes_by event + takes_in events

-- where a worker takes rows of a source, these are some, at most so many
abbrev pub IsSized : (rows : ℕ) → worlds.Event → Type 0
IsSized rows (worlds.Take worker source from amount) = (1 ≤ amount) × (amount ≤ rows)
IsSized rows (worlds.Mark worker join key) = Unit {0}
IsSized rows (worlds.Emit worker) = Unit {0}
IsSized rows (worlds.Done worker) = Unit {0}
IsSized rows (worlds.Close node side) = Unit {0}
IsSized rows (worlds.Flush worker join part) = Unit {0}

-- what was written since is this: the stop check was asked so many times, so many workers took at most
-- four times each a question, and each time some rows, at most so many
pub record KeepsPace (workers rows asked_old asked_new : ℕ) (old new : List Event) : Type 0 where
  pub own : List worlds.Event
  pub is : map event_value new ≡ map event_value old ++ own
  pub questions : ℕ
  pub asked : Counts questions asked_old asked_new
  pub few : takes_in own ≤ 4 * workers * questions
  pub sized : AllByRecursion (IsSized rows) own

-- what lanes noted are at most so many takes, each of some rows, at most so many, of whatever nodes
-- and join
pub record AreFew (most rows : ℕ) (notes : List Note) : Type 0 where
  pub few : (nodes : List ℕ) (join : ℕ) → takes_in (events_of nodes join notes) ≤ most
  pub sized : (nodes : List ℕ) (join : ℕ) →
      AllByRecursion (IsSized rows) (events_of nodes join notes)

-- the same of what lanes noted since: the stop check was asked so many times, so many workers took at
-- most four times each a question
pub record NotesKeepPace (workers rows asked_old asked_new : ℕ) (old new : List Note) : Type 0 where
  pub since : List Note
  pub whole : new ≡ old ++ since
  pub questions : ℕ
  pub asked : Counts questions asked_old asked_new
  pub few : AreFew (4 * workers * questions) rows since
