-- What a source gave, round by round, and what lanes noted of it.
use Rattle.std.specs.Prelude.{◌≡◌, ℕ, ◌+◌, ◌≤◌, List, [], ◌∷◌, ◌++◌, length}
use Rattle.std.specs.List.{flat_map}
use Rattle.pipe_schema.specs.Rows.{Row}
use Rattle.pipe_ops.specs.Batches.{Left, batch, after_batch}
use Rattle.pipe_ops.specs.declared.source.Morsel.{Morsel}
use Rattle.pipe_events.specs.Stages.{Stages}
use Rattle.pipe_events.specs.Runs.{supply}
use Rattle.pipe_run.specs.Claimed.{entries_at}
use Rattle.pipe_run.specs.declared.entry.Entry.{Entry}
use Rattle.pipe_run.specs.declared.note.Note.{Note}
use Rattle.pipe_run.specs.Notes.{notes_from, AreNoted}

-- the rows that are left of a source
abbrev pub rows_in : Left → List Row
rows_in l = l.rows

abbrev pub rows_left : List Left → List Row
rows_left left = flat_map rows_in left

-- the batches that a source gave, each of at most so many chunks of so many rows, and what it had left
-- after them
abbrev pub Gives : (count size index : ℕ) → List (List Morsel) → (old new : List Left) → Type 0
Gives count size index [] old new = new ≡ old
Gives count size index (ms ∷ batches) old new =
    (ms ≡ batch count size index 0 old)
    × Gives count size (index + length ms) batches (after_batch count size old) new

-- lanes of so many workers at most noted the chunks of a round, and then come other notes
pub record IsNotedFirst (workers : ℕ) (ms : List Morsel) (Later : List Note → Type 0)
    (notes : List Note) : Type 0 where
  pub lanes : List (List Entry)
  pub later : List Note
  pub whole : notes ≡ notes_from 0 lanes ++ later
  pub few : length lanes ≤ workers
  pub noted : AreNoted (length ms) (entries_at ms) lanes
  pub rest : Later later

-- those of some rounds, one after another
abbrev pub AreNotedInTurn : (workers : ℕ) → List (List Morsel) → List Note → Type 0
AreNotedInTurn workers [] notes = notes ≡ []
AreNotedInTurn workers (ms ∷ batches) notes =
    IsNotedFirst workers ms (AreNotedInTurn workers batches) notes

-- and they stand behind older notes
pub record AreNotedBehind (workers : ℕ) (batches : List (List Morsel)) (old new : List Note) : Type 0
  where
    pub since : List Note
    pub whole : new ≡ old ++ since
    pub noted : AreNotedInTurn workers batches since

-- frames from their first row on, each with as many rows as its node has positions
abbrev pub AreSuppliedBy : (supply_at : ℕ → ℕ) → List ℕ → List Left → Type 0
AreSuppliedBy supply_at [] [] = Unit {0}
AreSuppliedBy supply_at [] (l ∷ left) = ⊥
AreSuppliedBy supply_at (n ∷ nodes) [] = ⊥
AreSuppliedBy supply_at (n ∷ nodes) (l ∷ left) =
    (l.from ≡ 0) × (length l.rows ≡ supply_at n) × AreSuppliedBy supply_at nodes left

abbrev pub AreSupplied : Stages → List ℕ → List Left → Type 0
AreSupplied plan nodes left = AreSuppliedBy (supply plan) nodes left
