-- Rounds of lanes as events: a source that went through them was taken, and a join flushed.
use Rattle.std.specs.Prelude.{◌≡◌, ℕ, ◌*◌, ◌<◌, ◌≤◌, List, [], ◌∷◌, ◌++◌, length}
use Rattle.pipe_ops.specs.Batches.{Left}
use Rattle.pipe_ops.specs.declared.source.Morsel.{Morsel}
use Rattle.pipe_events.specs.Stages.{Stages}
use Rattle.pipe_events.specs.Worlds.{Close, OfProbe}
use Rattle.pipe_events.specs.Runs.{SourcesTaken, IsFlushed}
use Rattle.pipe_run.specs.Claimed.{entries_at}
use Rattle.pipe_run.specs.declared.entry.Entry.{Entry}
use Rattle.pipe_run.specs.declared.note.Note.{Note}
use Rattle.pipe_run.specs.Notes.{events_of, notes_from, AreNoted, entries_of_parts}
use Rattle.pipe_run.specs.Noted.{IsNotedSince}
use Rattle.pipe_run.specs.Paced.{AreFew}
use Rattle.pipe_run.specs.NotedRounds.{rows_left, Gives, AreNotedInTurn, AreNotedBehind, AreSupplied}

-- Before the first round nothing was noted behind older notes
abbrev pub NotesBegin : Type 0
NotesBegin = (workers : ℕ) (old : List Note) → AreNotedBehind workers [] old old

-- What a further round noted stands behind the notes of those before it
abbrev pub NotesGoOn : Type 0
NotesGoOn =
    (workers : ℕ) (batches : List (List Morsel)) (ms : List Morsel) (old now new : List Note)
    → AreNotedBehind workers batches old now
    → IsNotedSince workers (length ms) (entries_at ms) now new
    → AreNotedBehind workers (batches ++ ms ∷ []) old new

-- Where the chunks of a source went through rounds of lanes until it was out, what these noted, round
-- after round, are takes of its nodes, one node after the other: each position once
abbrev pub SourcesAreTaken : Type 0
SourcesAreTaken =
    (plan : Stages) (nodes : List ℕ) (join count size index : ℕ) (batches : List (List Morsel))
    (left new : List Left) (notes : List Note)
    → 0 < size → AreSupplied plan nodes left → Gives count size index batches left new
    → rows_left new ≡ [] → AreNotedInTurn plan.workers batches notes
    → SourcesTaken plan nodes (events_of nodes join notes)

-- Where the partitions of a join went to lanes, what these noted are flushes of it: each partition
-- once
abbrev pub JoinsAreFlushed : Type 0
JoinsAreFlushed =
    (plan : Stages) (nodes : List ℕ) (k : ℕ) (lanes : List (List Entry))
    → AreNoted plan.parts (entries_of_parts plan.parts) lanes → length lanes ≤ plan.workers
    → IsFlushed plan k (Close k OfProbe ∷ events_of nodes k (notes_from 0 lanes))

-- Where the chunks of a source went through rounds of lanes, what these noted are at most so many takes
-- a round as a batch has chunks, each of some rows, at most as many as a chunk has
abbrev pub TakesAreFew : Type 0
TakesAreFew =
    (workers count size index : ℕ) (batches : List (List Morsel)) (left new : List Left)
    (notes : List Note)
    → 0 < size → Gives count size index batches left new → AreNotedInTurn workers batches notes
    → AreFew (count * length batches) size notes

-- Where the partitions of a join went to lanes, what these noted has no take
abbrev pub FlushesTakeNothing : Type 0
FlushesTakeNothing =
    (parts rows : ℕ) (lanes : List (List Entry))
    → AreNoted parts (entries_of_parts parts) lanes → AreFew 0 rows (notes_from 0 lanes)
