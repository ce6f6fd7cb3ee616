-- How many rows are taken to a question of the stop check.
use Rattle.std.specs.Prelude.{ℕ, ◌+◌, ◌*◌, ◌≤◌, List, [], ◌∷◌, length, Option, Some, None}
use Rattle.pipe_schema.specs.Counts.{Counts}
use Rattle.pipe_ops.specs.declared.context.PExecutionContext.{PExecutionContext}
use Rattle.pipe_run.specs.Rounds.{left_rows}
use Rattle.pipe_source.specs.Supplies.{left_of}
use Rattle.pipe_source.specs.declared.phys_source.PhysSource.{PhysSource}
use Rattle.pipe_run.specs.Paced.{KeepsPace}
use Rattle.pipe_engine.specs.Drives.{Line}
use Rattle.pipe_engine.specs.declared.engine.Engine.{Engine}

-- so many rows at most are taken between two questions: four chunks for each worker
abbrev pub most_of : PExecutionContext → ℕ
most_of context = 4 * context.workers * context.chunk_rows

-- how many rows a source has left, and how many the sources of some pipelines have
abbrev pub rows_due : PhysSource → ℕ
rows_due source = length (left_rows (left_of source))

abbrev pub rows_due_from : Option PhysSource → ℕ
rows_due_from None = 0
rows_due_from (Some source) = rows_due source

abbrev pub rows_due_of : {H : Type 0} → List (Line H) → ℕ
rows_due_of [] = 0
rows_due_of (p ∷ ps) = rows_due_from p.source + rows_due_of ps

-- of so many rows that were to be taken so many are left, and at most `most` were taken to each
-- question
pub record TakesPaced (most due_old due_new asked_old asked_new : ℕ) : Type 0 where
  pub questions : ℕ
  pub asked : Counts questions asked_old asked_new
  pub few : due_old ≤ due_new + most * questions

-- what an engine wrote since into its journal keeps the pace of its workers
abbrev pub HasKeptPace : {H : Type 0} → (asked_old asked_new : ℕ) → (old new : Engine H) → Type 0
HasKeptPace asked_old asked_new old new =
    KeepsPace old.context.workers old.context.chunk_rows asked_old asked_new old.journal.items
    new.journal.items
