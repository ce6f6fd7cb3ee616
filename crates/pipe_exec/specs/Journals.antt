-- What the journal of a run is: a complete list of events of its plan.
use Rattle.std.specs.Prelude.{ℕ, List, []}
use Rattle.pipe_plan.specs.Plan.{Plan}
use Rattle.pipe_lines.specs.Journals.{IsJournalOf}
use Rattle.pipe_run.specs.Paced.{KeepsPace}
use Rattle.pipe_exec.specs.declared.answer.RunAnswer.{RunAnswer}

-- the journal of an answer is complete, and brings the root the rows of its frame
abbrev pub HasJournal : Plan → (root : ℕ) → (hash_of : List ℕ → ℕ) → (workers : ℕ) → RunAnswer →
    Type 0
HasJournal plan root hash_of workers answer =
    IsJournalOf plan root hash_of workers answer.journal.events answer.frame

-- the stop check was asked so many times, so many workers took at most four times each a question, and each
-- time some rows, at most so many
abbrev pub KeptPace : (workers rows asked_old asked_new : ℕ) → RunAnswer → Type 0
KeptPace workers rows asked_old asked_new answer =
    KeepsPace workers rows asked_old asked_new [] answer.journal.events
