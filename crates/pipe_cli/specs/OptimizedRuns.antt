-- What a run on the text that `optimize` writes gives.
use Rattle.std.specs.Prelude.{ℕ, ◌≤◌, List, length}
use Rattle.pipe_job.specs.JobSpelling.{task_spelling}
use Rattle.pipe_cli.specs.Commands.OptimizeCommand.{optimize}
use Rattle.pipe_cli.specs.Commands.RunCommand.{run}
use Rattle.pipe_cli.specs.Contract.{Answered, ShortGood}
use Rattle.pipe_cli.specs.Jobs.{IsWithinJob}
use Rattle.pipe_cli.specs.Optimized.{HaveSameLines}
use Rattle.pipe_cli.specs.Sources.{limit}
use Rattle.serde_json.specs.Data.{depth}
use Rattle.serde_json.specs.Read.{max_depth}

-- Where no node under the root of the given job has more rows than its limit, the text is that of a good job within its
-- limit, if it is no longer than an input may be and nests no deeper than the reader goes: so `run` on it ends with 0, by
-- a fault outside, by a yes of the stop check, or for want of memory (clause `complete` of `run_program`).
abbrev pub OptimizedTextRuns : Type 0
OptimizedTextRuns =
    (bytes text : List ℕ) (made : Answered optimize bytes text) → IsWithinJob made.input
    → length text ≤ limit → depth (task_spelling made.answer.better) ≤ max_depth
    → ShortGood run text

-- Where a run on the given job and one on the text both write their rows, they write the same lines.
abbrev pub OptimizedTextGivesTheRows : Type 0
OptimizedTextGivesTheRows =
    (bytes text given again : List ℕ) (made : Answered optimize bytes text)
    → depth (task_spelling made.answer.better) ≤ max_depth
    → Answered run bytes given → Answered run text again
    → HaveSameLines made.input given again
