-- Pipelines that stand for the branches of a plan, before the first of them runs.
use Rattle.std.specs.Prelude.{◌≡◌, ℕ, List, [], length}
use Rattle.std.specs.List.{AllByRecursion}
use Rattle.pipe_plan.specs.Plan.{Plan}
use Rattle.pipe_plan.specs.Faults.{IsWellFormed}
use Rattle.pipe_driver.specs.Meaning.{meaning_of}
use Rattle.pipe_driver.specs.Legs.{ways_of}
use Rattle.pipe_driver.specs.Ways.{feeds, passes}
use Rattle.pipe_driver.specs.Numbers.{named_sinks, sink_number}
use Rattle.pipe_driver.specs.declared.pipe_line.PipeLine.{PipeLine}
use Rattle.pipe_driver.specs.declared.run.Run.{Run}
use Rattle.pipe_driver.specs.Words.{RunnerWords}
use Rattle.pipe_driver.specs.Tables.{number_at}
use Rattle.pipe_driver.specs.State.{World, Waits}
use Rattle.pipe_driver.specs.Lines.{Task, ways_as, IsLine}

-- a plan, and the node whose rows are asked for
pub record Ask : Type 0 where
  pub plan : Plan
  pub root : ℕ

abbrev pub task_of : Ask → Task
task_of ask = record {
  m = meaning_of ask.plan ask.root;
  number = sink_number ask.plan ask.root;
}

-- nothing came anywhere
abbrev pub at_start : World
at_start = record { there = λ x. []; gained = λ j. []; slot = λ j. Waits }

-- The pipelines are the branches of a well-formed plan, in order, and what runs them has all that
-- their legs need. The counts are those of all legs
pub record StandFor {R S P : Type 0} (r : RunnerWords R S P) (ask : Ask) (run : Run R S P)
    (ps : List (PipeLine S P)) : Type 0 where
  pub well : IsWellFormed ask.plan ask.root
  pub ways : ways_as (length ask.plan.nodes) ps ≡ ways_of ask.plan ask.root
  pub lines : AllByRecursion (IsLine r (task_of ask)) ps
  pub fits : r.fits run.runner (meaning_of ask.plan ask.root) at_start
  pub idle : r.idle run.runner
  pub parked : run.parked.items ≡ []
  pub many : length run.counts.left.items ≡ length (named_sinks ask.plan ask.root)
  pub sinks : (s : ℕ) → number_at run.counts.left.items (sink_number ask.plan ask.root s)
      ≡ feeds s (ways_of ask.plan ask.root)
  pub probers : (n : ℕ) → number_at run.probers.left.items n
      ≡ passes n (ways_of ask.plan ask.root)
