use Rattle.std.proofs.Common.{◌≡◌, ◌≤◌, ℕ, ◌∷◌}
use Rattle.std.specs.Prelude.{Ok, Result}
use Rattle.pipe_driver.specs.declared.error.RunError.{RunError}
use Rattle.pipe_driver.specs.Lines.{steps_left}
use Rattle.pipe_driver.specs.Tables.{number_at}
use Rattle.pipe_engine.specs.Asked.{WasAsked}
use Rattle.pipe_engine.specs.Drives.{ForEach, CanGo, IsGoing, KeepsOpen}
use Rattle.pipe_engine.specs.Paced.{HasKeptPace, TakesPaced, most_of, rows_due_from}
use Rattle.pipe_engine.specs.Journals.{Keeps, NotedGoing}
use Rattle.pipe_engine.proofs.running.run_way.Given as goal

abbrev pub invariant-ways : goal.invariant-ways
invariant-ways g l =
    let fine : Result (Unit {0}) RunError = Ok tt in
    record {
      on : ForEach (CanGo g.H.KeyHasher.hash_of l.initial.run l.initial.current l.pipelines.items)
          (IsGoing g.H.KeyHasher.hash_of l.initial.current l.initial.run l.run l.current l.pipelines.items l.initial.fed.items l.fed.items);
      noted : ForEach (CanGo g.H.KeyHasher.hash_of l.initial.run l.initial.current l.pipelines.items)
          (Keeps l.initial.run (NotedGoing l.initial.run l.initial.current l.pipelines.items) (NotedGoing l.run l.current l.pipelines.items));
      asked : WasAsked g.C.StopCheck 0 l.initial.stop l.stop fine;
      context : l.run.runner.context ≡ l.initial.run.runner.context;
      paced : TakesPaced (most_of l.initial.run.runner.context) (rows_due_from l.initial.current.source) (rows_due_from l.current.source) (g.C.StopCheck.asked l.initial.stop) (g.C.StopCheck.asked l.stop);
      falls : (n : ℕ) → number_at l.run.counts.left.items n ≤ number_at l.initial.run.counts.left.items n;
      opened : ForEach (CanGo g.H.KeyHasher.hash_of l.initial.run l.initial.current l.pipelines.items) (KeepsOpen l.initial.run l.run l.initial.fed.items l.fed.items);
      kept : HasKeptPace (g.C.StopCheck.asked l.initial.stop) (g.C.StopCheck.asked l.stop) l.initial.run.runner l.run.runner;
    }

abbrev pub decreases-ways : goal.decreases-ways
decreases-ways g l = steps_left (l.current ∷ l.run.parked.items)
