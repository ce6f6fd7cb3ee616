use Rattle.std.proofs.Common.{◌≡◌, [], deque_len}
use Rattle.std.specs.Prelude.{Ok, Result}
use Rattle.pipe_driver.specs.declared.error.RunError.{RunError}
use Rattle.pipe_engine.specs.Asked.{WasAsked}
use Rattle.pipe_engine.specs.Drives.{ForEach, CanRun, HasRunTo, IsRootAnswer}
use Rattle.pipe_engine.specs.Paced.{HasKeptPace, TakesPaced, most_of, rows_due_of}
use Rattle.pipe_engine.proofs.Asked.{answers}
use Rattle.pipe_engine.specs.Journals.{Keeps, NotedAt}
use Rattle.pipe_engine.proofs.running.run_fronts.Given as goal

abbrev pub invariant-fronts : goal.invariant-fronts
invariant-fronts g l =
    let fine : Result (Unit {0}) RunError = Ok tt in
    record {
      on : ForEach (CanRun g.H.KeyHasher.hash_of l.fn.run l.fn.pipelines.items) (HasRunTo g.H.KeyHasher.hash_of l.fn.run l.run l.left.items l.answer);
      noted : ForEach (CanRun g.H.KeyHasher.hash_of l.fn.run l.fn.pipelines.items)
          (Keeps l.fn.run (NotedAt l.fn.run l.fn.pipelines.items) (NotedAt l.run l.left.items));
      parked : l.run.parked.items ≡ [];
      schema : ForEach (CanRun g.H.KeyHasher.hash_of l.fn.run l.fn.pipelines.items) (IsRootAnswer l.answer);
      asked : WasAsked g.C.StopCheck (answers l.answer) l.fn.stop l.stop fine;
      context : l.run.runner.context ≡ l.fn.run.runner.context;
      paced : TakesPaced (most_of l.fn.run.runner.context) (rows_due_of l.fn.pipelines.items) (rows_due_of l.left.items) (g.C.StopCheck.asked l.fn.stop) (g.C.StopCheck.asked l.stop);
      kept : HasKeptPace (g.C.StopCheck.asked l.fn.stop) (g.C.StopCheck.asked l.stop) l.fn.run.runner l.run.runner;
    }

abbrev pub decreases-fronts : goal.decreases-fronts
decreases-fronts g l = deque_len l.left
