use Rattle.std.proofs.Common.{◌≡◌, ◌≤◌, ℕ, ◌∷◌, deque_len}
use Rattle.std.specs.Prelude.{Ok, Result}
use Rattle.pipe_driver.specs.declared.error.RunError.{RunError}
use Rattle.pipe_engine.specs.Asked.{WasAsked}
use Rattle.pipe_driver.specs.Tables.{number_at}
use Rattle.pipe_engine.specs.Drives.{AreOpen, ForEach, CanBegin, IsOnTheFront, IsRootAnswer, LowersRoot}
use Rattle.pipe_engine.specs.Engine.{NoneOpen}
use Rattle.pipe_engine.specs.Paced.{HasKeptPace, TakesPaced, most_of, rows_due_of}
use Rattle.pipe_engine.specs.Journals.{Keeps, NotedAt, NotedGoing}
use Rattle.pipe_engine.proofs.running.run_front.Given as goal

abbrev pub invariant-branches : goal.invariant-branches
invariant-branches g l =
    let fine : Result (Unit {0}) RunError = Ok tt in
    record {
      on : ForEach (CanBegin g.H.KeyHasher.hash_of l.initial.run (l.initial.current ∷ l.initial.pipelines.items))
          (IsOnTheFront g.H.KeyHasher.hash_of (l.initial.current ∷ l.initial.pipelines.items) l.initial.run l.run l.current l.pipelines.items l.fed.items l.answer);
      schema : ForEach (CanBegin g.H.KeyHasher.hash_of l.initial.run (l.initial.current ∷ l.initial.pipelines.items)) (IsRootAnswer l.answer);
      noted : ForEach (CanBegin g.H.KeyHasher.hash_of l.initial.run (l.initial.current ∷ l.initial.pipelines.items))
          (Keeps l.initial.run (NotedAt l.initial.run (l.initial.current ∷ l.initial.pipelines.items)) (NotedGoing l.run l.current l.pipelines.items));
      asked : WasAsked g.C.StopCheck 0 l.initial.stop l.stop fine;
      context : l.run.runner.context ≡ l.initial.run.runner.context;
      paced : TakesPaced (most_of l.initial.run.runner.context) (rows_due_of (l.initial.current ∷ l.initial.pipelines.items)) (rows_due_of (l.current ∷ l.pipelines.items)) (g.C.StopCheck.asked l.initial.stop) (g.C.StopCheck.asked l.stop);
      falls : (n : ℕ) → number_at l.run.counts.left.items n ≤ number_at l.initial.run.counts.left.items n;
      lowers : ForEach (CanBegin g.H.KeyHasher.hash_of l.initial.run (l.initial.current ∷ l.initial.pipelines.items)) (LowersRoot l.initial.run l.run l.answer);
      opened : ForEach (CanBegin g.H.KeyHasher.hash_of l.initial.run (l.initial.current ∷ l.initial.pipelines.items)) (λ k. NoneOpen l.initial.run.runner → AreOpen l.fed.items l.run k);
      kept : HasKeptPace (g.C.StopCheck.asked l.initial.stop) (g.C.StopCheck.asked l.stop) l.initial.run.runner l.run.runner;
    }

abbrev pub decreases-branches : goal.decreases-branches
decreases-branches g l = deque_len l.pipelines
