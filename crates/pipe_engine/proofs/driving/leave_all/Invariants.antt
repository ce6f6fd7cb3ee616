use Rattle.std.proofs.Common.{◌≡◌, drop}
use Rattle.std.specs.Prelude.{Ok, Result}
use Rattle.pipe_driver.specs.declared.error.RunError.{RunError}
use Rattle.pipe_engine.specs.Asked.{WasAsked}
use Rattle.pipe_engine.specs.Drives.{ForEach, CanPass, IsLeftAt}
use Rattle.pipe_engine.specs.Journals.{Keeps, NotedAt}
use Rattle.pipe_engine.specs.Paced.{HasKeptPace}
use Rattle.pipe_engine.proofs.driving.leave_all.Given as goal

abbrev pub invariant-loop-place : goal.invariant-loop-place
invariant-loop-place g l =
    let fine : Result (Unit {0}) RunError = Ok tt in
    record {
      passes : ForEach (CanPass g.H.KeyHasher.hash_of l.initial.run l.operators l.at l.pipelines.items)
          (IsLeftAt g.H.KeyHasher.hash_of l.run (drop l.place l.operators) l.at l.pipelines.items);
      noted : ForEach (CanPass g.H.KeyHasher.hash_of l.initial.run l.operators l.at l.pipelines.items)
          (Keeps l.initial.run (NotedAt l.initial.run l.pipelines.items) (NotedAt l.run l.pipelines.items));
      parked : l.run.parked ≡ l.initial.run.parked;
      counts : l.run.counts ≡ l.initial.run.counts;
      asked : WasAsked g.C.StopCheck 0 l.initial.stop l.stop fine;
      kept : HasKeptPace (g.C.StopCheck.asked l.initial.stop) (g.C.StopCheck.asked l.stop) l.initial.run.runner l.run.runner;
      context : l.run.runner.context ≡ l.initial.run.runner.context;
      sinks : l.run.runner.sinks ≡ l.initial.run.runner.sinks;
    }
