use Rattle.std.proofs.Common.{◌≡◌, length}
use Rattle.pipe_plan.specs.Plan.{plan_of}
use Rattle.pipe_plan.specs.Faults.{plan_fault}
use Rattle.pipe_check.proofs.Kept.{AreChecked}
use Rattle.pipe_check.proofs.FirstFault.{faults_from}
use Rattle.pipe_check.proofs.check.kept_schemas.Given as goal

abbrev pub invariant-loop-n : goal.invariant-loop-n
invariant-loop-n l = record {
  sized : length l.read ≡ length l.arena.nodes;
  many : length l.schemas ≡ l.n;
  known : AreChecked (plan_of l.arena) l.root l.n l.schemas l.read;
  rest : faults_from (plan_of l.arena) l.root l.n ≡ plan_fault (plan_of l.arena) l.root;
}
