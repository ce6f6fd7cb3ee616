use Rattle.std.proofs.Common.{◌≡◌, ◌-◌, [], length}
use Rattle.std.specs.List.{range_with_len}
use Rattle.pipe_plan.specs.Plan.{plan_of}
use Rattle.pipe_plan.specs.Schemas.{schema_at}
use Rattle.pipe_plan.specs.Faults.{first_fault}
use Rattle.pipe_plain.specs.Tables.{table}
use Rattle.pipe_plain.proofs.faults.least_fault.Given as goal

abbrev pub invariant-loop-n : goal.invariant-loop-n
invariant-loop-n l =
    let plan = plan_of l.arena in
    let nodes = length l.arena.nodes in
    record {
      schemas : l.schemas ≡ table [] (schema_at plan) l.n;
      rest : first_fault plan l.root (range_with_len l.n (nodes - l.n)) ≡ first_fault plan l.root (range_with_len 0 nodes);
    }
