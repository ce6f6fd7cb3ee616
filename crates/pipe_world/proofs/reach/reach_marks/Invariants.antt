use Rattle.std.proofs.Common.{◌≡◌, false}
use Rattle.pipe_plain.specs.Tables.{table}
use Rattle.pipe_events.specs.Stages.{reach_at}
use Rattle.pipe_world.specs.Staged.{staged}
use Rattle.pipe_world.proofs.reach.reach_marks.Given as goal

abbrev pub invariant-loop-k : goal.invariant-loop-k
invariant-loop-k l = l.marks ≡ table false (reach_at (staged l.plan) l.n) l.k
