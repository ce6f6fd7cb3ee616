use Rattle.std.proofs.Common.{◌≡◌, []}
use Rattle.pipe_plain.specs.Tables.{table, at_place}
use Rattle.pipe_events.specs.Stages.{flow_at, only}
use Rattle.pipe_world.specs.Staged.{staged}
use Rattle.pipe_world.proofs.flows.flows_of.Given as goal

abbrev pub invariant-loop-k : goal.invariant-loop-k
invariant-loop-k l = l.flows ≡ table [] (flow_at (staged l.plan) (at_place [] l.bags) (only l.node l.rows)) l.k
