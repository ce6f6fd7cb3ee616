use Rattle.std.proofs.Common.{length, ◌≡◌, ◌≤◌, true}
use Rattle.std.specs.List.{AllByRecursion}
use Rattle.pipe_chain.specs.Chain.{works_of, acts_of, SameWork}
use Rattle.pipe_chain.specs.Counts.{AllWithin}
use Rattle.pipe_run.specs.Stages.{operators_of, nodes_of, counts, Flushed}
use Rattle.pipe_run.proofs.Limits.{Drained}
use Rattle.pipe_run.proofs.draining.drain.Given as goal

abbrev pub invariant-loop-answer : goal.invariant-loop-answer
invariant-loop-answer g l =
    let op = g.O.Operator in
    record {
      flushed : Flushed op l.own l.initial.operator l.operator;
      begun : op.flushing l.operator ≡ true;
      others : SameWork op (operators_of l.initial.rest) (operators_of l.rest);
      idle : AllByRecursion op.idle (operators_of l.rest);
      nodes : nodes_of l.rest l.target ≡ nodes_of l.initial.rest l.initial.target;
      setting : g.K.Sink.setting l.target.sink ≡ g.K.Sink.setting l.initial.target.sink;
      schema : g.K.Sink.schema l.target.sink ≡ g.K.Sink.schema l.initial.target.sink;
      gives : g.K.Sink.gives l.target.sink ≡ g.K.Sink.gives l.initial.target.sink;
      within : AllWithin l.context.row_limit (counts l.rest l.target);
      room : length (g.K.Sink.held l.target.sink) ≤ l.target.given;
      drained : Drained (works_of op (op.flushed l.initial.operator) (operators_of l.initial.rest) l.others) (acts_of op (operators_of l.initial.rest)) (acts_of op (operators_of l.rest)) (counts l.initial.rest l.initial.target) (counts l.rest l.target) (op.owed l.operator l.own) (op.owed l.initial.operator l.own) (g.K.Sink.held l.initial.target.sink) (g.K.Sink.held l.target.sink);
    }

abbrev pub decreases-loop-answer : goal.decreases-loop-answer
decreases-loop-answer g l = length (g.O.Operator.owed l.operator l.own)
