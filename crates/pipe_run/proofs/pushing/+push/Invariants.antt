use Rattle.std.proofs.Common.{length, ◌≡◌, ◌+◌, ◌*◌, ◌≤◌}
use Rattle.std.specs.List.{AllByRecursion}
use Rattle.pipe_chain.specs.Chain.{works_of, acts_of, SameOne, SameWork}
use Rattle.pipe_chain.specs.Counts.{AllWithin, Going}
use Rattle.pipe_run.specs.Stages.{operators_of, nodes_of, counts}
use Rattle.pipe_run.proofs.Debts.{debt_of}
use Rattle.pipe_run.proofs.pushing.+push.Given as goal

abbrev pub decreases-push : goal.decreases-push
decreases-push g l = 2 * length l.stages.now

abbrev pub decreases-pump : goal.decreases-pump
decreases-pump g l = 2 * length l.rest.now + 1

abbrev pub invariant-pump-loop-answer : goal.invariant-pump-loop-answer
invariant-pump-loop-answer g l =
    let op = g.O.Operator in
    let frame = l.chunk.frame in
    record {
      one : SameOne op l.initial.operator l.operator;
      ready : op.ready l.operator l.own frame;
      others : SameWork op (operators_of l.initial.rest) (operators_of l.rest);
      idle : AllByRecursion op.idle (operators_of l.rest);
      nodes : nodes_of l.rest l.target ≡ nodes_of l.initial.rest l.initial.target;
      setting : g.K.Sink.setting l.target.sink ≡ g.K.Sink.setting l.initial.target.sink;
      schema : g.K.Sink.schema l.target.sink ≡ g.K.Sink.schema l.initial.target.sink;
      gives : g.K.Sink.gives l.target.sink ≡ g.K.Sink.gives l.initial.target.sink;
      within : AllWithin l.context.row_limit (counts l.rest l.target);
      room : length (g.K.Sink.held l.target.sink) ≤ l.target.given;
      going : Going (op.work l.initial.operator frame.schema l.own) (works_of op (op.output l.initial.operator frame.schema) (operators_of l.initial.rest) l.others) (op.acts l.initial.operator) (op.acts l.operator) (acts_of op (operators_of l.initial.rest)) (acts_of op (operators_of l.rest)) (counts l.initial.rest l.initial.target) (counts l.rest l.target) frame.rows (op.rest l.operator l.own frame) (g.K.Sink.held l.initial.target.sink) (g.K.Sink.held l.target.sink);
    }

abbrev pub decreases-pump-loop-answer : goal.decreases-pump-loop-answer
decreases-pump-loop-answer g l =
    debt_of (g.O.Operator.work l.initial.operator l.chunk.frame.schema l.own) (g.O.Operator.rest l.operator l.own l.chunk.frame)
