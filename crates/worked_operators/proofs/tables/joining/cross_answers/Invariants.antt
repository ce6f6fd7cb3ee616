use Rattle.pipe_probe.specs.Cross.{TakesCross, ServesCross, IsCrossReady}
use Rattle.worked_operators.proofs.tables.joining.cross_answers.Given as goal

abbrev pub invariant-loop-piece : goal.invariant-loop-piece
invariant-loop-piece l = record {
  takes : TakesCross l.probe.output l.chunk.frame.schema;
  built : ServesCross l.probe.output l.built;
  ready : IsCrossReady l.built l.chunk.frame l.probe.begun;
}
