use Rattle.std.specs.Prelude.{◌≡◌}
use Rattle.pipe_probe.specs.Probed.{TakesProbed, IsReady}
use Rattle.worked_operators.proofs.tables.joining.table_answers.Given as goal

abbrev pub invariant-loop-piece : goal.invariant-loop-piece
invariant-loop-piece g l = record {
  takes : TakesProbed l.probe.output l.chunk.frame.schema;
  table : l.table.spec ≡ l.probe.output;
  ready : IsReady l.probe.output l.table l.chunk.frame l.probe.begun;
}
