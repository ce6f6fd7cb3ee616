use Rattle.std.proofs.Common.{◌≡◌}
use Rattle.pipe_frame.specs.Chunks.{HasSchema}
use Rattle.pipe_table.specs.Spec.{probed_schema}
use Rattle.pipe_outer.specs.MarkProbe.{HoldsSeat, IsGivenReady}
use Rattle.worked_operators.proofs.marks.marking.chunk_answers.Given as goal

abbrev pub invariant-loop-piece : goal.invariant-loop-piece
invariant-loop-piece g l = record {
  serves : l.full.table.spec ≡ l.probe.spec;
  seat : HoldsSeat l.full.marks l.probe.seat;
  takes : HasSchema (probed_schema l.probe.spec) l.chunk;
  ready : IsGivenReady l.full.table.rows l.probe.begun;
}
