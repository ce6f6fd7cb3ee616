use Rattle.std.proofs.Common.{◌≡◌}
use Rattle.pipe_outer.specs.MarkProbe.{IsDueOrNone}
use Rattle.worked_operators.proofs.marks.full.part_answers.Given as goal

abbrev pub invariant-loop-piece : goal.invariant-loop-piece
invariant-loop-piece g l = record {
  serves : l.full.table.spec ≡ l.probe.spec;
  due : IsDueOrNone (g.H.HashesKeys.hash_of l.full.table.hasher) l.full l.probe.due;
}
