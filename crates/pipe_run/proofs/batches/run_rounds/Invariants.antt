use Rattle.std.proofs.Common.{length}
use Rattle.pipe_run.specs.Rounds.{left_rows}
use Rattle.pipe_run.proofs.Going.{Going}
use Rattle.pipe_run.proofs.batches.run_rounds.Given as goal

abbrev pub invariant-loop-answer : goal.invariant-loop-answer
invariant-loop-answer g l =
    let left = g.I.Source.left in
    let check = g.C.StopCheck in
    Going g.O.Operator g.K.Sink l.shared l.context l.fn.next_index (left l.fn.source) (check.asked l.fn.stop) (check.yes l.fn.stop) l.fn.lanes l.fn.notes.items l.next_index (left l.source) (check.asked l.stop) (check.yes l.stop) l.lanes l.notes.items

abbrev pub decreases-loop-answer : goal.decreases-loop-answer
decreases-loop-answer g l = length (left_rows (g.I.Source.left l.source))
