use Rattle.std.proofs.Common.{sym, ◌∙◌}
use Rattle.worked_operators.proofs.WorkingLemmas.{starts-due}
use Rattle.worked_operators.proofs.marks.marking.part_answers.Goals as goal

pub loop-piece-init : goal.loop-piece-init
loop-piece-init g c = record {
  serves = c.requires.full.spec_is ∙ sym (c.start_flush.ensures.spec ∙ c.new-probe.ensures.spec);
  due = starts-due (g.H.HashesKeys.hash_of c.args.full.now.table.hasher) c.args.full.now c.args.p 2 _ c.requires.full.parts_are c.requires.partition c.start_flush.ensures.due;
}

pub loop-piece-preserved : goal.loop-piece-preserved
loop-piece-preserved g c = record {
  serves = c.loop-piece.invariant.serves ∙ sym c.next_of_flush.ensures.spec;
  due = c.in_ok-answer.ensures.due;
}
