use Rattle.std.proofs.Common.{rules, ap, sym, subst, ◌∙◌}
use Rattle.pipe_outer.specs.FullProbe.{IsFullReady}
use Rattle.pipe_table.specs.Spec.{probed_schema}
use Rattle.worked_operators.proofs.marks.full.chunk_answers.Goals as goal

pub loop-piece-init : goal.loop-piece-init
loop-piece-init g c = record {
  serves = c.requires.idle.serves;
  seat = c.requires.idle.seat;
  takes = c.requires.takes ∙ ap probed_schema c.requires.idle.serves;
  ready = subst (IsFullReady c.args.full.now.table c.args.chunk.now.frame) (sym c.requires.idle.begun) tt;
}

pub loop-piece-preserved : goal.loop-piece-preserved
loop-piece-preserved g c =
    let known = c.loop-piece.invariant in
    let step = c.next_piece.ensures in
    let told = c.in_ok-put_answer.ensures in
    let goes_on = c.if-not-branch.false in
    record {
      serves = known.serves ∙ sym step.spec;
      seat = step.seat;
      takes = known.takes ∙ ap probed_schema (sym step.spec);
      ready = c.in_ok-answer.ensures.more (search (rules, told, goes_on));
    }
