use Rattle.std.proofs.Common.{rules}
use Rattle.worked_operators.proofs.tables.joining.cross_answers.Goals as goal

pub loop-piece-preserved : goal.loop-piece-preserved
loop-piece-preserved c =
    let known = c.loop-piece.invariant in
    let step = c.execute.ensures in
    let told = c.in_ok-put_answer.ensures in
    let goes_on = c.if-not-branch.false in
    record {
      takes = step.takes _ known.takes;
      built = step.serves _ known.built;
      ready = c.in_ok-answer.ensures.more (search (rules, told, goes_on));
    }
