use Rattle.std.proofs.Common.{false, ◌&&◌, get_or, ap, ◌∙◌}
use Rattle.pipe_column.proofs.AllThere.{all_true-more}
use Rattle.pipe_column.proofs.validity.are_true.Goals as goal

pub loop-mark-preserved : goal.loop-mark-preserved
loop-mark-preserved c =
    let i = c.loop-mark.mark-index in
    ap (λ all. all && get_or c.args.marks.now i false) c.loop-mark.invariant ∙ all_true-more c.args.marks.now i c.loop-mark-test.true
