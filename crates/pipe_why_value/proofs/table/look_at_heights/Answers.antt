use Rattle.std.proofs.Common.{refl}
use Rattle.pipe_value.specs.View.{view}
use Rattle.pipe_why_text.specs.declared.want.Want.TheVariants as want
use Rattle.pipe_why_value.proofs.Looks.{looked_none, looked_twice, was_untold}
use Rattle.pipe_why_value.proofs.table.look_at_heights.Goals as goal

pub loop-i-init : goal.loop-i-init
loop-i-init c = λ t good. looked_none (want.Columns, view c.args.columns.now, t) c.args.walk.now _ refl refl

pub loop-i-preserved : goal.loop-i-preserved
loop-i-preserved c = λ t good.
    let before = c.loop-i.invariant t good in
    looked_twice (want.Columns, view c.args.columns.now, t) c.args.walk.now c.loop-i.walk _ before
    (c.in_ok-look_at_height.ensures t (λ none. good (was_untold c.args.walk.now.first c.loop-i.walk.first before.kept none)))
