use Rattle.std.proofs.Common.{refl}
use Rattle.pipe_value.specs.View.{view}
use Rattle.pipe_why_value.proofs.Looks.{looked_none, looked_twice, member_by_slice, member_there, was_untold}
use Rattle.pipe_why_value.proofs.walk.Walk.missing.Goals as goal

pub loop-member-init : goal.loop-member-init
loop-member-init c = λ w table t good. looked_none (w, view c.args.value.now, t) c.args.self.now _ refl refl

pub loop-member-preserved : goal.loop-member-preserved
loop-member-preserved c = λ w table t good.
    let before = c.loop-member.invariant w table t good in
    looked_twice (w, view c.args.value.now, t) c.args.self.now c.loop-member.self _ before
    (c.in_ok-missing_member.ensures w (search (member_there, member_by_slice, table, c.loop-member-test.true)) t (λ none. good (was_untold c.args.self.now.first c.loop-member.self.first before.kept none)))
