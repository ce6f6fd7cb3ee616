use Rattle.std.proofs.Common.{refl, ◌∙◌}
use Rattle.std.proofs.lemmas.Result.{IfOk-weaker}
use Rattle.pipe_optimize.specs.Lists.{names_at}
use Rattle.pipe_optimize.proofs.Shared.{left-kept}
use Rattle.pipe_optimize.proofs.needed.raw_need.Goals as goal

pub returns-then-input-left : goal.returns-then-input-left
returns-then-input-left c =
    IfOk-weaker c.kept_left_beside.result _ _ (λ kept h. h ∙ left-kept (names_at c.args.lists.now) c.args.node.now c.args.needed.now c.args.input c.in-Join.left c.in-Join.right c.in-Join.left_on c.in-Join.right_on c.in-Join.options (names_at c.args.lists.now c.in-Join.left) c.names_at-rights.result.now c.as_slice-left_on.result.now c.as_slice-right_on.result.now c.in-Join.is c.if-input-left.true refl c.names_at-rights.ensures c.as_slice-left_on.ensures c.as_slice-right_on.ensures) c.kept_left_beside.ensures
