use Rattle.std.proofs.Common.{◌∙◌}
use Rattle.pipe_convert.proofs.JoinNodes.{not_under}
use Rattle.pipe_convert.proofs.joins.spec_under.Goals as goal

pub returns-else-under : goal.returns-else-under
returns-else-under c = not_under c.args.plan.now c.args.n (c.requires ∙ c.if-under.false)
