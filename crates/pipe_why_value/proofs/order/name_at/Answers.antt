use Rattle.pipe_why_value.proofs.Orders.{name_there}
use Rattle.pipe_why_value.proofs.order.name_at.Goals as goal

pub returns : goal.returns
returns c = name_there c.args.members.now c.args.i _ c.requires
