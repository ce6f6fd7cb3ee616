use Rattle.pipe_why_value.specs.Order.{names_in}
use Rattle.pipe_why_value.proofs.Orders.{none_read}
use Rattle.pipe_why_value.proofs.order.last_members.Goals as goal

pub loop-i-init : goal.loop-i-init
loop-i-init c = none_read (names_in c.args.members.now) c.new-lasts.result c.new-lasts.ensures.empty

pub loop-i-preserved : goal.loop-i-preserved
loop-i-preserved c = c.in_ok-put_name.ensures (names_in c.args.members.now) c.name_at.ensures c.loop-i.invariant
