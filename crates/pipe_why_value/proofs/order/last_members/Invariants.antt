use Rattle.pipe_why_value.specs.Order.{AreLasts, names_in}
use Rattle.pipe_why_value.proofs.order.last_members.Given as goal

abbrev pub invariant-loop-i : goal.invariant-loop-i
invariant-loop-i l = AreLasts (names_in l.members) l.i l.lasts
