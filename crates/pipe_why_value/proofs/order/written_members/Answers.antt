use Rattle.std.proofs.Common.{sym, ap, ◌∙◌}
use Rattle.json.specs.Value.{value_view}
use Rattle.json.proofs.Trees.{view-Object}
use Rattle.pipe_why_value.specs.Order.{names_in, names_of}
use Rattle.pipe_why_value.proofs.Orders.{names_read}
use Rattle.pipe_why_value.proofs.order.written_members.Goals as goal

pub returns-in-Object : goal.returns-in-Object
returns-in-Object c =
    ap names_in c.as_slice.ensures.value ∙ names_read c.in-Object.members.items ∙ ap names_of (sym (ap value_view c.in-Object.is ∙ view-Object c.in-Object.members))
