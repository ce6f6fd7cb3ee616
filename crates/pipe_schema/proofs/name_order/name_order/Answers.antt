use Rattle.std.proofs.Common.{◌∙◌, ap, map}
use Rattle.pipe_schema.specs.NameOrder.{place_in_pair}
use Rattle.pipe_schema.proofs.NameOrders.{ordered_by_sort}
use Rattle.pipe_schema.proofs.name_order.name_order.Goals as goal

pub returns : goal.returns
returns c = ordered_by_sort c.args.fields.now c.in_ok-pairs.pairs.items c.sort_unstable.new.self.items c.in_ok-places.field-0.items c.in_ok-pairs.ensures.names c.in_ok-pairs.ensures.places c.sort_unstable.ensures.permutation c.sort_unstable.ensures.sorted (c.in_ok-places.ensures ∙ ap (map place_in_pair) c.as_slice.ensures.value)
