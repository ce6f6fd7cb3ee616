use Rattle.std.proofs.Common.{◌∙◌, ap, sym, map}
use Rattle.std.proofs.lemmas.List.Elements.{All-push}
use Rattle.pipe_schema.specs.NameOrder.{IsNamePlace, place_in_pair}
use Rattle.pipe_schema.proofs.NameOrders.{name_of_field, places_push}
use Rattle.pipe_schema.proofs.name_order.names_and_places.Goals as goal

pub loop-i-preserved : goal.loop-i-preserved
loop-i-preserved c =
    let fields = c.args.fields.now in
    let i = c.loop-i.i in
    record {
      names = rw c.in_ok-push.ensures.items (All-push (IsNamePlace fields) c.loop-i.pairs.items (c.as_str.result, i) c.loop-i.invariant.names (c.loop-i-test.true, c.as_str.ensures ∙ sym (name_of_field fields i c.index-fields-i.result c.loop-i-test.true)));
      places = ap (map place_in_pair) c.in_ok-push.ensures.items ∙ places_push c.loop-i.pairs.items c.as_str.result i c.loop-i.invariant.places;
    }
