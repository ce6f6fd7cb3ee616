use Rattle.std.proofs.Common.{◌+◌}
use Rattle.pipe_source.proofs.PartRows.{place_there, places_left, row_more, even_more, room_more}
use Rattle.pipe_source.proofs.parts.push_row.Goals as goal

pub nullable_in-valid-requires : goal.nullable_in-valid-requires
nullable_in-valid-requires g c =
    place_there (c.args.i + 1) c.loop-column.column-index c.args.columns.now c.column-item.result c.loop-column.invariant.there c.loop-column-test.true c.column-item.is

pub loop-column-preserved : goal.loop-column-preserved
loop-column-preserved g c =
    let k = c.loop-column.column-index in
    let all = c.args.columns.now in
    let p = c.column-item.result in
    let known = c.loop-column.invariant in
    let validity = c.push_reserved.ensures.items in
    let values = c.push_reserved-in-loop-column.ensures.items in
    record {
      even = even_more c.loop-column.validity.items _ c.loop-column.values.items _ _ _ validity values known.even;
      made = row_more _ c.loop-column.validity.items _ c.loop-column.values.items _ all k c.args.i p _ _ validity values known.made known.even c.loop-column-test.true c.column-item.is c.nullable_in-valid.ensures;
      there = places_left (c.args.i + 1) k all p known.there c.loop-column-test.true;
      room = room_more c.loop-column.validity.items _ _ k all _ _ validity c.push_reserved.ensures.capacity known.room c.loop-column-test.true;
      more = room_more c.loop-column.values.items _ _ k all _ _ values c.push_reserved-in-loop-column.ensures.capacity known.more c.loop-column-test.true;
    }
