use Rattle.std.proofs.Common.{◌≡◌, map}
use Rattle.std.specs.Prelude.{All}
use Rattle.std.specs.List.{range_with_len}
use Rattle.pipe_schema.specs.NameOrder.{IsNamePlace, place_in_pair}
use Rattle.pipe_schema.proofs.name_order.names_and_places.Given as goal

abbrev pub invariant-loop-i : goal.invariant-loop-i
invariant-loop-i l = record {
  names : All (IsNamePlace l.fields) l.pairs.items;
  places : map place_in_pair l.pairs.items ≡ range_with_len 0 l.i;
}
