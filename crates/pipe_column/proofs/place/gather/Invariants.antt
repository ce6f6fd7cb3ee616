use Rattle.std.proofs.Common.{◌≡◌, ◌≤◌, map, take, length, vec_capacity}
use Rattle.pipe_column.specs.Column.{value_at}
use Rattle.pipe_column.proofs.place.gather.Given as goal

abbrev pub invariant-loop-place : goal.invariant-loop-place
invariant-loop-place g l = record {
  made : l.made.items ≡ map (value_at l.values l.filler) (map g.P.Place.place (take l.place-index l.places));
  counted : length l.made.items ≡ l.place-index;
  room : length l.places ≤ vec_capacity l.made;
}
