use Rattle.std.proofs.Common.{◌≡◌, map, take, replicate, true, false}
use Rattle.pipe_column.specs.Column.{value_at}
use Rattle.pipe_column.specs.Validity.{all_true}
use Rattle.pipe_column.proofs.validity.are_within.Given as goal

abbrev pub invariant-loop-place : goal.invariant-loop-place
invariant-loop-place g l = l.all ≡ all_true (map (value_at (replicate l.count true) false) (map g.P.Place.place (take l.place-index l.places)))
