use Rattle.std.proofs.Common.{◌≡◌, map, take, []}
use Rattle.pipe_column.specs.Column.{value_at}
use Rattle.pipe_column.proofs.piece_buffer.PieceBuffer.take_at.Given as goal

abbrev pub invariant-loop-place : goal.invariant-loop-place
invariant-loop-place g l = l.taken ≡ map (value_at l.self []) (map g.P.Place.place (take l.place-index l.places))
