use Rattle.std.proofs.Common.{◌≡◌, ◌+◌, ◌-◌, ◌*◌, ◌≤◌, ◌<◌, ◌++◌}
use Rattle.pipe_ops.specs.Offsets.{pieces_from, split_pieces}
use Rattle.pipe_ops.proofs.offsets.split_offsets.Given as goal

abbrev pub invariant-loop : goal.invariant-loop
invariant-loop l = record {
  made : l.pieces.items ++ pieces_from l.at l.size (l.n + 1 - l.counter) l.len ≡ split_pieces l.len l.n;
  at : l.at + l.size ≡ l.size * l.counter;
  room : l.size * l.n ≤ l.len;
  some : 0 < l.size;
}
