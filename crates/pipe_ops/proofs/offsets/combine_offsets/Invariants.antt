use Rattle.std.proofs.Common.{◌≡◌, ◌*◌, ◌++◌, take, drop, length}
use Rattle.pipe_ops.specs.Offsets.{joined_pieces}
use Rattle.pipe_ops.proofs.offsets.combine_offsets.Given as goal

abbrev pub invariant-loop-i : goal.invariant-loop-i
invariant-loop-i l = record {
  count : length l.offsets.items ≡ l.count;
  first : take l.i l.offsets.items ++ joined_pieces (drop (2 * l.i) l.initial.offsets.items) ≡ joined_pieces l.initial.offsets.items;
  others : drop (2 * l.i) l.offsets.items ≡ drop (2 * l.i) l.initial.offsets.items;
}
