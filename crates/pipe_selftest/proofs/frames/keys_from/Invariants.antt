use Rattle.std.proofs.Common.{◌≡◌, map}
use Rattle.std.specs.List.{range_with_len}
use Rattle.pipe_schema.specs.Cell.{int64_cell}
use Rattle.pipe_selftest.specs.Frames.{key_at, state_after}
use Rattle.pipe_selftest.proofs.frames.keys_from.Given as goal

abbrev pub invariant-loop-i : goal.invariant-loop-i
invariant-loop-i l = record {
  keys : map int64_cell l.keys ≡ map (key_at l.start l.rows) (range_with_len 0 l.i);
  drawn : l.state ≡ state_after l.start l.i;
}
