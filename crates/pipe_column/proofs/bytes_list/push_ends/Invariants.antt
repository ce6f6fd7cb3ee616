use Rattle.std.proofs.Common.{◌≡◌, ◌+◌, ◌≤◌, ◌++◌, map, take, length, vec_len, vec_capacity}
use Rattle.pipe_column.specs.Column.{more}
use Rattle.pipe_column.proofs.bytes_list.push_ends.Given as goal

abbrev pub invariant-loop-end : goal.invariant-loop-end
invariant-loop-end l = record {
  items : l.ends.items ≡ l.fn.ends.items ++ map (more l.start) (take l.end-index l.further);
  counted : vec_len l.ends ≡ vec_len l.fn.ends + l.end-index;
  room : vec_len l.fn.ends + length l.further ≤ vec_capacity l.ends;
}
