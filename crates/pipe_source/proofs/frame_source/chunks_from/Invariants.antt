use Rattle.std.proofs.Common.{◌≡◌, ◌+◌, ◌-◌, ◌≤◌, ◌++◌, length, drop}
use Rattle.pipe_ops.specs.Batches.{cut}
use Rattle.pipe_source.proofs.frame_source.chunks_from.Given as goal

abbrev pub invariant-loop-i : goal.invariant-loop-i
invariant-loop-i l = record {
  less : l.at ≤ length l.frame.rows;
  rest :
      l.chunks.items ++ cut (l.many - l.i) l.size (l.index + l.i) 0 l.at l.frame.schema (drop l.at l.frame.rows)
      ≡ cut l.many l.size l.index 0 l.from l.frame.schema (drop l.from l.frame.rows);
}
