use Rattle.std.proofs.Common.{◌≡◌, length}
use Rattle.pipe_rows.proofs.DenseLemmas.{SoFar}
use Rattle.pipe_rows.proofs.dense.write_columns.Given as goal

abbrev pub invariant-loop-k : goal.invariant-loop-k
invariant-loop-k l = record {
  long : length l.bytes ≡ length l.initial.bytes;
  so_far : SoFar l.encodings l.columns l.height l.width l.k l.offset l.bytes;
}
