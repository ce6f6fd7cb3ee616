use Rattle.std.proofs.Common.{ℕ, ◌<◌}
use Rattle.pipe_column.specs.Series.{cell_at}
use Rattle.pipe_rows.specs.Encodings.{cell_bytes_at}
use Rattle.pipe_rows.specs.Equality.{IsCell}
use Rattle.pipe_rows.specs.Filling.{appended, unwritten}
use Rattle.pipe_rows.proofs.FillingLemmas.{Stored}
use Rattle.pipe_rows.proofs.encode.fill_column.Given as goal

abbrev pub invariant-loop-i : goal.invariant-loop-i
invariant-loop-i g l = record {
  rows : Stored (unwritten 0) l.i (λ k row. appended (cell_bytes_at l.encoding l.series.cells k) row) l.filler l.initial.filler;
  cells : (k : ℕ) → k < l.i → IsCell l.series.dtype (cell_at l.series.cells k);
}
