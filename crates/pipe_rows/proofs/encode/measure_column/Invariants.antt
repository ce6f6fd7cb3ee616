use Rattle.std.proofs.Common.{◌+◌, length}
use Rattle.std.specs.Prelude.{◌||◌, false}
use Rattle.pipe_rows.specs.Encodings.{cell_bytes_at, null_at_place}
use Rattle.pipe_rows.proofs.FillingLemmas.{Stored}
use Rattle.pipe_rows.proofs.encode.measure_column.Given as goal

abbrev pub invariant-loop-i : goal.invariant-loop-i
invariant-loop-i g l = record {
  widths : Stored 0 l.i (λ k width. width + length (cell_bytes_at l.encoding l.series.cells k)) l.widths l.initial.widths;
  marks : Stored false l.i (λ k mark. mark || null_at_place l.series.cells k) l.marks l.initial.marks;
}
