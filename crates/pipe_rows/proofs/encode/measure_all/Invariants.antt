use Rattle.std.proofs.Common.{◌≡◌, ℕ, ◌+◌, ◌<◌, length, drop, get_or}
use Rattle.std.specs.Prelude.{◌||◌, false}
use Rattle.pipe_column.specs.Columns.{row_at}
use Rattle.pipe_rows.specs.Encodings.{encoded_bytes}
use Rattle.pipe_rows.specs.Equality.{has_null_cell}
use Rattle.pipe_rows.proofs.encode.measure_all.Given as goal

abbrev pub invariant-loop-k : goal.invariant-loop-k
invariant-loop-k l = record {
  wide : length l.widths ≡ length l.initial.widths;
  long : length l.marks ≡ length l.initial.marks;
  widths : (i : ℕ) → i < length l.widths → get_or l.widths i 0 + length (encoded_bytes (drop l.k l.encodings) (row_at (drop l.k l.columns) i)) ≡ get_or l.initial.widths i 0 + length (encoded_bytes l.encodings (row_at l.columns i));
  marks : (i : ℕ) → i < length l.marks → get_or l.marks i false || has_null_cell (row_at (drop l.k l.columns) i) ≡ get_or l.initial.marks i false || has_null_cell (row_at l.columns i);
}
