use Rattle.std.proofs.Common.{◌≡◌, ℕ, ◌<◌, length, drop}
use Rattle.pipe_column.specs.Columns.{row_at}
use Rattle.pipe_rows.specs.Encodings.{encoded_bytes}
use Rattle.pipe_rows.specs.Equality.{IsRow, dtypes_of}
use Rattle.pipe_rows.specs.Filling.{open_row_at, appended, HasRoom}
use Rattle.pipe_rows.proofs.encode.fill_all.Given as goal

abbrev pub invariant-loop-k : goal.invariant-loop-k
invariant-loop-k l = record {
  count : length l.filler ≡ length l.initial.filler;
  room : (i : ℕ) → i < length l.filler → HasRoom (encoded_bytes (drop l.k l.encodings) (row_at (drop l.k l.columns) i)) (open_row_at l.filler i);
  rows : (i : ℕ) → i < length l.filler → appended (encoded_bytes (drop l.k l.encodings) (row_at (drop l.k l.columns) i)) (open_row_at l.filler i) ≡ appended (encoded_bytes l.encodings (row_at l.columns i)) (open_row_at l.initial.filler i);
  cells : (i : ℕ) → i < length l.filler → IsRow (dtypes_of (drop l.k l.columns)) (row_at (drop l.k l.columns) i) → IsRow (dtypes_of l.columns) (row_at l.columns i);
}
