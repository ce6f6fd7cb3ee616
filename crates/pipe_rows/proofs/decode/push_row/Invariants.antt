use Rattle.std.proofs.Common.{◌≡◌, ◌++◌, length, drop, take, vec_len}
use Rattle.pipe_rows.specs.Equality.{IsRow, dtypes_of}
use Rattle.pipe_rows.specs.Decoding.{pushed_row}
use Rattle.pipe_rows.proofs.decode.push_row.Given as goal

abbrev pub invariant-loop-value : goal.invariant-loop-value
invariant-loop-value l = record {
  fits : IsRow (dtypes_of (take (length l.row.items) l.columns)) l.row.items;
  pushed : pushed_row (take (length l.row.items) l.columns) l.row.items ++ drop (length l.row.items) l.columns ≡ pushed_row l.initial.columns l.initial.row.items;
}

abbrev pub decreases-loop-value : goal.decreases-loop-value
decreases-loop-value l = vec_len l.row
