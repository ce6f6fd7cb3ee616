use Rattle.std.proofs.Common.{◌≤◌, ◌++◌, length, drop}
use Rattle.pipe_schema.specs.Rows.{Row}
use Rattle.pipe_rows.specs.Decoding.{Encodes, IsEncoding}
use Rattle.pipe_rows.proofs.decode.decode_row.Given as goal

abbrev pub invariant-loop-k : goal.invariant-loop-k
invariant-loop-k l = record {
  within : l.at ≤ length l.bytes;
  taken : (more : Row) → Encodes (drop l.k l.fields) (drop l.k l.dtypes) more (drop l.at l.bytes) → Encodes l.fields l.dtypes (l.row.items ++ more) l.bytes;
  whole : IsEncoding l.fields l.dtypes l.bytes → IsEncoding (drop l.k l.fields) (drop l.k l.dtypes) (drop l.at l.bytes);
}
