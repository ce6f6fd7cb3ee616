use Rattle.std.proofs.Common.{◌≡◌, ◌+◌, ◌≤◌, length, drop}
use Rattle.std.specs.List.{flat_map}
use Rattle.pipe_rows.specs.Ordered.{escaped_byte}
use Rattle.pipe_rows.proofs.byte_string.count_zeros.Given as goal

abbrev pub invariant-loop-byte : goal.invariant-loop-byte
invariant-loop-byte l = record {
  count : l.byte-index + l.zeros + length (flat_map escaped_byte (drop l.byte-index l.bytes)) ≡ length (flat_map escaped_byte l.bytes);
  few : l.zeros ≤ l.byte-index;
}
