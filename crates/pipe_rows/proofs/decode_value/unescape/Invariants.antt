use Rattle.std.proofs.Common.{◌≡◌, ◌-◌, ◌≤◌, ◌++◌, length, drop}
use Rattle.std.specs.List.{flat_map}
use Rattle.pipe_rows.specs.Ordered.{directed_bytes, escaped_byte}
use Rattle.pipe_rows.specs.Decoding.{IsEnded}
use Rattle.pipe_rows.proofs.decode_value.unescape.Given as goal

abbrev pub invariant-loop-at : goal.invariant-loop-at
invariant-loop-at l = record {
  within : l.at ≤ length l.rest;
  text : flat_map escaped_byte l.text.items ++ drop l.at (directed_bytes l.descending l.rest) ≡ directed_bytes l.descending l.rest;
  whole : IsEnded (directed_bytes l.descending l.rest) → IsEnded (drop l.at (directed_bytes l.descending l.rest));
}

abbrev pub decreases-loop-at : goal.decreases-loop-at
decreases-loop-at l = length l.rest - l.at
