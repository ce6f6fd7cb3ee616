use Rattle.std.proofs.Common.{drop}
use Rattle.std.specs.List.{flat_map}
use Rattle.pipe_rows.specs.Ordered.{directed_bytes, escaped_byte}
use Rattle.pipe_rows.proofs.FillingLemmas.{Appending}
use Rattle.pipe_rows.proofs.byte_string.put_all_escaped.Given as goal

abbrev pub invariant-loop-byte : goal.invariant-loop-byte
invariant-loop-byte l = Appending l.i (directed_bytes l.descending (flat_map escaped_byte (drop l.byte-index l.bytes))) l.filler (directed_bytes l.descending (flat_map escaped_byte l.bytes)) l.initial.filler
