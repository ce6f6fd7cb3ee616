use Rattle.std.proofs.Common.{rules, ◌+◌, drop, get_or}
use Rattle.std.specs.List.{flat_map}
use Rattle.pipe_rows.specs.Ordered.{directed_bytes, escaped_byte}
use Rattle.pipe_rows.proofs.FillingLemmas.{appending_more}
use Rattle.pipe_rows.proofs.OrderedLemmas.{escaped_one}
use Rattle.pipe_rows.proofs.byte_string.put_all_escaped.Goals as goal

pub loop-byte-preserved : goal.loop-byte-preserved
loop-byte-preserved c =
    let k = c.loop-byte.byte-index in
    let d = c.args.descending in
    appending_more c.args.i (directed_bytes d (escaped_byte (get_or c.args.bytes.now k 0))) (directed_bytes d (flat_map escaped_byte (drop (k + 1) c.args.bytes.now))) (directed_bytes d (flat_map escaped_byte (drop k c.args.bytes.now))) (directed_bytes d (flat_map escaped_byte c.args.bytes.now)) c.loop-byte.filler c.put_escaped.new.filler c.args.filler.now
    c.loop-byte.invariant c.requires.inside (escaped_one d c.args.bytes.now k (search rules)) c.put_escaped.ensures
