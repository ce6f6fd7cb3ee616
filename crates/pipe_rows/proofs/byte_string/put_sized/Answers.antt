use Rattle.std.proofs.Common.{rules, ◌∷◌, length}
use Rattle.std.specs.Int.{w64, to_le_bytes}
use Rattle.pipe_rows.proofs.FillingLemmas.{append_twice}
use Rattle.pipe_rows.proofs.byte_string.put_sized.Goals as goal

pub returns : goal.returns
returns c = append_twice c.args.filler.now c.append_value.new.self c.append.new.self c.args.i (1 ∷ to_le_bytes w64 (length c.args.bytes.now)) c.args.bytes.now c.requires.inside (search rules) c.append.ensures
