use Rattle.std.proofs.Common.{◌≡◌, ◌++◌, drop}
use Rattle.json.specs.Print.{escape}
use Rattle.hex.specs.Hex.{encode_lower}
use Rattle.pipe_job.proofs.cell_texts.push_hex.Given as goal

abbrev pub invariant-loop-byte : goal.invariant-loop-byte
invariant-loop-byte l = l.out.items ++ escape (encode_lower (drop l.byte-index l.bytes)) ≡ l.fn.out.items ++ escape (encode_lower l.bytes)
