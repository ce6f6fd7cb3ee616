use Rattle.std.proofs.Common.{◌≡◌, ◌++◌, drop}
use Rattle.json.specs.Print.{escape}
use Rattle.pipe_job.proofs.cell_texts.push_escape.Given as goal

abbrev pub invariant-loop-byte : goal.invariant-loop-byte
invariant-loop-byte l = l.out.items ++ escape (drop l.byte-index l.text) ≡ l.fn.out.items ++ escape l.text
