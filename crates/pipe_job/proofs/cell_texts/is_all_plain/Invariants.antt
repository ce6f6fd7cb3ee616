use Rattle.std.proofs.Common.{◌≡◌, drop}
use Rattle.pipe_job.specs.Text.{all_plain}
use Rattle.pipe_job.proofs.cell_texts.is_all_plain.Given as goal

abbrev pub invariant-loop-byte : goal.invariant-loop-byte
invariant-loop-byte l = all_plain (drop l.byte-index l.text) ≡ all_plain l.text
