use Rattle.std.proofs.Common.{length, ◌-◌}
use Rattle.pipe_stream.proofs.WholeLemmas.{Writing}
use Rattle.pipe_stream.proofs.whole.write_whole.Given as goal

abbrev pub invariant-loop-at : goal.invariant-loop-at
invariant-loop-at g l = Writing l.text l.at (g.W.RowWriter.seen l.initial.out) (g.W.RowWriter.seen l.out)

abbrev pub decreases-loop-at : goal.decreases-loop-at
decreases-loop-at g l = length l.text - l.at
