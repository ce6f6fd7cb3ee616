use Rattle.std.proofs.Common.{ℕ, ◌<◌, ◌≤◌, get_or}
use Rattle.pipe_run.specs.Dealt.{counts_in}
use Rattle.pipe_run.proofs.telling.check_counts.Given as goal

abbrev pub invariant-loop-place : goal.invariant-loop-place
invariant-loop-place g l = (k : ℕ) → k < l.place → get_or (counts_in l.lanes) k 0 ≤ l.context.row_limit
