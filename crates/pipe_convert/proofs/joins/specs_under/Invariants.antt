use Rattle.std.proofs.Common.{◌≡◌, ℕ, ◌<◌, length, None, get_or}
use Rattle.pipe_convert.specs.Joins.{IsOfJoin}
use Rattle.pipe_convert.proofs.joins.specs_under.Given as goal

abbrev pub invariant-loop-n : goal.invariant-loop-n
invariant-loop-n l = record {
  sized : length l.specs.items ≡ l.n;
  each : (k : ℕ) → k < l.n → IsOfJoin l.plan k (get_or l.specs.items k None);
}
