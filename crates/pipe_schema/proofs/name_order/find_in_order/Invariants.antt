use Rattle.std.proofs.Common.{◌≡◌, ◌-◌, ◌≤◌, ◌<◌, ℕ, false, length, get_or}
use Rattle.std.specs.Str.{bytes_eq}
use Rattle.pipe_schema.specs.NameOrder.{name_at}
use Rattle.pipe_schema.proofs.name_order.find_in_order.Given as goal

abbrev pub invariant-loop-low : goal.invariant-loop-low
invariant-loop-low l = record {
  rises : l.low ≤ l.high;
  within : l.high ≤ length l.order;
  before : (k : ℕ) → k < l.low → bytes_eq (name_at l.fields (get_or l.order k 0)) l.name ≡ false;
  behind : (k : ℕ) → l.high ≤ k → k < length l.order → bytes_eq (name_at l.fields (get_or l.order k 0)) l.name ≡ false;
}

abbrev pub decreases-loop-low : goal.decreases-loop-low
decreases-loop-low l = l.high - l.low
