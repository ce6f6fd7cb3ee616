use Rattle.std.proofs.Common.{◌≡◌}
use Rattle.worked_lanes.proofs.shared.marking.mark_keys.Given as goal

abbrev pub invariant-loop-key : goal.invariant-loop-key
invariant-loop-key l = l.seat.table ≡ l.flags.table
