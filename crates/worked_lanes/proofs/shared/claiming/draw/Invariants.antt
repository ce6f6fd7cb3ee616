use Rattle.std.proofs.Common.{◌≡◌, ◌+◌, length}
use Rattle.worked_lanes.proofs.shared.claiming.draw.Given as goal

abbrev pub invariant-loop : goal.invariant-loop
invariant-loop l = record {
  table : l.seat.table ≡ l.claims.table;
  drawn : length l.seat.drawn ≡ length l.fn.seat.drawn + l.counter;
}
