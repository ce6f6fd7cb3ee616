use Rattle.std.proofs.Common.{◌≡◌, ◌+◌, ℕ, All, vec_len}
use Rattle.pipe_chain.specs.Sums.{total}
use Rattle.pipe_chain.specs.Claims.{IsClaimantOf, all_drawn}
use Rattle.pipe_chain.proofs.claims.Claims.gather.Given as goal

abbrev pub invariant-loop-seat : goal.invariant-loop-seat
invariant-loop-seat l = record {
  table : l.whole.table_id ≡ l.self.table;
  seats : All (IsClaimantOf l.self.table) l.seats.items;
  parts : l.whole.me.0.parts + vec_len l.seats ≡ l.fn.whole.me.0.parts + vec_len l.fn.seats;
  drawn : (f : ℕ → ℕ) → total f l.whole.me.0.drawn + total f (all_drawn l.seats.items) ≡ total f l.fn.whole.me.0.drawn + total f (all_drawn l.fn.seats.items);
}

abbrev pub decreases-loop-seat : goal.decreases-loop-seat
decreases-loop-seat l = vec_len l.seats
