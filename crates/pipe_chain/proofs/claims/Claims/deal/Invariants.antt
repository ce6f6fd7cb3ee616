use Rattle.std.proofs.Common.{◌≡◌, ◌+◌, [], All, vec_len}
use Rattle.pipe_chain.specs.Claims.{fresh_claimants, IsClaimantOf}
use Rattle.pipe_chain.proofs.claims.Claims.deal.Given as goal

abbrev pub invariant-loop-number : goal.invariant-loop-number
invariant-loop-number l = record {
  table : l.whole.table_id ≡ l.self.table;
  parts : l.whole.me.0.parts + l.number ≡ l.seats;
  drawn : l.whole.me.0.drawn ≡ [];
  dealt : l.dealt.items ≡ fresh_claimants l.self.table l.number;
  count : vec_len l.dealt ≡ l.number;
  own : All (IsClaimantOf l.self.table) l.dealt.items;
}
