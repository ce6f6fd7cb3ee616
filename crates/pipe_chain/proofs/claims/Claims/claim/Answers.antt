use Rattle.std.proofs.Common.{◌∙◌, ap, sym, arith, length}
use Rattle.pipe_chain.specs.Claims.{SharedClaims, SeatClaims}
use Rattle.pipe_chain.proofs.ClaimSteps.{draws}
use Rattle.pipe_chain.proofs.claims.Claims.claim.Goals as goal

pub fetch_add-requires : goal.fetch_add-requires
fetch_add-requires c =
    let shared = c.self.inside.table.shared in
    let seat = c.seat.inside.seat in (
      ap (λ (s : SeatClaims). s.table) c.seat.view_is ∙ c.requires.seat ∙ sym (ap (λ (d : SharedClaims). d.table) c.self.view_is),
      omega (arith, c.self.invariant.0),
      draws shared.key shared.table_id.slots seat.id seat.me (omega (arith, c.requires.limit, ap (λ (s : SeatClaims). length s.drawn) c.seat.view_is)) c.seat.invariant.0,
    )
