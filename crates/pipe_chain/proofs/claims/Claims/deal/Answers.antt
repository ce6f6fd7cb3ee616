use Rattle.std.proofs.Common.{◌∙◌, ap, sym, arith}
use Rattle.pipe_chain.specs.Claims.{SharedClaims}
use Rattle.pipe_chain.proofs.ClaimSteps.{splits}
use Rattle.pipe_chain.proofs.claims.Claims.deal.Goals as goal

pub split_seat-seat-requires : goal.split_seat-seat-requires
split_seat-seat-requires c =
    let shared = c.self.inside.table.shared in
    let whole = c.loop-number.whole in
    let known = c.loop-number.invariant in
    (known.table ∙ sym (ap (λ (d : SharedClaims). d.table) c.self.view_is), omega (arith, c.self.invariant.0), splits shared.key whole.id whole.me.0 (omega (arith, known.parts)) known.drawn)
