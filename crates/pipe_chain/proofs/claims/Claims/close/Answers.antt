use Rattle.std.proofs.Common.{◌++◌, [], ap, arith}
use Rattle.pipe_chain.specs.declared.claim_rule.ClaimView.{ClaimView}
use Rattle.pipe_chain.specs.Sums.{total}
use Rattle.pipe_chain.specs.Claims.{SharedClaims, all_drawn}
use Rattle.pipe_chain.specs.ClaimRule.{whole_claim}
use Rattle.pipe_chain.proofs.ClaimSteps.{enters, closes}
use Rattle.pipe_chain.proofs.claims.Claims.close.Goals as goal

pub load_new_seat-whole-requires : goal.load_new_seat-whole-requires
load_new_seat-whole-requires c =
    let shared = c.self.inside.table.shared in
    (omega (arith, c.self.invariant.0), enters shared.key shared.table_id.slots (whole_claim shared.key, []))

pub returns : goal.returns
returns c =
    let whole = c.gather.new.whole in
    let blank = c.load_new_seat-whole.ensures.2 in
    λ all f. omega (
      arith,
      closes c.self.inside.table.shared.key whole.id whole.me.0 _ _ _ c.close_with-closed.ensures.values.2 c.word-drawn.ensures (omega (arith, all, c.gather.ensures.parts, ap (λ (v : ClaimView). v.parts) blank, ap (λ (d : SharedClaims). d.seats) c.self.view_is)) f,
      c.gather.ensures.drawn f,
      ap (λ (v : ClaimView). total f (v.drawn ++ all_drawn c.args.seats.items)) blank,
    )
