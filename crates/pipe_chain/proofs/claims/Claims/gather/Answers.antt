use Rattle.std.proofs.Common.{◌∷◌, [], Some, ap, ◌∙◌, sym, arith, length, length-append, List}
use Rattle.std.proofs.lemmas.List.Elements.{All-pop}
use Rattle.std.proofs.lemmas.Grind.{flat_map-append}
use Rattle.pipe_chain.specs.declared.claim_rule.ClaimView.{ClaimView}
use Rattle.pipe_chain.specs.Sums.{total}
use Rattle.pipe_chain.specs.Claims.{SharedClaims, SeatClaims, IsClaimantOf, all_drawn, drawn_by}
use Rattle.pipe_chain.proofs.ClaimSteps.{joins}
use Rattle.pipe_chain.proofs.SumLemmas.{total-append, none_left}
use Rattle.pipe_chain.proofs.claims.Claims.gather.Goals as goal

pub join_seat-requires : goal.join_seat-requires
join_seat-requires c =
    let self = c.self.inside in
    let whole = c.loop-seat.whole in
    let other = c.seat.inside.seat in
    let here = ap (λ (d : SharedClaims). d.table) c.self.view_is in
    let known = c.loop-seat.invariant in
    let mine = All-pop (IsClaimantOf c.args.self.now.table) c.loop-seat.seats.items c.pop.new.self.items (Some c.in-Some.seat) c.in-Some.ensures.items known.seats in
    (known.table ∙ sym here, ap (λ (s : SeatClaims). s.table) c.seat.view_is ∙ mine.1 ∙ sym here, c.seat.invariant.1, omega (arith, c.self.invariant.0), joins self.table.shared.key whole.id whole.me.0 other.id other.me.0)

pub loop-seat-preserved : goal.loop-seat-preserved
loop-seat-preserved c =
    let whole = c.loop-seat.whole in
    let popped = c.in-Some.seat in
    let other = c.seat.inside.seat in
    let known = c.loop-seat.invariant in
    let j = c.join_seat.ensures in
    let i = c.in-Some.ensures.items in
    let new = c.pop.new.self.items in
    let mine = All-pop (IsClaimantOf c.args.self.now.table) c.loop-seat.seats.items new (Some popped) i known.seats in
    let view = ap (λ m. m.0) j.2 in
    record {
      table = j.0 ∙ known.table;
      seats = mine.0;
      parts = omega (arith, ap (λ (v : ClaimView). v.parts) view, ap length i, length-append new (popped ∷ []), c.seat.invariant.0, known.parts);
      drawn = λ f. omega (
        arith,
        ap (λ (v : ClaimView). total f v.drawn) view,
        total-append f whole.me.0.drawn other.me.0.drawn,
        ap (λ (l : List SeatClaims). total f (all_drawn l)) i,
        ap (total f) (flat_map-append drawn_by new (popped ∷ [])),
        total-append f (all_drawn new) (all_drawn (popped ∷ [])),
        total-append f popped.drawn [],
        ap (λ (s : SeatClaims). total f s.drawn) c.seat.view_is,
        known.drawn f,
      );
    }

pub returns-clause-drawn : goal.returns-clause-drawn
returns-clause-drawn c =
    let seats = c.args.seats.items in
    let before = c.args.whole.now.me.0.drawn in
    let none = none_left c.loop-seat.seats.items (omega (arith, c.in_default.ensures.cases.0)) in
    λ f. omega (arith, c.loop-seat.invariant.drawn f, ap (λ (l : List SeatClaims). total f (all_drawn l)) none, total-append f before (all_drawn seats))
