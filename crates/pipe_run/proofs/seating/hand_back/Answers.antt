use Rattle.std.proofs.Common.{Option, ◌++◌, ap, sym, subst, ◌∙◌}
use Rattle.pipe_chain.specs.Claims.{SeatClaims, all_drawn}
use Rattle.pipe_run.specs.Claimed.{IsSeatOf, drawn_at}
use Rattle.pipe_run.proofs.SeatSteps.{own_pushed, drawn_pushed}
use Rattle.pipe_run.proofs.seating.hand_back.Goals as goal

pub unreachable-requires : goal.unreachable-requires
unreachable-requires g c =
    subst (λ (o : Option SeatClaims). IsSeatOf c.args.claims.now.table o) (sym c.take.ensures.value ∙ c.in-None.is) c.requires.seated

pub returns-clause-own : goal.returns-clause-own
returns-clause-own g c =
    own_pushed c.args.claims.now.table c.args.seats.now.items _ c.in-Some.seat c.push_reserved.ensures.items c.requires.own (subst (λ (o : Option SeatClaims). IsSeatOf c.args.claims.now.table o) (sym c.take.ensures.value ∙ c.in-Some.is) c.requires.seated)

pub returns-clause-drawn : goal.returns-clause-drawn
returns-clause-drawn g c =
    drawn_pushed c.args.seats.now.items _ c.in-Some.seat c.push_reserved.ensures.items ∙ ap (λ (o : Option SeatClaims). all_drawn c.args.seats.now.items ++ drawn_at o) (sym c.in-Some.is ∙ c.take.ensures.value)
