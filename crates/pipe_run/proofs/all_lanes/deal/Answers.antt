use Rattle.std.proofs.Common.{length, arith, refl, sym, subst, List, All}
use Rattle.std.proofs.lemmas.List.Elements.{All-replicate}
use Rattle.pipe_chain.specs.Claims.{SeatClaims, fresh_claimant}
use Rattle.pipe_run.specs.Claimed.{schema_in, chunks_lot}
use Rattle.pipe_run.specs.Seats.{IsFreshOf}
use Rattle.pipe_run.proofs.RoundSteps.{deal-drawn, fits-seated, fits-unseated, all-seated, fresh-seated, calm-seated}
use Rattle.pipe_run.proofs.SeatSteps.{none_own}
use Rattle.pipe_run.proofs.all_lanes.deal.Goals as goal

pub seat_all-requires-clause-fresh : goal.seat_all-requires-clause-fresh
seat_all-requires-clause-fresh g c =
    subst (λ (l : List SeatClaims). All (IsFreshOf c.in-Ok.claims.table) l) (sym c.in-Ok.ensures.seats) (All-replicate (IsFreshOf c.in-Ok.claims.table) (length c.args.lanes.now) (fresh_claimant c.in-Ok.claims.table) refl)

pub run_lanes-requires-clause-seated : goal.run_lanes-requires-clause-seated
run_lanes-requires-clause-seated g c = λ κs lives. rw c.seat_all.ensures.lanes (all-seated c.in-Ok.claims.table c.args.lanes.now)

pub run_lanes-requires-clause-fresh : goal.run_lanes-requires-clause-fresh
run_lanes-requires-clause-fresh g c = λ κs lives. rw c.seat_all.ensures.lanes (fresh-seated c.in-Ok.claims.table c.args.lanes.now)

pub run_lanes-requires-clause-calm : goal.run_lanes-requires-clause-calm
run_lanes-requires-clause-calm g c = λ κs lives. rw c.seat_all.ensures.lanes (calm-seated c.in-Ok.claims.table c.args.lanes.now c.requires.calm)

pub run_lanes-requires-clause-fit : goal.run_lanes-requires-clause-fit
run_lanes-requires-clause-fit g c = λ κs lives. rw c.seat_all.ensures.lanes (fits-seated g.O.Operator g.K.Sink c.args.shared.now c.args.context.now.row_limit (schema_in c.args.morsels.now) c.in-Ok.claims.table c.args.lanes.now c.requires.fit)

pub unseat_all-requires-clause-own : goal.unseat_all-requires-clause-own
unseat_all-requires-clause-own g c = none_own c.in-Ok.claims.table c.seat_all.new.seats.items (omega (arith, c.seat_all.ensures.left, c.in-Ok.ensures.dealt))

pub returns-clause-fit : goal.returns-clause-fit
returns-clause-fit g c = rw c.unseat_all.ensures.lanes (fits-unseated g.O.Operator g.K.Sink c.args.shared.now c.args.context.now.row_limit (schema_in c.args.morsels.now) c.run_lanes.new.lanes c.run_lanes.ensures.fit)

pub returns-clause-drawn : goal.returns-clause-drawn
returns-clause-drawn g c =
    deal-drawn g.O.Operator g.K.Sink c.args.shared.now c.args.context.now.row_limit (chunks_lot c.args.morsels.now) c.in-Ok.claims.table c.args.lanes.now c.seat_all.new.lanes c.run_lanes.new.lanes c.unseat_all.new.lanes c.seat_all.new.seats.items c.unseat_all.new.seats.items c.close.result c.seat_all.ensures.lanes c.run_lanes.ensures.len c.run_lanes.ensures.took c.run_lanes.ensures.end c.requires.some c.unseat_all.ensures.lanes (omega (arith, c.seat_all.ensures.left, c.in-Ok.ensures.dealt)) c.unseat_all.ensures.drawn (c.close.ensures (omega (arith, c.unseat_all.ensures.len, c.seat_all.ensures.left, c.in-Ok.ensures.dealt, c.in-Ok.ensures.count)))
