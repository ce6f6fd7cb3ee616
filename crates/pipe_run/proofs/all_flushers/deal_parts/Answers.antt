use Rattle.std.proofs.Common.{ℕ, ◌<◌, length, arith, refl, sym, subst, List, get_or}
use Rattle.std.specs.List.{All}
use Rattle.std.proofs.lemmas.List.Elements.{All-replicate}
use Rattle.pipe_schema.specs.declared.field.Field.{Field}
use Rattle.pipe_chain.specs.Claims.{SeatClaims, fresh_claimant}
use Rattle.pipe_run.specs.declared.lane.Lane.{Lane}
use Rattle.pipe_run.specs.Claimed.{drawn_in, parts_lot, IsAtEnd, Took}
use Rattle.pipe_run.specs.Flushes.{flushed_in, IsFlushFit}
use Rattle.pipe_run.specs.Seats.{IsFreshOf}
use Rattle.pipe_run.proofs.FlushSteps.{owns-seated, froms-are, sat-from, flushfits-unseated}
use Rattle.pipe_run.proofs.RoundSteps.{deal-drawn, all-seated, fresh-seated, calm-seated}
use Rattle.pipe_run.proofs.SeatSteps.{none_own}
use Rattle.pipe_run.proofs.all_flushers.deal_parts.Goals as goal

pub seat_all-requires-clause-fresh : goal.seat_all-requires-clause-fresh
seat_all-requires-clause-fresh g c =
    subst (λ (l : List SeatClaims). All (IsFreshOf c.in-Ok.claims.table) l) (sym c.in-Ok.ensures.seats) (All-replicate (IsFreshOf c.in-Ok.claims.table) (length c.args.lanes.now) (fresh_claimant c.in-Ok.claims.table) refl)

pub run_flushers-requires-clause-seated : goal.run_flushers-requires-clause-seated
run_flushers-requires-clause-seated g c = λ κs lives. rw c.seat_all.ensures.lanes (all-seated c.in-Ok.claims.table c.args.lanes.now)

pub run_flushers-requires-clause-fresh : goal.run_flushers-requires-clause-fresh
run_flushers-requires-clause-fresh g c = λ κs lives. rw c.seat_all.ensures.lanes (fresh-seated c.in-Ok.claims.table c.args.lanes.now)

pub run_flushers-requires-clause-calm : goal.run_flushers-requires-clause-calm
run_flushers-requires-clause-calm g c = λ κs lives. rw c.seat_all.ensures.lanes (calm-seated c.in-Ok.claims.table c.args.lanes.now c.requires.calm)

pub run_flushers-requires-clause-fit : goal.run_flushers-requires-clause-fit
run_flushers-requires-clause-fit g c = λ κs lives. rw c.seat_all.ensures.lanes (owns-seated g.O.Operator g.K.Sink c.args.own.now c.args.others.now c.args.context.now.row_limit (flushed_in g.O.Operator c.args.lanes.now) c.in-Ok.claims.table c.args.lanes.now c.requires.fit)

pub unseat_all-requires-clause-own : goal.unseat_all-requires-clause-own
unseat_all-requires-clause-own g c = none_own c.in-Ok.claims.table c.seat_all.new.seats.items (omega (arith, c.seat_all.ensures.left, c.in-Ok.ensures.dealt))

pub returns-clause-fit : goal.returns-clause-fit
returns-clause-fit g c =
    let op = g.O.Operator in
    let from = flushed_in op c.args.lanes.now in
    let froms = sat-from op c.in-Ok.claims.table from c.args.lanes.now c.seat_all.new.lanes c.seat_all.ensures.lanes (froms-are op g.K.Sink c.args.own.now c.args.others.now c.args.context.now.row_limit from c.args.lanes.now c.requires.fit) in
    let run : All (IsFlushFit op g.K.Sink c.args.own.now c.args.others.now c.args.context.now.row_limit from) c.run_flushers.new.lanes =
    λ i d less. let at : i < length c.seat_all.new.lanes = omega (arith, less, c.run_flushers.ensures.len) in
    subst (λ (x : List Field). IsFlushFit op g.K.Sink c.args.own.now c.args.others.now c.args.context.now.row_limit x (get_or c.run_flushers.new.lanes i d)) (froms i d at) (c.run_flushers.ensures.fit i d at) in
    rw c.unseat_all.ensures.lanes (flushfits-unseated op g.K.Sink c.args.own.now c.args.others.now c.args.context.now.row_limit from c.run_flushers.new.lanes run)

pub returns-clause-drawn : goal.returns-clause-drawn
returns-clause-drawn g c =
    let op = g.O.Operator in
    let from = flushed_in op c.args.lanes.now in
    let lot = λ (x : List Field). parts_lot g.O.FlushParts.parts g.O.FlushParts.part_of x c.args.own.now in
    let froms = sat-from op c.in-Ok.claims.table from c.args.lanes.now c.seat_all.new.lanes c.seat_all.ensures.lanes (froms-are op g.K.Sink c.args.own.now c.args.others.now c.args.context.now.row_limit from c.args.lanes.now c.requires.fit) in
    let took : (i : ℕ) (d : Lane g.row.O.Denot g.row.K.Denot) → i < length c.seat_all.new.lanes → Took op g.K.Sink c.args.others.now c.args.context.now.row_limit (lot from) (drawn_in (get_or c.run_flushers.new.lanes i d)) (get_or c.seat_all.new.lanes i d) (get_or c.run_flushers.new.lanes i d) =
    λ i d less. subst (λ (x : List Field). Took op g.K.Sink c.args.others.now c.args.context.now.row_limit (lot x) (drawn_in (get_or c.run_flushers.new.lanes i d)) (get_or c.seat_all.new.lanes i d) (get_or c.run_flushers.new.lanes i d)) (froms i d less) (c.run_flushers.ensures.took i d less) in
    let end : All (IsAtEnd (lot from)) c.run_flushers.new.lanes =
    λ i d less. c.run_flushers.ensures.end i d (omega (arith, less, c.run_flushers.ensures.len)) in
    deal-drawn op g.K.Sink c.args.others.now c.args.context.now.row_limit (lot from) c.in-Ok.claims.table c.args.lanes.now c.seat_all.new.lanes c.run_flushers.new.lanes c.unseat_all.new.lanes c.seat_all.new.seats.items c.unseat_all.new.seats.items c.close.result c.seat_all.ensures.lanes c.run_flushers.ensures.len took end c.requires.some c.unseat_all.ensures.lanes (omega (arith, c.seat_all.ensures.left, c.in-Ok.ensures.dealt)) c.unseat_all.ensures.drawn (c.close.ensures (omega (arith, c.unseat_all.ensures.len, c.seat_all.ensures.left, c.in-Ok.ensures.dealt, c.in-Ok.ensures.count)))
