use Rattle.std.proofs.Common.{◌<◌, ◌++◌, ◌∷◌, [], ◌∙◌, Option, length, ap, sym, subst, arith}
use Rattle.pipe_chain.specs.Claims.{SeatClaims}
use Rattle.pipe_run.specs.declared.lane.Lane.{Lane}
use Rattle.pipe_run.specs.Claimed.{drawn_at, drawn_in, parts_lot, entries_for_part, IsSeatOf}
use Rattle.pipe_run.specs.Flushes.{flushed_by}
use Rattle.pipe_run.proofs.ClaimSteps.{took-fresh, took-past, took-worked, took-stopped, lane-next, past-drawn, calm-by, few-more}
use Rattle.pipe_run.proofs.Dealing.{parts-are, part-rows, part-entries}
use Rattle.pipe_run.proofs.FlushSteps.{flushfit-stopped, flushfit-next, flushfit-under, from-is, own-fit}
use Rattle.pipe_run.proofs.flushing.flush_parts.Goals as goal

pub loop-alloc-init : goal.loop-alloc-init
loop-alloc-init g c = record {
  seated = c.requires.seated;
  calm = c.requires.calm;
  few = omega (arith, ap length c.requires.fresh);
  fit = c.requires.fit;
  took = took-fresh g.O.Operator g.K.Sink c.args.others.now c.args.context.now.row_limit (parts_lot g.O.FlushParts.parts g.O.FlushParts.part_of (flushed_by g.O.Operator c.args.lane.now) c.args.own.now) c.args.lane.now c.requires.fit.fit.serve c.requires.fresh;
}

pub returns-then-not-make_room-clause-took : goal.returns-then-not-make_room-clause-took
returns-then-not-make_room-clause-took g c =
    took-stopped g.O.Operator g.K.Sink c.args.others.now c.args.context.now.row_limit (parts_lot g.O.FlushParts.parts g.O.FlushParts.part_of (flushed_by g.O.Operator c.args.lane.now) c.args.own.now) c.args.lane.now c.loop-alloc.lane c.make_room.new.lane c.loop-alloc.invariant.calm c.loop-alloc.invariant.took (c.make_room.ensures.stopped c.if-not-make_room.true) c.make_room.ensures.entries

pub returns-then-not-make_room-clause-fit : goal.returns-then-not-make_room-clause-fit
returns-then-not-make_room-clause-fit g c =
    flushfit-stopped g.O.Operator g.K.Sink c.args.own.now c.args.others.now c.args.context.now.row_limit (flushed_by g.O.Operator c.args.lane.now) c.loop-alloc.lane c.make_room.new.lane (c.make_room.ensures.stopped c.if-not-make_room.true) c.loop-alloc.invariant.fit

pub returns-then-not-make_room-clause-seated : goal.returns-then-not-make_room-clause-seated
returns-then-not-make_room-clause-seated g c =
    subst (λ (o : Option SeatClaims). IsSeatOf c.args.claims.now.table o) (sym c.make_room.ensures.seat) c.loop-alloc.invariant.seated

pub returns-then-number-parts-clause-took : goal.returns-then-number-parts-clause-took
returns-then-number-parts-clause-took g c =
    let from = flushed_by g.O.Operator c.args.lane.now in
    let lot = parts-are g.O.FlushParts.parts g.O.FlushParts.part_of from c.args.own.now in
    took-past g.O.Operator g.K.Sink c.args.others.now c.args.context.now.row_limit (parts_lot g.O.FlushParts.parts g.O.FlushParts.part_of from c.args.own.now) c.args.lane.now c.loop-alloc.lane c.draw-number.new.lane c.draw-number.result c.loop-alloc.invariant.took (lane-next c.loop-alloc.lane c.make_room.new.lane c.draw-number.new.lane (c.make_room.ensures.same c.if-not-make_room.false) c.draw-number.ensures.same) (ap (λ (l : Lane g.row.O.Denot g.row.K.Denot). l.entries.items) c.draw-number.ensures.same ∙ c.make_room.ensures.entries) (c.draw-number.ensures.drawn ∙ ap (λ (o : Option SeatClaims). drawn_at o ++ c.draw-number.result ∷ []) c.make_room.ensures.seat) (lot.no_rows c.draw-number.result (omega (arith, c.if-number-parts.true, c.part_count-parts.ensures))) (lot.no_entries c.draw-number.result (omega (arith, c.if-number-parts.true, c.part_count-parts.ensures)))

pub returns-then-number-parts-clause-fit : goal.returns-then-number-parts-clause-fit
returns-then-number-parts-clause-fit g c =
    flushfit-next g.O.Operator g.K.Sink c.args.own.now c.args.others.now c.args.context.now.row_limit (flushed_by g.O.Operator c.args.lane.now) c.loop-alloc.lane c.draw-number.new.lane (lane-next c.loop-alloc.lane c.make_room.new.lane c.draw-number.new.lane (c.make_room.ensures.same c.if-not-make_room.false) c.draw-number.ensures.same) c.loop-alloc.invariant.fit

pub returns-then-number-parts-clause-end : goal.returns-then-number-parts-clause-end
returns-then-number-parts-clause-end g c = λ calm.
    past-drawn (g.O.FlushParts.parts c.args.own.now) (drawn_in c.make_room.new.lane) (drawn_in c.draw-number.new.lane) c.draw-number.result c.draw-number.ensures.drawn (omega (arith, c.if-number-parts.true, c.part_count-parts.ensures))

pub returns-then-is_some-clause-took : goal.returns-then-is_some-clause-took
returns-then-is_some-clause-took g c =
    let op = g.O.Operator in
    let from = flushed_by op c.args.lane.now in
    let less : c.draw-number.result < g.O.FlushParts.parts c.args.own.now = omega (arith, c.if-number-parts.false, c.part_count-parts.ensures) in
    let next = lane-next c.loop-alloc.lane c.make_room.new.lane c.draw-number.new.lane (c.make_room.ensures.same c.if-not-make_room.false) c.draw-number.ensures.same in
    let fit = flushfit-next op g.K.Sink c.args.own.now c.args.others.now c.args.context.now.row_limit from c.loop-alloc.lane c.draw-number.new.lane next c.loop-alloc.invariant.fit in
    let under = from-is op g.K.Sink c.args.own.now c.args.others.now c.args.context.now.row_limit from c.draw-number.new.lane fit in
    took-worked op g.K.Sink c.args.others.now c.args.context.now.row_limit (parts_lot g.O.FlushParts.parts g.O.FlushParts.part_of from c.args.own.now) c.args.lane.now c.loop-alloc.lane c.draw-number.new.lane c.flush_part.new.lane c.draw-number.result (flushed_by op c.draw-number.new.lane) (g.O.FlushParts.part_of c.args.own.now c.draw-number.result) (entries_for_part c.draw-number.result) c.loop-alloc.invariant.took next (ap (λ (l : Lane g.row.O.Denot g.row.K.Denot). l.entries.items) c.draw-number.ensures.same ∙ c.make_room.ensures.entries) (c.draw-number.ensures.drawn ∙ ap (λ (o : Option SeatClaims). drawn_at o ++ c.draw-number.result ∷ []) c.make_room.ensures.seat) (part-rows g.O.FlushParts.parts g.O.FlushParts.part_of from c.args.own.now c.draw-number.result less) (part-entries g.O.FlushParts.parts g.O.FlushParts.part_of from c.args.own.now c.draw-number.result less) under c.loop-alloc.invariant.calm c.flush_part.ensures.ran c.flush_part.ensures.entries c.flush_part.ensures.seat

pub loop-alloc-preserved : goal.loop-alloc-preserved
loop-alloc-preserved g c =
    let op = g.O.Operator in
    let from = flushed_by op c.args.lane.now in
    let less : c.draw-number.result < g.O.FlushParts.parts c.args.own.now = omega (arith, c.if-number-parts.false, c.part_count-parts.ensures) in
    let next = lane-next c.loop-alloc.lane c.make_room.new.lane c.draw-number.new.lane (c.make_room.ensures.same c.if-not-make_room.false) c.draw-number.ensures.same in
    let fit = flushfit-next op g.K.Sink c.args.own.now c.args.others.now c.args.context.now.row_limit from c.loop-alloc.lane c.draw-number.new.lane next c.loop-alloc.invariant.fit in
    let under = from-is op g.K.Sink c.args.own.now c.args.others.now c.args.context.now.row_limit from c.draw-number.new.lane fit in
    record {
      seated = subst (λ (o : Option SeatClaims). IsSeatOf c.args.claims.now.table o) (sym c.flush_part.ensures.seat) c.draw-number.ensures.seated;
      calm = calm-by c.flush_part.new.lane.refused c.is_some.result c.is_some.ensures c.if-is_some.false;
      few = few-more (drawn_in c.make_room.new.lane) (drawn_in c.flush_part.new.lane) c.draw-number.result c.part_count-parts.result (ap drawn_at c.flush_part.ensures.seat ∙ c.draw-number.ensures.drawn) c.draw-number.ensures.later c.if-number-parts.false;
      fit = flushfit-under op g.K.Sink c.args.own.now c.args.others.now c.args.context.now.row_limit from (flushed_by op c.draw-number.new.lane) c.flush_part.new.lane under c.flush_part.ensures.fit;
      took = took-worked op g.K.Sink c.args.others.now c.args.context.now.row_limit (parts_lot g.O.FlushParts.parts g.O.FlushParts.part_of from c.args.own.now) c.args.lane.now c.loop-alloc.lane c.draw-number.new.lane c.flush_part.new.lane c.draw-number.result (flushed_by op c.draw-number.new.lane) (g.O.FlushParts.part_of c.args.own.now c.draw-number.result) (entries_for_part c.draw-number.result) c.loop-alloc.invariant.took next (ap (λ (l : Lane g.row.O.Denot g.row.K.Denot). l.entries.items) c.draw-number.ensures.same ∙ c.make_room.ensures.entries) (c.draw-number.ensures.drawn ∙ ap (λ (o : Option SeatClaims). drawn_at o ++ c.draw-number.result ∷ []) c.make_room.ensures.seat) (part-rows g.O.FlushParts.parts g.O.FlushParts.part_of from c.args.own.now c.draw-number.result less) (part-entries g.O.FlushParts.parts g.O.FlushParts.part_of from c.args.own.now c.draw-number.result less) under c.loop-alloc.invariant.calm c.flush_part.ensures.ran c.flush_part.ensures.entries c.flush_part.ensures.seat;
    }

pub flush_part-requires-clause-fit : goal.flush_part-requires-clause-fit
flush_part-requires-clause-fit g c κs lives =
    let op = g.O.Operator in
    let from = flushed_by op c.args.lane.now in
    let next = lane-next c.loop-alloc.lane c.make_room.new.lane c.draw-number.new.lane (c.make_room.ensures.same c.if-not-make_room.false) c.draw-number.ensures.same in
    own-fit op g.K.Sink c.args.own.now c.args.others.now c.args.context.now.row_limit from c.draw-number.new.lane (flushfit-next op g.K.Sink c.args.own.now c.args.others.now c.args.context.now.row_limit from c.loop-alloc.lane c.draw-number.new.lane next c.loop-alloc.invariant.fit)

pub returns-then-is_some-clause-fit : goal.returns-then-is_some-clause-fit
returns-then-is_some-clause-fit g c =
    let op = g.O.Operator in
    let from = flushed_by op c.args.lane.now in
    let next = lane-next c.loop-alloc.lane c.make_room.new.lane c.draw-number.new.lane (c.make_room.ensures.same c.if-not-make_room.false) c.draw-number.ensures.same in
    let fit = flushfit-next op g.K.Sink c.args.own.now c.args.others.now c.args.context.now.row_limit from c.loop-alloc.lane c.draw-number.new.lane next c.loop-alloc.invariant.fit in
    flushfit-under op g.K.Sink c.args.own.now c.args.others.now c.args.context.now.row_limit from (flushed_by op c.draw-number.new.lane) c.flush_part.new.lane (from-is op g.K.Sink c.args.own.now c.args.others.now c.args.context.now.row_limit from c.draw-number.new.lane fit) c.flush_part.ensures.fit
