use Rattle.std.proofs.Common.{◌++◌, ◌∷◌, [], ◌∙◌, Option, length, ap, sym, subst, arith}
use Rattle.pipe_chain.specs.Claims.{SeatClaims}
use Rattle.pipe_run.specs.declared.lane.Lane.{Lane}
use Rattle.pipe_run.specs.Claimed.{schema_in, drawn_at, drawn_in, entries_for, chunks_lot, IsSeatOf}
use Rattle.pipe_run.proofs.ClaimSteps.{took-fresh, took-past, took-worked, took-stopped, fit-stopped, fit-next, lane-next, past-drawn, fit-under, schema-there, calm-by, few-more, rows-past, entries-past, rows-there, entries-there}
use Rattle.pipe_run.proofs.claiming.take_chunks.Goals as goal

pub loop-alloc-init : goal.loop-alloc-init
loop-alloc-init g c = record {
  seated = c.requires.seated;
  calm = c.requires.calm;
  few = omega (arith, ap length c.requires.fresh);
  fit = c.requires.fit;
  took = took-fresh g.O.Operator g.K.Sink c.args.shared.now c.args.context.now.row_limit (chunks_lot c.args.morsels.now) c.args.lane.now c.requires.fit.serve c.requires.fresh;
}

pub returns-then-not-make_room-clause-took : goal.returns-then-not-make_room-clause-took
returns-then-not-make_room-clause-took g c =
    took-stopped g.O.Operator g.K.Sink c.args.shared.now c.args.context.now.row_limit (chunks_lot c.args.morsels.now) c.args.lane.now c.loop-alloc.lane c.make_room.new.lane c.loop-alloc.invariant.calm c.loop-alloc.invariant.took (c.make_room.ensures.stopped c.if-not-make_room.true) c.make_room.ensures.entries

pub returns-then-not-make_room-clause-fit : goal.returns-then-not-make_room-clause-fit
returns-then-not-make_room-clause-fit g c =
    fit-stopped g.O.Operator g.K.Sink c.args.shared.now c.args.context.now.row_limit (schema_in c.args.morsels.now) c.loop-alloc.lane c.make_room.new.lane (c.make_room.ensures.stopped c.if-not-make_room.true) c.loop-alloc.invariant.fit

pub returns-then-not-make_room-clause-seated : goal.returns-then-not-make_room-clause-seated
returns-then-not-make_room-clause-seated g c =
    subst (λ (o : Option SeatClaims). IsSeatOf c.args.claims.now.table o) (sym c.make_room.ensures.seat) c.loop-alloc.invariant.seated

pub returns-then-number-morsels-clause-took : goal.returns-then-number-morsels-clause-took
returns-then-number-morsels-clause-took g c =
    took-past g.O.Operator g.K.Sink c.args.shared.now c.args.context.now.row_limit (chunks_lot c.args.morsels.now) c.args.lane.now c.loop-alloc.lane c.draw-number.new.lane c.draw-number.result c.loop-alloc.invariant.took (lane-next c.loop-alloc.lane c.make_room.new.lane c.draw-number.new.lane (c.make_room.ensures.same c.if-not-make_room.false) c.draw-number.ensures.same) (ap (λ (l : Lane g.row.O.Denot g.row.K.Denot). l.entries.items) c.draw-number.ensures.same ∙ c.make_room.ensures.entries) (c.draw-number.ensures.drawn ∙ ap (λ (o : Option SeatClaims). drawn_at o ++ c.draw-number.result ∷ []) c.make_room.ensures.seat) (rows-past c.args.morsels.now c.draw-number.result c.if-number-morsels.true) (entries-past c.args.morsels.now c.draw-number.result c.if-number-morsels.true)

pub returns-then-number-morsels-clause-fit : goal.returns-then-number-morsels-clause-fit
returns-then-number-morsels-clause-fit g c =
    fit-next g.O.Operator g.K.Sink c.args.shared.now c.args.context.now.row_limit (schema_in c.args.morsels.now) c.loop-alloc.lane c.draw-number.new.lane (lane-next c.loop-alloc.lane c.make_room.new.lane c.draw-number.new.lane (c.make_room.ensures.same c.if-not-make_room.false) c.draw-number.ensures.same) c.loop-alloc.invariant.fit

pub returns-then-number-morsels-clause-end : goal.returns-then-number-morsels-clause-end
returns-then-number-morsels-clause-end g c = λ calm.
    past-drawn (length c.args.morsels.now) (drawn_in c.make_room.new.lane) (drawn_in c.draw-number.new.lane) c.draw-number.result c.draw-number.ensures.drawn c.if-number-morsels.true

pub returns-then-is_some-clause-took : goal.returns-then-is_some-clause-took
returns-then-is_some-clause-took g c =
    took-worked g.O.Operator g.K.Sink c.args.shared.now c.args.context.now.row_limit (chunks_lot c.args.morsels.now) c.args.lane.now c.loop-alloc.lane c.draw-number.new.lane c.work.new.lane c.draw-number.result _ _ (entries_for c.index-morsels-number.result) c.loop-alloc.invariant.took (lane-next c.loop-alloc.lane c.make_room.new.lane c.draw-number.new.lane (c.make_room.ensures.same c.if-not-make_room.false) c.draw-number.ensures.same) (ap (λ (l : Lane g.row.O.Denot g.row.K.Denot). l.entries.items) c.draw-number.ensures.same ∙ c.make_room.ensures.entries) (c.draw-number.ensures.drawn ∙ ap (λ (o : Option SeatClaims). drawn_at o ++ c.draw-number.result ∷ []) c.make_room.ensures.seat) (rows-there c.args.morsels.now c.draw-number.result c.index-morsels-number.result c.if-number-morsels.false c.index-morsels-number.is) (entries-there c.args.morsels.now c.draw-number.result c.index-morsels-number.result c.if-number-morsels.false c.index-morsels-number.is) (schema-there c.args.morsels.now c.draw-number.result c.index-morsels-number.result c.requires.schema c.if-number-morsels.false c.index-morsels-number.is) c.loop-alloc.invariant.calm c.work.ensures.ran c.work.ensures.entries c.work.ensures.seat

pub loop-alloc-preserved : goal.loop-alloc-preserved
loop-alloc-preserved g c = record {
  seated = subst (λ (o : Option SeatClaims). IsSeatOf c.args.claims.now.table o) (sym c.work.ensures.seat) c.draw-number.ensures.seated;
  calm = calm-by c.work.new.lane.refused c.is_some.result c.is_some.ensures c.if-is_some.false;
  few = few-more (drawn_in c.make_room.new.lane) (drawn_in c.work.new.lane) c.draw-number.result (length c.args.morsels.now) (ap drawn_at c.work.ensures.seat ∙ c.draw-number.ensures.drawn) c.draw-number.ensures.later c.if-number-morsels.false;
  fit = fit-under g.O.Operator g.K.Sink c.args.shared.now c.args.context.now.row_limit (schema_in c.args.morsels.now) _ c.work.new.lane (schema-there c.args.morsels.now c.draw-number.result c.index-morsels-number.result c.requires.schema c.if-number-morsels.false c.index-morsels-number.is) c.work.ensures.fit;
  took = took-worked g.O.Operator g.K.Sink c.args.shared.now c.args.context.now.row_limit (chunks_lot c.args.morsels.now) c.args.lane.now c.loop-alloc.lane c.draw-number.new.lane c.work.new.lane c.draw-number.result _ _ (entries_for c.index-morsels-number.result) c.loop-alloc.invariant.took (lane-next c.loop-alloc.lane c.make_room.new.lane c.draw-number.new.lane (c.make_room.ensures.same c.if-not-make_room.false) c.draw-number.ensures.same) (ap (λ (l : Lane g.row.O.Denot g.row.K.Denot). l.entries.items) c.draw-number.ensures.same ∙ c.make_room.ensures.entries) (c.draw-number.ensures.drawn ∙ ap (λ (o : Option SeatClaims). drawn_at o ++ c.draw-number.result ∷ []) c.make_room.ensures.seat) (rows-there c.args.morsels.now c.draw-number.result c.index-morsels-number.result c.if-number-morsels.false c.index-morsels-number.is) (entries-there c.args.morsels.now c.draw-number.result c.index-morsels-number.result c.if-number-morsels.false c.index-morsels-number.is) (schema-there c.args.morsels.now c.draw-number.result c.index-morsels-number.result c.requires.schema c.if-number-morsels.false c.index-morsels-number.is) c.loop-alloc.invariant.calm c.work.ensures.ran c.work.ensures.entries c.work.ensures.seat;
}
