use Rattle.std.proofs.Common.{◌≡◌, ap, length, sym, ◌∙◌, arith}
use Rattle.std.proofs.lemmas.List.{with_items_is}
use denote.Param.Send.{sendable}
use Rattle.pipe_passage.proofs.Crossing.{operator-send, slot-sync}
use Rattle.pipe_passage.proofs.Broken.{broken-flushed}
use Rattle.pipe_passage.proofs.Settles.{all-in, left-on, settled-none, few-flushed, alike-flushed, fits-flushed, settled-flushed}
use Rattle.pipe_passage.proofs.settling.settle_first.Goals as goal

pub closed-kept-requires : goal.closed-kept-requires
closed-kept-requires g c = all-in g.H.KeyHasher.hash_of g.K.Sink c.args.context.now.row_limit c.requires.way.from c.in-Ok.slot c.in-Ok.slot c.in-Ok.seats c.args.passage.now.lanes.items c.leave_stage.new.passage.lanes.items c.args.passage.now.shared.items c.leave_stage.new.passage.shared.items c.args.passage.now.seats.items c.leave_stage.new.passage.seats.items c.in-Ok.ensures c.requires.way.passing

pub returns-then-parts-eq0-clause-settled : goal.returns-then-parts-eq0-clause-settled
returns-then-parts-eq0-clause-settled g c = λ from p. settled-none g.H.KeyHasher.hash_of g.K.Sink c.args.context.now.row_limit from c.in-Ok.slot c.closed-kept.result c.in-Ok.seats c.args.passage.now.lanes.items c.leave_stage.new.passage.lanes.items c.args.passage.now.shared.items c.leave_stage.new.passage.shared.items c.args.passage.now.seats.items c.leave_stage.new.passage.seats.items c.in-Ok.ensures p c.closed-kept.ensures (omega (arith, c.part_count-parts.ensures, c.if-parts-eq0.true)) c.args.notes.now.items

pub noted_flush-requires-clause-some : goal.noted_flush-requires-clause-some
noted_flush-requires-clause-some g c κs lives = rw c.as_mut_slice-lanes.ensures.value (left-on g.H.KeyHasher.hash_of g.K.Sink c.args.context.now.row_limit c.requires.way.from c.in-Ok.slot c.closed-kept.result c.in-Ok.seats c.args.passage.now.lanes.items c.leave_stage.new.passage.lanes.items c.args.passage.now.shared.items c.leave_stage.new.passage.shared.items c.args.passage.now.seats.items c.leave_stage.new.passage.seats.items c.in-Ok.ensures c.requires.way.passing).some

pub noted_flush-requires-clause-lanes : goal.noted_flush-requires-clause-lanes
noted_flush-requires-clause-lanes g c κs lives = rw c.as_mut_slice-lanes.ensures.value (left-on g.H.KeyHasher.hash_of g.K.Sink c.args.context.now.row_limit c.requires.way.from c.in-Ok.slot c.closed-kept.result c.in-Ok.seats c.args.passage.now.lanes.items c.leave_stage.new.passage.lanes.items c.args.passage.now.shared.items c.leave_stage.new.passage.shared.items c.args.passage.now.seats.items c.leave_stage.new.passage.seats.items c.in-Ok.ensures c.requires.way.passing).few

pub noted_flush-requires-clause-few : goal.noted_flush-requires-clause-few
noted_flush-requires-clause-few g c κs lives = few-flushed g.H.KeyHasher.hash_of g.K.Sink c.args.context.now.row_limit c.requires.way.from c.in-Ok.slot c.closed-kept.result c.in-Ok.seats c.args.passage.now.lanes.items c.leave_stage.new.passage.lanes.items c.args.passage.now.shared.items c.leave_stage.new.passage.shared.items c.args.passage.now.seats.items c.leave_stage.new.passage.seats.items c.in-Ok.ensures c.requires.way.passing c.closed-kept.ensures c.requires.parts

pub noted_flush-requires-clause-alike : goal.noted_flush-requires-clause-alike
noted_flush-requires-clause-alike g c κs lives = rw (c.as_mut_slice-lanes.ensures.value, c.make_contiguous-others.ensures.value) (alike-flushed g.H.KeyHasher.hash_of g.K.Sink c.args.context.now.row_limit c.requires.way.from c.in-Ok.slot c.closed-kept.result c.in-Ok.seats c.args.passage.now.lanes.items c.leave_stage.new.passage.lanes.items c.args.passage.now.shared.items c.leave_stage.new.passage.shared.items c.args.passage.now.seats.items c.leave_stage.new.passage.seats.items c.in-Ok.ensures c.requires.way.passing c.closed-kept.ensures (omega (arith, c.part_count-parts.ensures, c.if-parts-eq0.false)))

pub noted_flush-requires-clause-calm : goal.noted_flush-requires-clause-calm
noted_flush-requires-clause-calm g c κs lives = rw c.as_mut_slice-lanes.ensures.value (left-on g.H.KeyHasher.hash_of g.K.Sink c.args.context.now.row_limit c.requires.way.from c.in-Ok.slot c.closed-kept.result c.in-Ok.seats c.args.passage.now.lanes.items c.leave_stage.new.passage.lanes.items c.args.passage.now.shared.items c.leave_stage.new.passage.shared.items c.args.passage.now.seats.items c.leave_stage.new.passage.seats.items c.in-Ok.ensures c.requires.way.passing).calm

pub noted_flush-requires-clause-empty : goal.noted_flush-requires-clause-empty
noted_flush-requires-clause-empty g c κs lives = rw c.as_mut_slice-lanes.ensures.value (left-on g.H.KeyHasher.hash_of g.K.Sink c.args.context.now.row_limit c.requires.way.from c.in-Ok.slot c.closed-kept.result c.in-Ok.seats c.args.passage.now.lanes.items c.leave_stage.new.passage.lanes.items c.args.passage.now.shared.items c.leave_stage.new.passage.shared.items c.args.passage.now.seats.items c.leave_stage.new.passage.seats.items c.in-Ok.ensures c.requires.way.passing).noted_none

pub noted_flush-requires-clause-fit : goal.noted_flush-requires-clause-fit
noted_flush-requires-clause-fit g c κs lives = rw (c.as_mut_slice-lanes.ensures.value, c.make_contiguous-others.ensures.value) (fits-flushed g.H.KeyHasher.hash_of g.K.Sink c.args.context.now.row_limit c.requires.way.from c.in-Ok.slot c.closed-kept.result c.in-Ok.seats c.args.passage.now.lanes.items c.leave_stage.new.passage.lanes.items c.args.passage.now.shared.items c.leave_stage.new.passage.shared.items c.args.passage.now.seats.items c.leave_stage.new.passage.seats.items c.in-Ok.ensures c.requires.way.passing c.closed-kept.ensures (omega (arith, c.part_count-parts.ensures, c.if-parts-eq0.false)))

pub noted_flush-requires-send-O : goal.noted_flush-requires-send-O
noted_flush-requires-send-O g c κs within = let s = c.type_bounds.send-H in let y = c.type_bounds.sync-H in search (sendable, operator-send)

pub noted_flush-requires-sync-O-Shared : goal.noted_flush-requires-sync-O-Shared
noted_flush-requires-sync-O-Shared g c κs within = let s = c.type_bounds.send-H in let y = c.type_bounds.sync-H in search (sendable, slot-sync)

pub returns-in-Ok-noted_flush-clause-settled : goal.returns-in-Ok-noted_flush-clause-settled
returns-in-Ok-noted_flush-clause-settled g c =
    let same = with_items_is c.leave_stage.new.passage.lanes c.noted_flush.new.lanes (omega (arith, c.noted_flush.auto.lanes, ap length c.as_mut_slice-lanes.ensures.value, c.leave_stage.new.passage.lanes.ok.0)) in
    let kept = c.make_contiguous-others.ensures.writes_back c.make_contiguous-others.result.now c.make_contiguous-others.ensures.len ∙ c.make_contiguous-others.ensures.value in
    let e = rw (c.as_mut_slice-lanes.ensures.value, c.make_contiguous-others.ensures.value) at c.noted_flush.ensures in
    let ok = rw (c.as_mut_slice-lanes.ensures.value, c.make_contiguous-others.ensures.value) at c.in-Ok-noted_flush.ensures in
    rw (same, kept) (λ from p. settled-flushed g.H.KeyHasher.hash_of g.K.Sink c.args.context.now.row_limit from c.in-Ok.slot c.closed-kept.result c.in-Ok.seats c.args.passage.now.lanes.items c.leave_stage.new.passage.lanes.items c.args.passage.now.shared.items c.leave_stage.new.passage.shared.items c.args.passage.now.seats.items c.leave_stage.new.passage.seats.items c.in-Ok.ensures p c.closed-kept.ensures (omega (arith, c.part_count-parts.ensures, c.if-parts-eq0.false))
    c.noted_flush.new.lanes e.same e.alike ok.calm e.fit ok.within ok.went c.part_count-parts.result c.part_count-parts.ensures c.args.notes.now.items c.noted_flush.new.notes.items ok.noted ok.none)

pub returns-clause-err : goal.returns-clause-err
returns-clause-err g c =
    let same = with_items_is c.leave_stage.new.passage.lanes c.noted_flush.new.lanes (omega (arith, c.noted_flush.auto.lanes, ap length c.as_mut_slice-lanes.ensures.value, c.leave_stage.new.passage.lanes.ok.0)) in
    let kept = c.make_contiguous-others.ensures.writes_back c.make_contiguous-others.result.now c.make_contiguous-others.ensures.len ∙ c.make_contiguous-others.ensures.value in
    let e = rw (c.as_mut_slice-lanes.ensures.value, c.make_contiguous-others.ensures.value) at c.noted_flush.ensures in
    let bad = rw (c.as_mut_slice-lanes.ensures.value, c.make_contiguous-others.ensures.value) at c.in-Err.ensures in
    rw (same, kept) (λ from p. broken-flushed g.H.KeyHasher.hash_of g.K.Sink c.args.context.now.row_limit from c.in-Ok.slot c.closed-kept.result c.in-Ok.seats c.args.passage.now.lanes.items c.leave_stage.new.passage.lanes.items c.args.passage.now.shared.items c.leave_stage.new.passage.shared.items c.args.passage.now.seats.items c.leave_stage.new.passage.seats.items c.in-Ok.ensures p c.closed-kept.ensures (omega (arith, c.part_count-parts.ensures, c.if-parts-eq0.false)) c.noted_flush.new.lanes e.same e.fit c.in-Err.refusal bad.over)
