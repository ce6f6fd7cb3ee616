use Rattle.std.proofs.Common.{sym, ◌∙◌}
use Rattle.pipe_passage.proofs.Probes.{attach-free, seat-left, rest-with, rest-without, opened-with, opened-without}
use Rattle.pipe_slots.specs.PhysWords.{kind_at}
use Rattle.pipe_passage.proofs.opening.open_probe.Goals as goal

pub next_seat-requires : goal.next_seat-requires
next_seat-requires g c = seat-left c.args.thread_no c.args.slot.now c.args.free.now (sym c.has_flags.ensures ∙ c.if-not-has_flags.false) c.requires.rest c.requires.more

pub attach-requires : goal.attach-requires
attach-requires g c = attach-free (kind_at c.args.place.now) c.args.place.now.spec c.args.slot.now c.in_ok-probe.probe c.in_ok-probe.ensures.kind c.requires.suits (sym c.has_flags.ensures ∙ c.if-not-has_flags.false) c.in_ok-probe.ensures.seat

pub returns-clause-opened : goal.returns-clause-opened
returns-clause-opened g c =
    opened-with c.args.thread_no c.args.slot.now c.args.place.now c.in_ok-probe.probe c.in_ok-probe.ensures.kind c.in_ok-probe.ensures.spec c.in_ok-probe.ensures.seat c.in_ok-probe.ensures.idle c.requires.suits
    c.args.free.now _ c.next_seat.result _ (sym c.has_flags.ensures ∙ c.if-not-has_flags.false) c.requires.rest c.next_seat.ensures c.attach.ensures

pub returns-clause-rest : goal.returns-clause-rest
returns-clause-rest g c = rest-with c.args.thread_no c.args.slot.now c.args.free.now _ c.next_seat.result (sym c.has_flags.ensures ∙ c.if-not-has_flags.false) c.next_seat.ensures c.requires.rest

pub returns-then-not-has_flags-clause-opened : goal.returns-then-not-has_flags-clause-opened
returns-then-not-has_flags-clause-opened g c =
    opened-without c.args.thread_no c.args.slot.now c.args.place.now c.in_ok-probe.probe c.in_ok-probe.ensures.kind c.in_ok-probe.ensures.spec c.in_ok-probe.ensures.seat c.in_ok-probe.ensures.idle c.requires.suits
    c.args.free.now (sym c.has_flags.ensures ∙ c.if-not-has_flags.true) c.in_ok-probe.ensures.acts

pub returns-then-not-has_flags-clause-rest : goal.returns-then-not-has_flags-clause-rest
returns-then-not-has_flags-clause-rest g c = rest-without _ c.args.slot.now c.args.free.now (sym c.has_flags.ensures ∙ c.if-not-has_flags.true)
