-- The seat of an operator at the flags of its join.
use Rattle.std.specs.Prelude.{◌≡◌, Option, Some, None}
use Rattle.pipe_chain.specs.Flags.{SeatMarks}
use Rattle.pipe_slots.specs.CallBackWords.{seat_in}
use Rattle.pipe_slots.specs.declared.call_back.CallBack.{CallBack}
use Rattle.pipe_slots.specs.declared.call_back.CallBack.TheVariants as probe
use Rattle.pipe_slots.specs.declared.phys_operator.PhysOperator.{PhysOperator}
use Rattle.pipe_slots.specs.declared.phys_operator.PhysOperator.TheVariants as op

-- ---- an operator's seat

abbrev pub seat_of : {H : Type 0} → PhysOperator H → Option SeatMarks
seat_of (op.Filter f) = None
seat_of (op.SimpleProjection p) = None
seat_of (op.Projection p) = None
seat_of (op.Hstack p) = None
seat_of (op.Function f) = None
seat_of (op.Pass p) = None
seat_of (op.PlaceHolder p) = None
seat_of (op.CallBack c) = seat_in c

-- the same with another seat, or without one
abbrev pub probe_with : {H : Type 0} → Option SeatMarks → CallBack H → CallBack H
probe_with seat (probe.Join p) = probe.Join p
probe_with seat (probe.Cross p) = probe.Cross p
probe_with seat (probe.Full p) = probe.Full (record p { seat = seat })
probe_with seat (probe.Mark p) = probe.Mark (record p { seat = seat })

abbrev pub with_seat : {H : Type 0} → Option SeatMarks → PhysOperator H → PhysOperator H
with_seat seat (op.Filter f) = op.Filter f
with_seat seat (op.SimpleProjection p) = op.SimpleProjection p
with_seat seat (op.Projection p) = op.Projection p
with_seat seat (op.Hstack p) = op.Hstack p
with_seat seat (op.Function f) = op.Function f
with_seat seat (op.Pass p) = op.Pass p
with_seat seat (op.PlaceHolder p) = op.PlaceHolder p
with_seat seat (op.CallBack c) = op.CallBack (probe_with seat c)

-- it marks keys, and holds no seat
abbrev pub IsFreeProbe : {H : Type 0} → CallBack H → Type 0
IsFreeProbe (probe.Join p) = ⊥
IsFreeProbe (probe.Cross p) = ⊥
IsFreeProbe (probe.Full p) = p.seat ≡ None
IsFreeProbe (probe.Mark p) = p.seat ≡ None
