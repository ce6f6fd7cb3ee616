-- What an operator that has begun nothing is ready for, and what it owes.
use Rattle.std.proofs.Common.{◌≡◌, ℕ, ◌<◌, true, false, List, length, refl, arith}
use Rattle.std.specs.List.{flat_map}
use Rattle.pipe_frame.specs.Frame.{Table}
use Rattle.pipe_schema.specs.Rows.{Row, Same}
use Rattle.pipe_schema.specs.declared.field.Field.{Field}
use Rattle.pipe_source.specs.Laws.{starts_none, owes_none}
use Rattle.pipe_source.specs.Operators.{pieces_of}
use Rattle.pipe_ops.specs.Laws.{same-equal, never_due, pass_owes}
use Rattle.pipe_chain.specs.Keys.{SameKeys}
use Rattle.pipe_chain.specs.PlainLaws.{no_asks}
use Rattle.pipe_slots.specs.CallBackLaws.{join_starts, join_owes, join_asks, join_flushes, join_calm, join_kept}
use Rattle.pipe_slots.specs.CallBackWords.{KeepsNothing}
use Rattle.pipe_slots.specs.JoinWords.{parts_in}
use Rattle.pipe_slots.specs.PhysWords.{output_of, flushed_of, closed_of, work_of, rest_of, ready_of, idle_of, is_flushing_of, keeps_of}
use Rattle.pipe_slots.specs.declared.phys_operator.PhysOperator.{PhysOperator}
use Rattle.pipe_slots.specs.declared.phys_operator.PhysOperator.TheVariants as op
use Rattle.pipe_slots.specs.declared.slot.Slot.{Slot}
use Rattle.pipe_slots.specs.declared.slot.Slot.TheVariants.{Empty, Keys, Rows, Full, Spent}

pub phys_starts : {H : Type 0} (o : PhysOperator H) (slot : Slot H) (frame : Table) → idle_of o → ready_of o slot frame
phys_starts (op.Filter f) slot frame i = tt
phys_starts (op.SimpleProjection p) slot frame i = tt
phys_starts (op.Projection p) slot frame i = tt
phys_starts (op.Hstack p) slot frame i = tt
phys_starts (op.Function f) slot frame i = starts_none f.function (pieces_of f) (length frame.rows) i
phys_starts (op.Pass p) slot frame i = tt
phys_starts (op.PlaceHolder p) slot frame i = tt
phys_starts (op.CallBack c) slot frame i = join_starts c slot frame i

pub phys_owes : {H : Type 0} (o : PhysOperator H) (slot : Slot H) (frame : Table) → idle_of o → Same (rest_of o slot frame).rows (flat_map (work_of o frame.schema slot).each frame.rows)
phys_owes (op.Filter f) slot frame i = same-equal refl
phys_owes (op.SimpleProjection p) slot frame i = same-equal refl
phys_owes (op.Projection p) slot frame i = same-equal refl
phys_owes (op.Hstack p) slot frame i = same-equal refl
phys_owes (op.Function f) slot frame i = owes_none f.function (pieces_of f) frame i
phys_owes (op.Pass p) slot frame i = pass_owes frame
phys_owes (op.PlaceHolder p) slot frame i = same-equal refl
phys_owes (op.CallBack c) slot frame i = join_owes c slot frame i

pub phys_asks : {H : Type 0} (o : PhysOperator H) (slot : Slot H) (frame : Table) → idle_of o → SameKeys (rest_of o slot frame).keys (flat_map (work_of o frame.schema slot).asks frame.rows)
phys_asks (op.Filter f) slot frame i = no_asks frame.rows
phys_asks (op.SimpleProjection p) slot frame i = no_asks frame.rows
phys_asks (op.Projection p) slot frame i = no_asks frame.rows
phys_asks (op.Hstack p) slot frame i = no_asks frame.rows
phys_asks (op.Function f) slot frame i = no_asks frame.rows
phys_asks (op.Pass p) slot frame i = no_asks frame.rows
phys_asks (op.PlaceHolder p) slot frame i = record { sums = λ weight. refl }
phys_asks (op.CallBack c) slot frame i = join_asks c slot frame i

pub phys_flushes : {H : Type 0} (o : PhysOperator H) (s : List Field) → is_flushing_of o ≡ true → flushed_of o ≡ output_of o s
phys_flushes (op.Filter f) s due = never_due due
phys_flushes (op.SimpleProjection p) s due = never_due due
phys_flushes (op.Projection p) s due = never_due due
phys_flushes (op.Hstack p) s due = never_due due
phys_flushes (op.Function f) s due = never_due due
phys_flushes (op.Pass p) s due = never_due due
phys_flushes (op.PlaceHolder p) s due = never_due due
phys_flushes (op.CallBack c) s due = join_flushes c due

pub phys_calm : {H : Type 0} (o : PhysOperator H) → idle_of o → is_flushing_of o ≡ false
phys_calm (op.Filter f) i = refl
phys_calm (op.SimpleProjection p) i = refl
phys_calm (op.Projection p) i = refl
phys_calm (op.Hstack p) i = refl
phys_calm (op.Function f) i = refl
phys_calm (op.Pass p) i = refl
phys_calm (op.PlaceHolder p) i = refl
phys_calm (op.CallBack c) i = join_calm c i

-- where nothing is kept, there is nothing to flush
none-kept : {H : Type 0} {P : Type 0} (slot : Slot H) (n : ℕ) → KeepsNothing slot → n < parts_in slot → P
none-kept Empty n none less = absurd (omega (arith, less))
none-kept (Keys t) n none less = absurd (omega (arith, less))
none-kept (Rows f) n none less = absurd (omega (arith, less))
none-kept (Full t) n none less = absurd none
none-kept Spent n none less = absurd (omega (arith, less))

pub phys_kept : {H : Type 0} (hash_of : H → List ℕ → ℕ) (o : PhysOperator H) (slot : Slot H) (n : ℕ) → closed_of hash_of o slot → n < parts_in slot → keeps_of o
phys_kept hash_of (op.Filter f) slot n closed less = none-kept slot n closed less
phys_kept hash_of (op.SimpleProjection p) slot n closed less = none-kept slot n closed less
phys_kept hash_of (op.Projection p) slot n closed less = none-kept slot n closed less
phys_kept hash_of (op.Hstack p) slot n closed less = none-kept slot n closed less
phys_kept hash_of (op.Function f) slot n closed less = none-kept slot n closed less
phys_kept hash_of (op.Pass p) slot n closed less = none-kept slot n closed less
phys_kept hash_of (op.PlaceHolder p) slot n closed less = absurd closed
phys_kept hash_of (op.CallBack c) slot n closed less = join_kept hash_of c slot n closed less
