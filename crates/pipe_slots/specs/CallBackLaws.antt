-- What a join's probe that has begun nothing is ready for, and what it owes.
use Rattle.std.proofs.Common.{◌≡◌, ℕ, ◌<◌, Bool, true, false, List, [], ◌∷◌, refl, ap, subst, arith}
use Rattle.std.specs.List.{flat_map}
use Rattle.pipe_frame.specs.Frame.{Table}
use Rattle.pipe_schema.specs.Rows.{Row, Same}
use Rattle.pipe_schema.specs.declared.field.Field.{Field}
use Rattle.pipe_expr.specs.declared.join_words.JoinType.{JoinType}
use Rattle.pipe_expr.specs.declared.join_words.JoinType.TheVariants as how
use Rattle.pipe_ops.specs.Laws.{same-equal, never_due}
use Rattle.pipe_probe.specs.CrossLaws as cross_laws
use Rattle.pipe_probe.specs.ProbeLaws.{idle_ready, idle_owes}
use Rattle.pipe_chain.specs.Keys.{SameKeys}
use Rattle.pipe_chain.specs.PlainLaws.{no_asks}
use Rattle.pipe_outer.specs.FullLaws.{full_starts, full_owes, full_asks}
use Rattle.pipe_outer.specs.MarkLaws.{mark_starts, mark_owes, mark_asks, mark_calm}
use Rattle.pipe_outer.specs.MarkProbe.{gives_built, gives_first, no_rows}
use Rattle.pipe_table.specs.declared.spec.JoinSpec.{JoinSpec}
use Rattle.pipe_slots.specs.CallBackWords.{kind_in, spec_in, rest_in, ready_in, idle_in, is_flushing, closed_in, keeps_in}
use Rattle.pipe_slots.specs.JoinWords.{takes_join, output_join, flushed_join, work_join, parts_by, parts_in}
use Rattle.pipe_slots.specs.declared.call_back.CallBack.{CallBack}
use Rattle.pipe_slots.specs.declared.call_back.CallBack.TheVariants as probe
use Rattle.pipe_slots.specs.declared.slot.Slot.{Slot}
use Rattle.pipe_slots.specs.declared.slot.Slot.TheVariants.{Empty, Keys, Rows, Full, Spent}

pub join_starts : {H : Type 0} (c : CallBack H) (slot : Slot H) (frame : Table) → idle_in c → ready_in c slot frame
join_starts (probe.Join p) Empty frame i = tt
join_starts (probe.Join p) (Keys t) frame i = idle_ready p.output t frame p.begun i
join_starts (probe.Join p) (Rows f) frame i = tt
join_starts (probe.Join p) (Full t) frame i = tt
join_starts (probe.Join p) Spent frame i = tt
join_starts (probe.Cross p) Empty frame i = tt
join_starts (probe.Cross p) (Keys t) frame i = tt
join_starts (probe.Cross p) (Rows f) frame i = cross_laws.idle_ready f frame p.begun i
join_starts (probe.Cross p) (Full t) frame i = tt
join_starts (probe.Cross p) Spent frame i = tt
join_starts (probe.Full p) Empty frame i = tt
join_starts (probe.Full p) (Keys t) frame i = tt
join_starts (probe.Full p) (Rows f) frame i = tt
join_starts (probe.Full p) (Full t) frame i = full_starts t.table frame p.begun p.due i.0 i.1
join_starts (probe.Full p) Spent frame i = tt
join_starts (probe.Mark p) Empty frame i = tt
join_starts (probe.Mark p) (Keys t) frame i = tt
join_starts (probe.Mark p) (Rows f) frame i = tt
join_starts (probe.Mark p) (Full t) frame i = mark_starts t.table.rows p.begun p.due i.0 i.1
join_starts (probe.Mark p) Spent frame i = tt

none-given : (rows : List Row) → flat_map no_rows rows ≡ []
none-given [] = refl
none-given (row ∷ rows) = none-given rows

pub none-made : (rows : List Row) → Same [] (flat_map no_rows rows)
none-made rows = rw (none-given rows) (same-equal refl)

pub join_owes : {H : Type 0} (c : CallBack H) (slot : Slot H) (frame : Table) → idle_in c → Same (rest_in c slot frame).rows (flat_map (work_join (kind_in c) (spec_in c) slot).each frame.rows)
join_owes (probe.Join p) Empty frame i = none-made frame.rows
join_owes (probe.Join p) (Keys t) frame i = idle_owes p.output t.rows frame p.begun i
join_owes (probe.Join p) (Rows f) frame i = none-made frame.rows
join_owes (probe.Join p) (Full t) frame i = none-made frame.rows
join_owes (probe.Join p) Spent frame i = none-made frame.rows
join_owes (probe.Cross p) Empty frame i = none-made frame.rows
join_owes (probe.Cross p) (Keys t) frame i = none-made frame.rows
join_owes (probe.Cross p) (Rows f) frame i = cross_laws.idle_owes p.output f.rows frame p.begun i
join_owes (probe.Cross p) (Full t) frame i = none-made frame.rows
join_owes (probe.Cross p) Spent frame i = none-made frame.rows
join_owes (probe.Full p) Empty frame i = none-made frame.rows
join_owes (probe.Full p) (Keys t) frame i = none-made frame.rows
join_owes (probe.Full p) (Rows f) frame i = none-made frame.rows
join_owes (probe.Full p) (Full t) frame i = full_owes t.table p.begun frame i.0
join_owes (probe.Full p) Spent frame i = none-made frame.rows
join_owes (probe.Mark p) Empty frame i = none-made frame.rows
join_owes (probe.Mark p) (Keys t) frame i = none-made frame.rows
join_owes (probe.Mark p) (Rows f) frame i = none-made frame.rows
join_owes (probe.Mark p) (Full t) frame i = mark_owes (gives_first p.spec.how) t.table p.begun frame i.0
join_owes (probe.Mark p) Spent frame i = none-made frame.rows

pub join_asks : {H : Type 0} (c : CallBack H) (slot : Slot H) (frame : Table) → idle_in c → SameKeys (rest_in c slot frame).keys (flat_map (work_join (kind_in c) (spec_in c) slot).asks frame.rows)
join_asks (probe.Join p) Empty frame i = no_asks frame.rows
join_asks (probe.Join p) (Keys t) frame i = no_asks frame.rows
join_asks (probe.Join p) (Rows f) frame i = no_asks frame.rows
join_asks (probe.Join p) (Full t) frame i = no_asks frame.rows
join_asks (probe.Join p) Spent frame i = no_asks frame.rows
join_asks (probe.Cross p) Empty frame i = no_asks frame.rows
join_asks (probe.Cross p) (Keys t) frame i = no_asks frame.rows
join_asks (probe.Cross p) (Rows f) frame i = no_asks frame.rows
join_asks (probe.Cross p) (Full t) frame i = no_asks frame.rows
join_asks (probe.Cross p) Spent frame i = no_asks frame.rows
join_asks (probe.Full p) Empty frame i = no_asks frame.rows
join_asks (probe.Full p) (Keys t) frame i = no_asks frame.rows
join_asks (probe.Full p) (Rows f) frame i = no_asks frame.rows
join_asks (probe.Full p) (Full t) frame i = full_asks t.table p.begun frame i.0
join_asks (probe.Full p) Spent frame i = no_asks frame.rows
join_asks (probe.Mark p) Empty frame i = no_asks frame.rows
join_asks (probe.Mark p) (Keys t) frame i = no_asks frame.rows
join_asks (probe.Mark p) (Rows f) frame i = no_asks frame.rows
join_asks (probe.Mark p) (Full t) frame i = mark_asks (gives_first p.spec.how) t.table p.begun frame i.0
join_asks (probe.Mark p) Spent frame i = no_asks frame.rows

-- a flush gives the schema that chunks give
pub join_flushes : {H : Type 0} (c : CallBack H) → is_flushing c ≡ true → flushed_join (kind_in c) (spec_in c) ≡ output_join (kind_in c) (spec_in c)
join_flushes (probe.Join p) due = never_due due
join_flushes (probe.Cross p) due = never_due due
join_flushes (probe.Full p) due = refl
join_flushes (probe.Mark p) due = refl

pub join_calm : {H : Type 0} (c : CallBack H) → idle_in c → is_flushing c ≡ false
join_calm (probe.Join p) i = refl
join_calm (probe.Cross p) i = refl
join_calm (probe.Full p) i = mark_calm p.due i.1
join_calm (probe.Mark p) i = mark_calm p.due i.1

none-below : {n : ℕ} → n < 0 → ⊥
none-below less = absurd (omega (arith, less))

-- of joins that mark built rows, an anti join alone has partitions to flush
anti-kept : (kind : JoinType) (right_built : Bool) (parts n : ℕ) → gives_built kind right_built ≡ true → n < parts_by kind parts → kind ≡ how.Anti
anti-kept how.Inner right_built parts n marks less = absurd (none-below less)
anti-kept how.Left right_built parts n marks less = absurd (none-below less)
anti-kept how.Full right_built parts n marks less = never_due marks
anti-kept how.Cross right_built parts n marks less = absurd (none-below less)
anti-kept how.Semi right_built parts n marks less = absurd (none-below less)
anti-kept how.Anti right_built parts n marks less = refl

pub join_kept : {H : Type 0} (hash_of : H → List ℕ → ℕ) (c : CallBack H) (slot : Slot H) (n : ℕ) → closed_in hash_of c slot → n < parts_in slot → keeps_in c
join_kept hash_of (probe.Join p) Empty n closed less = none-below less
join_kept hash_of (probe.Join p) (Keys t) n closed less = none-below less
join_kept hash_of (probe.Join p) (Rows f) n closed less = none-below less
join_kept hash_of (probe.Join p) (Full t) n closed less = closed
join_kept hash_of (probe.Join p) Spent n closed less = none-below less
join_kept hash_of (probe.Cross p) Empty n closed less = none-below less
join_kept hash_of (probe.Cross p) (Keys t) n closed less = none-below less
join_kept hash_of (probe.Cross p) (Rows f) n closed less = none-below less
join_kept hash_of (probe.Cross p) (Full t) n closed less = closed
join_kept hash_of (probe.Cross p) Spent n closed less = none-below less
join_kept hash_of (probe.Full p) slot n closed less = tt
join_kept hash_of (probe.Mark p) Empty n closed less = absurd closed
join_kept hash_of (probe.Mark p) (Keys t) n closed less = absurd closed
join_kept hash_of (probe.Mark p) (Rows f) n closed less = absurd closed
join_kept hash_of (probe.Mark p) (Full t) n closed less =
    anti-kept p.spec.how p.spec.swapped t.table.parts n closed.0 (subst (λ (k : JoinType). n < parts_by k t.table.parts) (ap (λ (spec : JoinSpec). spec.how) closed.1.suits) less)
join_kept hash_of (probe.Mark p) Spent n closed less = absurd closed
