-- What holds an expression says the same to every thread, and so does a table with its flags.
-- (No such fact comes by itself for a type that holds itself, as an expression does.)
use denote.RattleType.{RattleType}
use Rattle.std.proofs.Common.{Bool, true, false, List, [], ◌∷◌}
use base.Fml.{ftrue}
use base.Shift.{Keyless}
use denote.Builtin.{RawPtr, u32, usize}
use Rattle.pipe_schema.specs.contracts.list.List as Numbers
use denote.RawPtr.{Ptr, block_ptr, null_ptr, block_of, count_of, in_block, ◌+ₚ◌}
use denote.Param.Send.{Common, Frees, part_keyless, enum_sync, sendable}
use denote.Struct.Lending.{lent_at}
use denote.Struct.Owning.{shape as owned_shape, to as owned_to}
use Rattle.std.specs.Mem.Slots.{slots_items, slots_filled, slots_ptr}
use Rattle.std.specs.Mem.Slots.Ownership.{bytes_of, slots_lent}
use Rattle.core.specs.contracts.slots.Slots as slots
use Rattle.core.specs.contracts.slots.Lease as lease
use Rattle.atomic_table.specs.contracts.owned.Closed as closed
use Rattle.pipe_chain.specs.contracts.flags.Flags as flags
use Rattle.pipe_chain.specs.contracts.flags.Flags.TheInside as flags_inside
use Rattle.pipe_chain.proofs.match_flags.MatchFlags.TheSendSync as running
use Rattle.pipe_outer.specs.contracts.marks.Marks as marks
use Rattle.pipe_outer.specs.contracts.full_table.FullTable as full
use Rattle.pipe_outer.specs.contracts.full_table.FullTable.TheInside as full_inside
use denote.Enum.Declared.{shape as enum_shape}
use Rattle.std.proofs.vec.Vec.TheSendSync as vec
use Rattle.core.specs.declared.alloc.Allocator.{Ghosts as AllocatorWords}
use denote.Param.Send.{IsSend, IsSync, plain_send, plain_sync, struct_send, struct_sync, recorded_send, recorded_sync, view_send, view_sync}
use denote.Struct.Declared.{shape}
use Rattle.std.below.std_heap.proofs.GlobalAllocator.TheSendSync as frees
use Rattle.std.proofs.alloc.Global.TheSendSync as global
use Rattle.std.proofs.option.Option.TheSendSync as option
use Rattle.std.proofs.boxed.Box.TheSendSync as box
use Rattle.std.proofs.sync.Arc.TheSendSync as arc
use Rattle.std.specs.contracts.alloc.Global as Global
use Rattle.std.specs.contracts.sync.Arc as Arc
use Rattle.std.specs.contracts.impls.GlobalAllocator.TheImpl as heap
use Rattle.pipe_expr.specs.contracts.expr.Expr as expr
use Rattle.pipe_expr.specs.contracts.expr.NamedExpr as named
use Rattle.pipe_expr.specs.contracts.physical.PhysicalExpr as physical
use Rattle.pipe_expr.specs.contracts.physical.PhysicalExpr.TheInside as inside
use Rattle.pipe_expr.proofs.expr.Expr.TheLaws.TheKnot as knot
use Rattle.pipe_schema.proofs.schema.Schema.TheSendSync as schema
use Rattle.pipe_expr.proofs.join_words.JoinType.TheSendSync as kind
use Rattle.pipe_frame.proofs.data_frame.DataFrame.TheSendSync as frame
use Rattle.pipe_schema.proofs.list.List.TheSendSync as list
use Rattle.pipe_schema.proofs.text.Text.TheSendSync as text
use Rattle.pipe_frame.specs.contracts.data_frame.DataFrame as Frame
use Rattle.pipe_index.proofs.numbered_keys.NumberedKeys.TheSendSync as keys
use Rattle.pipe_index.specs.declared.hashes_keys.HashesKeys.{Ghosts}
use Rattle.pipe_rows.proofs.rows_encoded.RowsEncoded.TheSendSync as encoded
use Rattle.pipe_table.proofs.row_lists.RowLists.TheSendSync as lists
use Rattle.pipe_table.specs.contracts.spec.JoinSpec as spec
use Rattle.pipe_table.specs.contracts.table.JoinTable as table
use Rattle.pipe_table.specs.contracts.table.JoinTable.TheInside as table_inside
use Rattle.std.specs.contracts.option.Option as Option
use Rattle.pipe_schema.specs.contracts.text.Text as Text
use Rattle.std.proofs.marker.PhantomData.TheSendSync as phantom
use Rattle.pipe_probe.proofs.begun.Begun.TheSendSync as begun
use Rattle.pipe_probe.specs.contracts.begun.Begun as Begun
use Rattle.pipe_probe.proofs.cross_probe.CrossBegun.TheSendSync as cross_begun
use Rattle.pipe_probe.specs.contracts.cross_probe.CrossBegun as CrossBegun
use Rattle.pipe_probe.specs.contracts.cross_probe.CrossJoinProbe as cross
use Rattle.pipe_probe.specs.contracts.join_output.JoinOutput as output
use Rattle.pipe_probe.specs.contracts.join_output.JoinOutput.TheInside as output_inside
use Rattle.pipe_probe.specs.contracts.probe.GenericJoinProbe as probe
use Rattle.pipe_chain.proofs.flag_seat.FlagSeat.TheSendSync as flag_seat
use Rattle.pipe_chain.specs.contracts.flag_seat.FlagSeat as FlagSeat
use Rattle.pipe_outer.proofs.full_begun.FullBegun.TheSendSync as full_begun
use Rattle.pipe_outer.specs.contracts.full_begun.FullBegun as FullBegun
use Rattle.pipe_outer.proofs.given.Given.TheSendSync as given
use Rattle.pipe_outer.specs.contracts.given.Given as Given
use Rattle.pipe_outer.proofs.due.FlushDue.TheSendSync as due
use Rattle.pipe_outer.specs.contracts.due.FlushDue as FlushDue
use Rattle.pipe_outer.specs.contracts.full_probe.GenericFullOuterJoinProbe as full_probe
use Rattle.pipe_outer.specs.contracts.full_probe.GenericFullOuterJoinProbe.TheInside as full_probe_inside
use Rattle.pipe_outer.specs.contracts.mark_probe.GenericMarkProbe as mark_probe
use Rattle.pipe_outer.specs.contracts.mark_probe.GenericMarkProbe.TheInside as mark_probe_inside
use Rattle.pipe_schema.proofs.data_type.DataType.TheSendSync as dtype
use Rattle.pipe_schema.proofs.any_value.AnyValue.TheSendSync as any

pub expr-send : IsSend (expr.the_field).row
expr-send = knot.send-Expr text.the_send dtype.the_field_send any.the_field_send (λ h s. box.the_send h Global.the_row heap.ghosts s global.the_send frees.the_frees)

pub expr-sync : IsSync (expr.the_field).row
expr-sync = knot.sync-Expr text.the_sync dtype.the_field_sync any.the_field_sync (λ h s. box.the_sync h Global.the_row heap.ghosts s global.the_sync)

named-field-send : IsSend (named.the_field).row
named-field-send = struct_send (shape named.the_type) (text.the_send, (expr-send, tt))

named-field-sync : IsSync (named.the_field).row
named-field-sync = struct_sync (shape named.the_type) (text.the_sync, (expr-sync, tt))

pub physical-send : IsSend physical.the_row
physical-send =
    view_send inside.the_row _ _ _ _ (recorded_send (inside.the_field).row _ _ (inside.the_type).to_one (struct_send (shape inside.the_type) (named-field-send, (schema.the_send, tt))))

pub physical-sync : IsSync physical.the_row
physical-sync =
    view_sync inside.the_row _ _ _ _ (recorded_sync (inside.the_field).row _ _ (inside.the_type).to_one (struct_sync (shape inside.the_type) (named-field-sync, (schema.the_sync, tt))))

spec-field-send : IsSend (spec.the_field).row
spec-field-send =
    struct_send (shape spec.the_type) (kind.the_field_send, (plain_send _ _ _ _ _, (plain_send _ _ _ _ _, (plain_send _ _ _ _ _, (text.the_send, (schema.the_send, (schema.the_send, (list.the_send physical.the_row physical-send, (list.the_send physical.the_row physical-send, tt)))))))))

spec-field-sync : IsSync (spec.the_field).row
spec-field-sync =
    struct_sync (shape spec.the_type) (kind.the_field_sync, (plain_sync _ _ _ _ _, (plain_sync _ _ _ _ _, (plain_sync _ _ _ _ _, (text.the_sync, (schema.the_sync, (schema.the_sync, (list.the_sync physical.the_row physical-sync, (list.the_sync physical.the_row physical-sync, tt)))))))))

pub spec-send : IsSend spec.the_row
spec-send = recorded_send (spec.the_field).row _ _ (spec.the_type).to_one spec-field-send

pub spec-sync : IsSync spec.the_row
spec-sync = recorded_sync (spec.the_field).row _ _ (spec.the_type).to_one spec-field-sync

pub shared-send : IsSend (Arc.the_row spec.the_row Global.the_row heap.ghosts)
shared-send = arc.the_send spec.the_row Global.the_row heap.ghosts spec-send global.the_send spec-sync global.the_sync frees.the_frees

pub shared-sync : IsSync (Arc.the_row spec.the_row Global.the_row heap.ghosts)
shared-sync = arc.the_sync spec.the_row Global.the_row heap.ghosts spec-send global.the_send spec-sync global.the_sync frees.the_frees

module _ (T : RattleType) (g : Ghosts T.Denot) where
  pub table-send : IsSend T → IsSend (table.the_row T g)
  table-send s =
      view_send (table_inside.the_row T g) _ _ _ _ (recorded_send (table_inside.the_field T g).row _ _ (table_inside.the_type T g).to_one (struct_send (shape (table_inside.the_type T g)) (shared-send, (s, (frame.the_send, (option.the_field_send Frame.the_row frame.the_send, (encoded.the_send, (keys.the_field_send, (lists.the_send, tt)))))))))

  pub table-sync : IsSync T → IsSync (table.the_row T g)
  table-sync s =
      view_sync (table_inside.the_row T g) _ _ _ _ (recorded_sync (table_inside.the_field T g).row _ _ (table_inside.the_type T g).to_one (struct_sync (shape (table_inside.the_type T g)) (shared-sync, (s, (frame.the_sync, (option.the_field_sync Frame.the_row frame.the_sync, (encoded.the_sync, (keys.the_field_sync, (lists.the_sync, tt)))))))))

-- ---- words that are closed

pointer-sync : IsSync RawPtr
pointer-sync = search sendable

number-sync : IsSync usize
number-sync = search sendable

block-inside : (p : Ptr) → Keyless (in_block p ftrue)
block-inside (block_ptr b o) = tt
block-inside null_ptr = tt

seen : (R : RattleType) → IsSync R → (p : Ptr) (x : R.Denot) → Common (lent_at R p x)
seen R y p x κ = (block-inside p, y.shared x (block_of p) (count_of p) κ)

slots-lent : (R : RattleType) → IsSync R → (p : Ptr) (xs : List R.Denot) (fs : List Bool) → Common (slots_lent R p xs fs)
slots-lent R y p [] fs κ = tt
slots-lent R y p (x ∷ xs) [] κ = tt
slots-lent R y p (x ∷ xs) (true ∷ fs) κ = (seen R y p x κ, slots-lent R y (p +ₚ bytes_of R) xs fs κ)
slots-lent R y p (x ∷ xs) (false ∷ fs) κ = (tt, slots-lent R y (p +ₚ bytes_of R) xs fs κ)

pub slots-sync : (R : RattleType) → IsSync R → IsSync (slots.the_row R)
slots-sync R y = record {
  shared = λ d b o κ. ((struct_sync (owned_shape (slots.the_type R)) (pointer-sync, (number-sync, tt))).shared (owned_to (slots.the_type R) d) b o κ, (tt, slots-lent R y (slots_ptr d) (slots_items d) (slots_filled d) κ));
}

lease-send : (R A : RattleType) (g : AllocatorWords A.Denot) → Frees g g.dealloc_token → IsSend (lease.the_row R A g)
lease-send R A g f = record { owned = λ d vs. ((λ uss. (tt, (tt, ((tt, tt), ((λ wss. (tt, tt)), tt))))), f.frees _ _ _); leaving = λ k x vs. tt }

lease-sync : (R A : RattleType) (g : AllocatorWords A.Denot) → Frees g g.dealloc_token → IsSync (lease.the_row R A g)
lease-sync R A g f = record { shared = λ d b o κ q. part_keyless (lease.the_row R A g) (lease-send R A g f) q d b o }

-- ---- a table with its flags

closed-sync : (S : RattleType) → IsSync S → IsSync (closed.the_field S Global.the_row heap.ghosts).row
closed-sync S y = struct_sync (shape (closed.the_type S Global.the_row heap.ghosts)) (slots-sync _ (search sendable), (slots-sync S y, (lease-sync _ Global.the_row heap.ghosts frees.the_frees, (lease-sync S Global.the_row heap.ghosts frees.the_frees, (global.the_sync, tt)))))

flags-sync : IsSync flags.the_row
flags-sync = view_sync flags_inside.the_row _ _ _ _ (recorded_sync (flags_inside.the_field).row _ _ (flags_inside.the_type).to_one (struct_sync (shape flags_inside.the_type) (closed-sync _ (search sendable), tt)))

marks-sync : IsSync (marks.the_field).row
marks-sync = enum_sync (enum_shape marks.the_type) ((running.the_sync, tt), ((flags-sync, tt), tt))

pub output-send : IsSend output.the_row
output-send =
    view_send output_inside.the_row _ _ _ _ (recorded_send (output_inside.the_field).row _ _ (output_inside.the_type).to_one (struct_send (shape output_inside.the_type) (shared-send, (list.the_send (Option.the_row Text.the_row) (option.the_send Text.the_row text.the_send), (schema.the_send, tt)))))

pub output-sync : IsSync output.the_row
output-sync =
    view_sync output_inside.the_row _ _ _ _ (recorded_sync (output_inside.the_field).row _ _ (output_inside.the_type).to_one (struct_sync (shape output_inside.the_type) (shared-sync, (list.the_sync (Option.the_row Text.the_row) (option.the_sync Text.the_row text.the_sync), (schema.the_sync, tt)))))

pub probe-field-send : (T : RattleType) → IsSend T → IsSend (probe.the_field T).row
probe-field-send T s =
    struct_send (shape (probe.the_type T)) (output-send, (option.the_field_send Begun.the_row begun.the_send, (phantom.the_field_send T, tt)))

pub probe-field-sync : (T : RattleType) → IsSync T → IsSync (probe.the_field T).row
probe-field-sync T s =
    struct_sync (shape (probe.the_type T)) (output-sync, (option.the_field_sync Begun.the_row begun.the_sync, (phantom.the_field_sync T, tt)))

pub cross-field-send : IsSend (cross.the_field).row
cross-field-send = struct_send (shape cross.the_type) (output-send, (option.the_field_send CrossBegun.the_row cross_begun.the_send, tt))

module _ (T : RattleType) (g : Ghosts T.Denot) where
  pub full-sync : IsSync T → IsSync (full.the_row T g)
  full-sync y = view_sync (full_inside.the_row T g) _ _ _ _ (recorded_sync (full_inside.the_field T g).row _ _ (full_inside.the_type T g).to_one (struct_sync (shape (full_inside.the_type T g)) (table-sync T g y, (output-sync, (vec.the_sync (Numbers.the_row u32) Global.the_row heap.ghosts (list.the_sync u32 (search sendable)) global.the_sync, (marks-sync, tt))))))

module _ (T : RattleType) (g : Ghosts T.Denot) where
  pub full_probe-send : IsSend T → IsSend (full_probe.the_row T g)
  full_probe-send s =
      view_send (full_probe_inside.the_row T g) _ _ _ _ (recorded_send (full_probe_inside.the_field T g).row _ _ (full_probe_inside.the_type T g).to_one (struct_send (shape (full_probe_inside.the_type T g)) (shared-send, (option.the_field_send FlagSeat.the_row flag_seat.the_send, (option.the_field_send FullBegun.the_row full_begun.the_send, (option.the_field_send FlushDue.the_row due.the_send, (phantom.the_field_send T, tt)))))))

  pub mark_probe-send : IsSend T → IsSend (mark_probe.the_row T g)
  mark_probe-send s =
      view_send (mark_probe_inside.the_row T g) _ _ _ _ (recorded_send (mark_probe_inside.the_field T g).row _ _ (mark_probe_inside.the_type T g).to_one (struct_send (shape (mark_probe_inside.the_type T g)) (shared-send, (option.the_field_send FlagSeat.the_row flag_seat.the_send, (option.the_field_send Given.the_row given.the_send, (option.the_field_send FlushDue.the_row due.the_send, (phantom.the_field_send T, tt)))))))
