-- An operator of a plan may be given to another thread, and what its probe reads be lent to one, where the hasher may.
use denote.RattleType.{RattleType}
use denote.Enum.Declared.{shape}
use denote.Param.Send.{IsSend, IsSync, plain_send, struct_send, recorded_send, recorded_sync, view_send, enum_send, enum_sync}
use denote.Struct.Declared.{shape as fields_shape}
use Rattle.pipe_expr.specs.contracts.physical.PhysicalExpr as physical
use Rattle.pipe_frame.proofs.data_frame.DataFrame.TheSendSync as frame
use Rattle.pipe_source.proofs.function.FunctionOperator.TheSendSync as function
use Rattle.pipe_index.specs.declared.hashes_keys.HashesKeys.{Ghosts}
use Rattle.pipe_ops.proofs.filter.FilterOperator.TheSendSync as filter
use Rattle.pipe_ops.proofs.hstack.HstackOperator.TheSendSync as hstack
use Rattle.pipe_ops.proofs.pass.Pass.TheSendSync as passing
use Rattle.pipe_ops.proofs.projection.ProjectionOperator.TheSendSync as projection
use Rattle.pipe_ops.proofs.simple_projection.SimpleProjectionOperator.TheSendSync as names
use Rattle.pipe_slots.specs.contracts.call_back.CallBack as call_back
use Rattle.pipe_slots.specs.contracts.phys_operator.PhysOperator as operator
use Rattle.pipe_slots.specs.contracts.place_holder.PlaceHolder as place
use Rattle.pipe_slots.specs.contracts.place_holder.PlaceHolder.TheInside as place_inside
use Rattle.pipe_slots.specs.contracts.slot.Slot as slot
use Rattle.pipe_passage.proofs.Sent.{physical-send, physical-sync, shared-send, table-sync, full-sync, probe-field-send, cross-field-send, full_probe-send, mark_probe-send}

place-send : IsSend place.the_row
place-send =
    view_send place_inside.the_row _ _ _ _ (recorded_send (place_inside.the_field).row _ _ (place_inside.the_type).to_one (struct_send (fields_shape place_inside.the_type) (plain_send _ _ _ _ _, (shared-send, tt))))

probing-send : (T : RattleType) (g : Ghosts T.Denot) → IsSend T → IsSend (call_back.the_field T g).row
probing-send T g s =
    enum_send (shape (call_back.the_type T g)) ((probe-field-send T s, tt), ((cross-field-send, tt), ((full_probe-send T g s, tt), ((mark_probe-send T g s, tt), tt))))

pub operator-send : (T : RattleType) (g : Ghosts T.Denot) → IsSend T → IsSend (operator.the_row T g)
operator-send T g s =
    recorded_send (operator.the_field T g).row _ _ (operator.the_type T g).to_one (enum_send (shape (operator.the_type T g)) ((filter.the_field_send physical.the_row physical-send physical-sync, tt), ((names.the_field_send, tt), ((projection.the_field_send physical.the_row physical-send physical-sync, tt), ((hstack.the_field_send physical.the_row physical-send physical-sync, tt), ((function.the_field_send, tt), ((passing.the_field_send, tt), ((place-send, tt), ((probing-send T g s, tt), tt)))))))))

pub slot-sync : (T : RattleType) (g : Ghosts T.Denot) → IsSync T → IsSync (slot.the_row T g)
slot-sync T g y =
    recorded_sync (slot.the_field T g).row _ _ (slot.the_type T g).to_one (enum_sync (shape (slot.the_type T g)) (tt, ((table-sync T g y, tt), ((frame.the_sync, tt), ((full-sync T g y, tt), (tt, tt))))))
