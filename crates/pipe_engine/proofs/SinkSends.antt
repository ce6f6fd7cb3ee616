-- A sink of a plan may be given to another thread, and lent to one, where the hasher may.
use denote.RattleType.{RattleType}
use denote.Enum.Declared.{shape as enum_shape}
use denote.Param.Send.{IsSend, IsSync, plain_send, plain_sync, struct_send, struct_sync, recorded_send, recorded_sync, view_send, view_sync, enum_send, enum_sync}
use denote.Struct.Declared.{shape}
use Rattle.std.proofs.option.Option.TheSendSync as option
use Rattle.pipe_index.specs.declared.hashes_keys.HashesKeys.{Ghosts}
use Rattle.pipe_passage.proofs.Sent.{shared-send, shared-sync}
use Rattle.pipe_probe.proofs.cross.CrossJoin.TheSendSync as cross
use Rattle.pipe_slots.specs.contracts.phys_sink.PhysSink as sink
use Rattle.pipe_sort.proofs.sink.SortSink.TheSendSync as sort
use Rattle.pipe_source.proofs.ordered_sink.OrderedSink.TheSendSync as ordered
use Rattle.pipe_table.proofs.kept.Kept.TheSendSync as kept
use Rattle.pipe_table.specs.contracts.build.GenericBuild as build
use Rattle.pipe_table.specs.contracts.build.GenericBuild.TheInside as build_inside
use Rattle.pipe_table.specs.contracts.kept.Kept as Kept

module _ (T : RattleType) (g : Ghosts T.Denot) where
  build-send : IsSend T → IsSend (build.the_row T g)
  build-send s =
      view_send (build_inside.the_row T g) _ _ _ _ (recorded_send (build_inside.the_field T g).row _ _ (build_inside.the_type T g).to_one (struct_send (shape (build_inside.the_type T g)) (shared-send, (plain_send _ _ _ _ _, (plain_send _ _ _ _ _, (s, (plain_send _ _ _ _ _, (option.the_field_send Kept.the_row kept.the_send, tt))))))))

  build-sync : IsSync T → IsSync (build.the_row T g)
  build-sync s =
      view_sync (build_inside.the_row T g) _ _ _ _ (recorded_sync (build_inside.the_field T g).row _ _ (build_inside.the_type T g).to_one (struct_sync (shape (build_inside.the_type T g)) (shared-sync, (plain_sync _ _ _ _ _, (plain_sync _ _ _ _ _, (s, (plain_sync _ _ _ _ _, (option.the_field_sync Kept.the_row kept.the_sync, tt))))))))

  pub sink-send : IsSend T → IsSend (sink.the_row T g)
  sink-send s =
      recorded_send (sink.the_field T g).row _ _ (sink.the_type T g).to_one (enum_send (enum_shape (sink.the_type T g)) ((ordered.the_send, tt), ((sort.the_send, tt), ((build-send s, tt), ((cross.the_send, tt), tt)))))

  pub sink-sync : IsSync T → IsSync (sink.the_row T g)
  sink-sync s =
      recorded_sync (sink.the_field T g).row _ _ (sink.the_type T g).to_one (enum_sync (enum_shape (sink.the_type T g)) ((ordered.the_sync, tt), ((sort.the_sync, tt), ((build-sync s, tt), ((cross.the_sync, tt), tt)))))
