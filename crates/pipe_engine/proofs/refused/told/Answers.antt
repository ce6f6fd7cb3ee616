use denote.Param.Send.{sendable}
use Rattle.pipe_engine.proofs.SinkSends.{sink-send, sink-sync}
use Rattle.pipe_engine.proofs.refused.told.Goals as goal

pub close_passage-requires-clause-held : goal.close_passage-requires-clause-held
close_passage-requires-clause-held g c = λ κs lives. c.requires.held _ c.in-TooMany.is

pub close_passage-requires-send-K : goal.close_passage-requires-send-K
close_passage-requires-send-K g c κs within = let s = c.type_bounds.send-H in search (sendable, sink-send)

pub close_passage-requires-sync-K : goal.close_passage-requires-sync-K
close_passage-requires-sync-K g c κs within = let y = c.type_bounds.sync-H in search (sendable, sink-sync)

pub returns-in-Ok-clause-told : goal.returns-in-Ok-clause-told
returns-in-Ok-clause-told g c = record { was = c.in-TooMany.is; slots = c.close_slots.ensures; stages = c.in-Ok.ensures.once }
