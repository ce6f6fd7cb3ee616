use Rattle.pipe_stream.proofs.HandLemmas.{may_send_same, sends}
use Rattle.pipe_stream.proofs.worker.send.Goals as goal

pub try_push_as-requires-clause-rule : goal.try_push_as-requires-clause-rule
try_push_as-requires-clause-rule g c = sends _ _ _ _ (may_send_same _ _ _ _ c.loop.invariant.2 c.loop.invariant.1 c.requires.rule)
