use Rattle.pipe_stream.proofs.HandLemmas.{gets}
use Rattle.pipe_stream.proofs.caller.drop_one.Goals as goal

pub try_pop_as-requires-clause-rule : goal.try_pop_as-requires-clause-rule
try_pop_as-requires-clause-rule g c = gets _ _ c.requires.takes
