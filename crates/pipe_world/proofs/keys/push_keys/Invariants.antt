use Rattle.std.proofs.Common.{take}
use Rattle.pipe_world.specs.Changes.{AreAdded}
use Rattle.pipe_world.proofs.keys.push_keys.Given as goal

abbrev pub invariant-loop-key : goal.invariant-loop-key
invariant-loop-key l = AreAdded (take l.key-index l.keys) l.initial.flagged l.flagged
