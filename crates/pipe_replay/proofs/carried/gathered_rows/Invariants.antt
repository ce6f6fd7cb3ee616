use Rattle.std.proofs.Common.{◌≡◌, take}
use Rattle.pipe_replay.specs.Carried.{gathered}
use Rattle.pipe_replay.proofs.carried.gathered_rows.Given as goal

abbrev pub invariant-loop-flows : goal.invariant-loop-flows
invariant-loop-flows l = l.rows ≡ gathered (take l.flows-index l.tables) l.t
