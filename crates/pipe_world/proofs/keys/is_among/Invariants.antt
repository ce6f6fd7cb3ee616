use Rattle.std.proofs.Common.{◌≡◌, drop}
use Rattle.pipe_events.specs.Decided.{stands_in}
use Rattle.pipe_world.proofs.keys.is_among.Given as goal

abbrev pub invariant-loop-number : goal.invariant-loop-number
invariant-loop-number l = stands_in (drop l.number-index l.numbers) l.n ≡ stands_in l.numbers l.n
