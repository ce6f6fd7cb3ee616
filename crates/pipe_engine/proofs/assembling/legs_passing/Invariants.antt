use Rattle.std.proofs.Common.{◌≡◌, ℕ, ◌+◌, drop}
use Rattle.pipe_driver.specs.Ways.{passes}
use Rattle.pipe_driver.specs.Lines.{ways_as}
use Rattle.pipe_driver.specs.Tables.{number_at}
use Rattle.pipe_engine.proofs.assembling.legs_passing.Given as goal

abbrev pub invariant-loop-line : goal.invariant-loop-line
invariant-loop-line g l = (ordered n : ℕ) → number_at l.probers.left.items n + passes n (ways_as ordered (drop l.line-index l.lines)) ≡ passes n (ways_as ordered l.lines)
