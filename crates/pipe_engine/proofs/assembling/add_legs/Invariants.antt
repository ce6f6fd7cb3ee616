use Rattle.std.proofs.Common.{◌≡◌, ℕ, ◌+◌, drop, map}
use Rattle.pipe_driver.specs.Ways.{legs_through}
use Rattle.pipe_driver.specs.Lines.{leg_as}
use Rattle.pipe_driver.specs.Tables.{number_at}
use Rattle.pipe_engine.proofs.assembling.add_legs.Given as goal

abbrev pub invariant-loop-leg : goal.invariant-loop-leg
invariant-loop-leg g l = (ordered n : ℕ) → number_at l.probers.left.items n + legs_through n (map (leg_as ordered) (drop l.leg-index l.legs)) ≡ number_at l.initial.probers.left.items n + legs_through n (map (leg_as ordered) l.legs)
