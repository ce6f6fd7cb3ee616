use Rattle.std.proofs.Common.{◌-◌, length}
use Rattle.pipe_optimize.specs.Noted.{AreNoted}
use Rattle.pipe_optimize.proofs.first_places.FirstPlaces.note_all.Given as goal

abbrev pub invariant-loop-self : goal.invariant-loop-self
invariant-loop-self l = AreNoted l.self l.names

abbrev pub decreases-loop-self : goal.decreases-loop-self
decreases-loop-self l = length l.names - l.self.count
