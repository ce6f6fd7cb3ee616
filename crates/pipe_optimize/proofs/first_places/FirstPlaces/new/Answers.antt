use Rattle.std.proofs.Common.{refl}
use Rattle.pipe_optimize.proofs.Noted.{none-noted}
use Rattle.pipe_optimize.proofs.first_places.FirstPlaces.new.Goals as goal

pub returns : goal.returns
returns c = λ names. none-noted (record { places = c.new.result; count = 0 }) names refl c.new.ensures.empty
