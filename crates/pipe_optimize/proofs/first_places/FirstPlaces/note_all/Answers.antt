use Rattle.std.proofs.Common.{◌+◌, refl}
use Rattle.pipe_optimize.proofs.Noted.{noted-kept, noted-next}
use Rattle.pipe_optimize.proofs.first_places.FirstPlaces.note_all.Goals as goal

pub returns-in_err-note : goal.returns-in_err-note
returns-in_err-note c =
    noted-kept c.loop-self.self (record { places = c.note.new.places; count = c.loop-self.self.count }) c.args.names.now refl c.in_err-note.ensures.err c.loop-self.invariant

pub loop-self-preserved : goal.loop-self-preserved
loop-self-preserved c =
    noted-next c.loop-self.self (record { places = c.note.new.places; count = c.loop-self.self.count + 1 }) c.args.names.now c.index-names-place.result c.loop-self-test.true c.index-names-place.is refl c.in_ok-note.ensures.noted c.loop-self.invariant
