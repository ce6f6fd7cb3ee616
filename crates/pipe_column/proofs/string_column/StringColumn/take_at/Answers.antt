use Rattle.std.proofs.Common.{map}
use Rattle.pipe_column.proofs.Texts.{AreTexts-taken}
use Rattle.pipe_column.proofs.string_column.StringColumn.take_at.Goals as goal

pub invariant_of-result : goal.invariant_of-result
invariant_of-result g c = rw c.in_ok-take_at.ensures (AreTexts-taken c.self.inside.inner (map g.P.Place.place c.args.places.now) c.self.invariant)
