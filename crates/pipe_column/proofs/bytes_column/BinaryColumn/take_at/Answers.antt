use Rattle.std.proofs.Common.{[], map}
use Rattle.pipe_column.proofs.Nullables.{nullables_gathered}
use Rattle.pipe_column.proofs.bytes_column.BinaryColumn.take_at.Goals as goal

pub returns : goal.returns
returns g c = nullables_gathered c.self.inside.validity c.self.inside.pieces [] (map g.P.Place.place c.args.places.now) c.self.view_is c.self.invariant c.in_ok-take_at.ensures c.in_ok-take_at-2.ensures
