use Rattle.pipe_column.proofs.Nullables.{nullable_shown}
use Rattle.pipe_column.proofs.column.Column.nullable.Goals as goal

pub returns : goal.returns
returns g c = nullable_shown c.self.inside.validity c.self.inside.values c.args.i c.index-as_slice-i.result c.index-as_slice-i.result c.self.view_is c.self.invariant c.at.ensures c.as_slice.ensures c.index-as_slice-i.is
