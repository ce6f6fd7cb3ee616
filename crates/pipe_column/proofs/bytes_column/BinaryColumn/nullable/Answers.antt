use Rattle.std.proofs.Common.{[], refl}
use Rattle.pipe_column.proofs.Nullables.{nullable_shown}
use Rattle.pipe_column.proofs.bytes_column.BinaryColumn.nullable.Goals as goal

pub returns : goal.returns
returns c = nullable_shown c.self.inside.validity c.self.inside.pieces c.args.i [] c.get.result.now c.self.view_is c.self.invariant c.at.ensures refl c.get.ensures
