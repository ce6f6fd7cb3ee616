use Rattle.pipe_frame.proofs.Tables.{columns_of-table}
use Rattle.pipe_frame.proofs.data_frame.DataFrame.into_columns.Goals as goal

pub returns : goal.returns
returns c = columns_of-table c.self.inside.columns.items c.self.inside.height c.self.view_is c.self.invariant.2
