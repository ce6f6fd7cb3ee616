use Rattle.std.proofs.Common.{◌∙◌}
use Rattle.pipe_frame.proofs.Tables.{columns_of-table}
use Rattle.pipe_frame.proofs.data_frame.DataFrame.get_columns.Goals as goal

pub returns-clause-columns : goal.returns-clause-columns
returns-clause-columns c = c.as_slice.ensures.value ∙ columns_of-table c.self.inside.columns.items c.self.inside.height c.self.view_is c.self.invariant.2
