use Rattle.pipe_frame.proofs.Tables.{row_of_frame}
use Rattle.pipe_frame.proofs.data_frame.DataFrame.row.Goals as goal

pub returns : goal.returns
returns c = row_of_frame c.self.inside.columns.items c.self.inside.height c.args.i c.self.view_is c.requires c.row_of.result (rw c.as_slice.ensures.value at c.row_of.ensures)
