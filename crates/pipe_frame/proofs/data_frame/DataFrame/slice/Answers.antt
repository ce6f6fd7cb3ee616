use Rattle.pipe_frame.proofs.RowOps.{table_of-part, good-part}
use Rattle.pipe_frame.proofs.data_frame.DataFrame.slice.Goals as goal

pub invariant_of-result : goal.invariant_of-result
invariant_of-result c = good-part c.self.inside.columns.items c.self.inside.height c.args.offset c.args.len c.self.view_is c.requires c.self.invariant.0 c.self.invariant.1 c.self.invariant.2 c.in_ok-try_clone.ensures (rw c.as_slice.ensures.value at c.in_ok-slice_columns.ensures)

pub returns : goal.returns
returns c = table_of-part c.self.inside.columns.items c.self.inside.height c.args.offset c.args.len c.self.view_is c.requires (rw c.as_slice.ensures.value at c.in_ok-slice_columns.ensures)
