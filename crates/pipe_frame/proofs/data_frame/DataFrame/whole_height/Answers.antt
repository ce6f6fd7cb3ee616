use Rattle.pipe_frame.proofs.Stacks.{whole_rows}
use Rattle.pipe_frame.proofs.data_frame.DataFrame.whole_height.Goals as goal

pub returns-clause-whole : goal.returns-clause-whole
returns-clause-whole c = whole_rows c.self.inside.columns.items c.self.inside.height c.args.self.now c.self.view_is
