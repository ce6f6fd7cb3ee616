use Rattle.std.proofs.Common.{◌∙◌, ap, length}
use Rattle.pipe_frame.proofs.RowOps.{rows-chosen, places-inside}
use Rattle.pipe_frame.proofs.data_frame.DataFrame.take.Goals as goal

pub taken-requires : goal.taken-requires
taken-requires c = places-inside (length c.args.self.now.rows) c.args.rows.now c.requires

pub returns : goal.returns
returns c = c.in_ok-taken.ensures ∙ ap (λ rows. record c.args.self.now { rows = rows }) (rows-chosen c.args.self.now c.args.rows.now)
