use Rattle.std.proofs.Common.{◌∙◌, ap, length}
use Rattle.pipe_frame.proofs.RowOps.{rows-filtered, places-filtered}
use Rattle.pipe_frame.proofs.data_frame.DataFrame.filter.Goals as goal

pub taken-requires : goal.taken-requires
taken-requires c = places-filtered (length c.args.self.now.rows) c.in-Some.mask.now c.args.mask.now.cells c.as_slice.result.now c.in-Some.ensures.cells c.requires.even (c.as_slice.ensures.value ∙ c.in_ok-places.ensures)

pub returns : goal.returns
returns c = c.in_ok-taken.ensures ∙ ap (λ rows. record c.args.self.now { rows = rows }) (rows-filtered c.args.self.now c.in-Some.mask.now c.args.mask.now.cells c.as_slice.result.now c.in-Some.ensures.cells c.requires.even (c.as_slice.ensures.value ∙ c.in_ok-places.ensures))
