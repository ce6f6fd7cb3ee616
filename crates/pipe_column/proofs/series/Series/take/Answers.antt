use Rattle.std.proofs.Common.{◌∙◌, ap}
use Rattle.pipe_column.proofs.SeriesCells.{taken-chosen}
use Rattle.pipe_column.proofs.series.Series.take.Goals as goal

pub returns : goal.returns
returns c = c.in_ok-take_at.ensures ∙ ap (λ cells. record c.args.self.now { cells = cells }) (taken-chosen c.args.self.now.cells c.args.rows.now)
