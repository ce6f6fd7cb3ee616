use Rattle.std.proofs.Common.{◌≡◌}
use Rattle.pipe_value.specs.View.{view}
use Rattle.pipe_why_value.proofs.Looks.{none_looked_at}
use Rattle.pipe_why_value.proofs.cells.bad_cells.Goals as goal

pub loop-row-init : goal.loop-row-init
loop-row-init c = none_looked_at c.args.dtype (view c.args.values.now)
