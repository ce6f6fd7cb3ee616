use Rattle.pipe_value.specs.View.{view}
use Rattle.pipe_why_value.specs.Walks.{IsFirstBad}
use Rattle.pipe_why_value.proofs.cells.bad_cells.Given as goal

abbrev pub invariant-loop-row : goal.invariant-loop-row
invariant-loop-row l = IsFirstBad l.dtype (view l.values) l.row l.bad.first
