use Rattle.pipe_value.specs.Items.{elements}
use Rattle.pipe_value.specs.View.{view}
use Rattle.pipe_job.specs.Shape.{is_maybe}
use Rattle.pipe_job.specs.Spelling.{maybe, MaybeFits}
use Rattle.pipe_job.proofs.SoFar.{SoFar}
use Rattle.pipe_job.proofs.columns.values_of.Given as goal

abbrev pub invariant-loop-i : goal.invariant-loop-i
invariant-loop-i g l = SoFar (maybe g.T.Spelled.spelling) (MaybeFits g.T.Spelled.fits) (is_maybe g.T.Spelled.shape) (elements (view l.value)) l.i l.column
