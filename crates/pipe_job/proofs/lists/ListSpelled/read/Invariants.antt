use Rattle.pipe_value.specs.Items.{elements}
use Rattle.pipe_value.specs.View.{view}
use Rattle.pipe_job.proofs.SoFar.{SoFar}
use Rattle.pipe_job.proofs.lists.ListSpelled.read.Given as goal

abbrev pub invariant-loop-i : goal.invariant-loop-i
invariant-loop-i g l = SoFar g.T.Spelled.spelling g.T.Spelled.fits g.T.Spelled.shape (elements (view l.value)) l.i l.items
