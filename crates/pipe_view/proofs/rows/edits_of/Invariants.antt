use Rattle.pipe_view.proofs.TypedEdits.{EditsSoFar}
use Rattle.pipe_view.proofs.rows.edits_of.Given as goal

abbrev pub invariant-loop-raw : goal.invariant-loop-raw
invariant-loop-raw l = EditsSoFar l.left l.right l.initial.raw-iterator.rest.items l.raw-iterator.rest.items l.edits
