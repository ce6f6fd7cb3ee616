use Rattle.pipe_view.proofs.TypedEdits.{RowSoFar}
use Rattle.pipe_view.proofs.rows.row_of.Given as goal

abbrev pub invariant-loop-field : goal.invariant-loop-field
invariant-loop-field l = RowSoFar l.fields l.fn.cells l.rest.rest.items l.field-index l.row
