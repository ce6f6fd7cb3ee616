use Rattle.pipe_value.specs.View.{view}
use Rattle.pipe_job.proofs.TypedColumns.{typed_native, same_test}
use Rattle.pipe_job.proofs.columns.native_of.Goals as goal

pub returns : goal.returns
returns g c =
    typed_native g.T.Native.cell g.T.Spelled.spelling g.T.Spelled.fits g.T.Native.dtype_of g.met.T.Native.missing g.met.T.SpelledCell.same_spelling g.met.T.SpelledCell.same_range
    _ _ _ _ c.from_column.ensures c.in_ok-column.ensures.0 c.in_ok-column.ensures.1

pub returns-in_err-column : goal.returns-in_err-column
returns-in_err-column g c =
    same_test g.T.Native.dtype_of g.T.Spelled.shape g.met.T.SpelledCell.same_shape (view c.args.value.now) _ _ _ c.in_err-column.ensures c.from_residual.ensures.1
