use Rattle.std.specs.Prelude.{Bool}
use Rattle.pipe_value.specs.View.{view}
use Rattle.pipe_recon.proofs.Shapes.{other_nulls, passed}
use Rattle.pipe_recon.specs.ReconShape.{is_recon_job}
use Rattle.pipe_recon.proofs.reading.ReconJobSpelled.read.Goals as goal

pub returns-in_err-join_nulls : goal.returns-in_err-join_nulls
returns-in_err-join_nulls c =
    passed {X = Bool} (is_recon_job (view c.args.value.now)) _ (λ _. Unit {0}) _ c.in_err-join_nulls.field-0.0 c.from_residual-in_err-join_nulls.result c.in_err-join_nulls.ensures c.from_residual-in_err-join_nulls.ensures.1
    (λ h. other_nulls (view c.args.value.now) _ _ _ _ _ c.in_ok-members.ensures c.in_ok-chunk_rows.ensures.0 c.in_ok-frames.ensures h)
