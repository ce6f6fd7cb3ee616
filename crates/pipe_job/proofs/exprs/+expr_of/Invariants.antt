use Rattle.serde_json.specs.Data.{depth}
use Rattle.pipe_value.specs.View.{view}
use Rattle.pipe_job.proofs.exprs.+expr_of.Given as goal

abbrev pub decreases-expr_of : goal.decreases-expr_of
decreases-expr_of l = depth (view l.value.now)
