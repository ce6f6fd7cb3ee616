use Rattle.std.proofs.Common.{ap, sym, ◌∙◌}
use Rattle.pipe_plan.specs.Faults.{is_empty}
use Rattle.pipe_check.proofs.Full.{schema_full}
use Rattle.pipe_optimize.proofs.full.frame_full.Goals as goal

pub returns : goal.returns
returns c = ap is_empty (sym c.schema.ensures.schema) ∙ schema_full c.schema.result.now c.fields.ensures.good
