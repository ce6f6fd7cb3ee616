use Rattle.pipe_plan.specs.Node.{node_of}
use Rattle.pipe_check.specs.Kept.{kept_schema}
use Rattle.pipe_check.proofs.Full.{node_full_by}
use Rattle.pipe_check.proofs.node_check.check_node.Goals as goal

pub output_schema-requires : goal.output_schema-requires
output_schema-requires c =
    node_full_by c.args.read.now c.args.frames.now (kept_schema c.args.schemas.now) c.args.n (node_of c.args.node.now) c.in_ok-check_inputs.ensures.ok c.in_ok-check_inputs.ensures.full c.requires.full
