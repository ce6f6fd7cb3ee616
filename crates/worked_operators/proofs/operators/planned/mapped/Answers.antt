use Rattle.std.proofs.Common.{refl}
use Rattle.pipe_plan.specs.Node as node
use Rattle.pipe_convert.proofs.Operators.{input_under}
use Rattle.worked_operators.proofs.operators.planned.mapped.Goals as goal

pub scanned-requires : goal.scanned-requires
scanned-requires c = input_under c.args.plan.now c.args.n c.args.input (node.MapFunction c.args.input c.args.function.now) refl c.known_well_formed.ensures c.requires
