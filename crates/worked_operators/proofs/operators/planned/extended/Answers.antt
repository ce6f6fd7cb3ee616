use Rattle.std.proofs.Common.{refl}
use Rattle.pipe_expr.specs.Formula.{named_formulas_of}
use Rattle.pipe_plan.specs.Node as node
use Rattle.pipe_convert.proofs.Operators.{input_under}
use Rattle.worked_operators.proofs.operators.planned.extended.Goals as goal

pub scanned-requires : goal.scanned-requires
scanned-requires c = input_under c.args.plan.now c.args.n c.args.input (node.HStack c.args.input (named_formulas_of c.args.exprs.now)) refl c.known_well_formed.ensures c.requires
