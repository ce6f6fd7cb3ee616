use Rattle.std.proofs.Common.{subst}
use Rattle.pipe_schema.specs.Schema.{IsSchema}
use Rattle.pipe_convert.proofs.Operators.{function_of}
use Rattle.pipe_convert.proofs.function.function_operator.Goals as goal

pub returns : goal.returns
returns c =
    let whole = subst IsSchema c.schema.ensures c.fields.ensures.good in
    rw (c.new.ensures.function, c.in_ok-try_clone.ensures) (function_of c.args.plan.now c.args.n c.args.input c.args.function.now c.new.ensures.pieces c.known_well_formed.ensures c.requires.node whole)
