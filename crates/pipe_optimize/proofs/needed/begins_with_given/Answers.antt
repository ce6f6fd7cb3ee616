use Rattle.std.proofs.Common.{rules, ◌≡◌, ◌<◌, true, length, arith}
use Rattle.std.specs.Str.{bytes_eq}
use Rattle.pipe_expr.specs.Projections.{renamed}
use Rattle.pipe_optimize.proofs.Shared.{next-given}
use Rattle.pipe_optimize.proofs.needed.begins_with_given.Goals as goal

pub loop-i-preserved : goal.loop-i-preserved
loop-i-preserved c =
    let i = c.loop-i.i in
    let others = c.args.others.now in
    let names = c.args.names.now in
    let there : i < length others = omega (arith, c.if-others-names.false, c.loop-i-test.true) in
    let within : i < length names = omega (arith, c.loop-i-test.true) in
    let same : bytes_eq c.index-others-i.result (renamed c.args.pairs.now c.index-names-i.result) ≡ true = search rules in (
      omega (arith, c.loop-i-test.true),
      next-given others c.args.pairs.now names i c.index-others-i.result c.index-names-i.result there c.index-others-i.is within c.index-names-i.is same c.loop-i.invariant.1,
    )
