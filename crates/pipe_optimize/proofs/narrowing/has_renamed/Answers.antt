use Rattle.std.proofs.Common.{◌<◌, length, arith}
use Rattle.pipe_optimize.proofs.Shared.{next-existing}
use Rattle.pipe_optimize.proofs.narrowing.has_renamed.Goals as goal

pub loop-pair-preserved : goal.loop-pair-preserved
loop-pair-preserved c =
    let names = c.args.names.now in
    let there : c.place_from-place.result < length names = omega (arith, c.if-place-names.false) in
    next-existing names c.args.pairs.now c.loop-pair.pair-index c.pair-item.result c.loop-pair-test.true c.pair-item.is (c.place_from-place.ensures there) c.loop-pair.invariant
