use Rattle.std.proofs.Common.{arith}
use Rattle.pipe_optimize.proofs.Optimized.{next-full}
use Rattle.pipe_optimize.proofs.full.frames_full.Goals as goal

pub loop-frame-preserved : goal.loop-frame-preserved
loop-frame-preserved c = next-full c.args.frames.now c.loop-frame.frame-index c.frame-item.result c.loop-frame.invariant c.loop-frame-test.true c.frame-item.is c.frame_full.ensures

pub returns : goal.returns
returns c = λ i lt. c.loop-frame.invariant i (omega (arith, lt, c.loop-frame-test.false))
