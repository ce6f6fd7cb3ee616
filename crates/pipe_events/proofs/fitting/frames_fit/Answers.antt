use Rattle.std.proofs.Common.{arith}
use Rattle.pipe_events.specs.Fitting.{TableFits}
use Rattle.pipe_events.proofs.FitLemmas.{one-more, frames-fit}
use Rattle.pipe_events.proofs.fitting.frames_fit.Goals as goal

pub loop-frame-preserved : goal.loop-frame-preserved
loop-frame-preserved c =
    one-more TableFits c.args.frames.now c.loop-frame.frame-index c.frame-item.result c.loop-frame-test.true c.frame-item.is c.loop-frame.invariant c.frame_fits.ensures

pub returns : goal.returns
returns c = frames-fit c.args.frames.now c.loop-frame.frame-index (omega (arith, c.loop-frame-test.false)) c.loop-frame.invariant
