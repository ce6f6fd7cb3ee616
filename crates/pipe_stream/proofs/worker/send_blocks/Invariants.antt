use Rattle.std.proofs.Common.{◌≡◌}
use Rattle.crossbeam_queue.specs.Passes.{view, IsPassOf}
use Rattle.pipe_stream.specs.Messages.{script}
use Rattle.pipe_stream.specs.Hands.{worker}
use Rattle.pipe_stream.proofs.worker.send_blocks.Given as goal

abbrev pub invariant-loop-number : goal.invariant-loop-number
invariant-loop-number g l = IsPassOf l.line l.seat × (view l.seat ≡ worker l.odd (script g.J.Blocks.text g.J.Blocks.count l.odd l.number))
