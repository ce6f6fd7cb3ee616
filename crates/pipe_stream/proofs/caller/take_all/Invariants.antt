use Rattle.std.proofs.Common.{Bool, true, Ok}
use Rattle.crossbeam_queue.specs.Passes.{view, IsPassOf}
use Rattle.pipe_stream.specs.Hands.{MayTake}
use Rattle.pipe_stream.specs.Desk.{Standing, Steps}
use Rattle.pipe_stream.proofs.caller.take_all.Given as goal

abbrev pub invariant-loop : goal.invariant-loop
invariant-loop g l =
    IsPassOf l.line l.seat
    × MayTake (view l.seat)
    × Standing g.J.Blocks.text g.J.Blocks.count l.progress (view l.seat)
    × Steps {X = Bool} g.J.Blocks.text g.J.Blocks.count l.fn.progress.order l.progress.order (g.B.BlockSink.seen l.fn.out) (g.B.BlockSink.seen l.out) (Ok true)
