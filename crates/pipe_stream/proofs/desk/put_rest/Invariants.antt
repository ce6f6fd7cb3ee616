use Rattle.std.proofs.Common.{Bool, true, Ok}
use Rattle.pipe_stream.specs.Desk.{Reaches, Steps}
use Rattle.pipe_stream.proofs.desk.put_rest.Given as goal

abbrev pub invariant-loop-number : goal.invariant-loop-number
invariant-loop-number g l =
    Reaches g.J.Blocks.count l.odd l.number l.fn.progress l.progress
    × Steps {X = Bool} g.J.Blocks.text g.J.Blocks.count l.fn.progress.order l.progress.order (g.B.BlockSink.seen l.fn.out) (g.B.BlockSink.seen l.out) (Ok true)
