use Rattle.std.proofs.Common.{◌≡◌, ◌+◌, sym, ◌∙◌, arith, get_or}
use Rattle.pipe_driver.proofs.FrontSteps.{closed_so_far, open_found}
use Rattle.pipe_driver.proofs.closing.are_closed.Goals as goal

pub loop-sink-preserved : goal.loop-sink-preserved
loop-sink-preserved c =
    let i = c.loop-sink.sink-index in
    closed_so_far c.args.counts.now.left.items c.args.sinks.now i (i + 1) 0 (omega arith) c.loop-sink-test.true (sym c.left_at.ensures ∙ (let z : c.left_at.result ≡ 0 = omega arith in z)) c.loop-sink.invariant

pub returns-then-left_at-gt0-clause-open : goal.returns-then-left_at-gt0-clause-open
returns-then-left_at-gt0-clause-open c = λ e.
    (get_or c.args.sinks.now c.loop-sink.sink-index 0, open_found c.args.sinks.now c.loop-sink.sink-index 0 c.loop-sink-test.true, (let l = c.if-left_at-gt0.true in let n = c.left_at.ensures in omega arith))
