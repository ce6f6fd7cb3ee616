use Rattle.std.proofs.Common.{List, ap, arith}
use Rattle.std.proofs.lemmas.List.{drop_more, drop_all}
use Rattle.pipe_driver.specs.Ways.{passes}
use Rattle.pipe_driver.specs.Lines.{ways_as}
use Rattle.pipe_engine.specs.Drives.{Line}
use Rattle.pipe_engine.proofs.assembling.legs_passing.Goals as goal

pub loop-line-init : goal.loop-line-init
loop-line-init g c = λ ordered n. (
    let zero = c.in_ok-probers.ensures.none n in omega (arith, zero))

pub loop-line-preserved : goal.loop-line-preserved
loop-line-preserved g c = λ ordered n.
    let xs = c.args.lines.now in
    let i = c.loop-line.line-index in
    let next = ap (λ (ls : List (Line g.row.H.Denot)). passes n (ways_as ordered ls)) (drop_more xs i c.line-item.result c.loop-line-test.true) in
    let known = c.loop-line.invariant ordered n in
    let more = rw c.line-item.is at (rw c.as_slice.ensures.value at c.in_ok-add_legs.ensures) ordered n in
    omega (arith, next, known, more)

pub returns : goal.returns
returns g c = λ ordered n.
    let xs = c.args.lines.now in
    let i = c.loop-line.line-index in
    let none = ap (λ (ls : List (Line g.row.H.Denot)). passes n (ways_as ordered ls)) (drop_all i xs (omega (arith, c.loop-line-test.false))) in
    let known = c.loop-line.invariant ordered n in
    omega (arith, none, known)
