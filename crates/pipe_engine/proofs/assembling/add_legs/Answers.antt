use Rattle.std.proofs.Common.{List, map, ap, arith}
use Rattle.std.proofs.lemmas.List.{drop_more, drop_all}
use Rattle.pipe_driver.specs.Ways.{legs_through}
use Rattle.pipe_driver.specs.declared.pipe_line.Leg.{Leg}
use Rattle.pipe_driver.specs.Lines.{leg_as}
use Rattle.pipe_engine.specs.declared.part.Part.{Part}
use Rattle.pipe_engine.proofs.assembling.add_legs.Goals as goal

pub loop-leg-preserved : goal.loop-leg-preserved
loop-leg-preserved g c = λ ordered n.
    let xs = c.args.legs.now in
    let i = c.loop-leg.leg-index in
    let next = ap (λ (ls : List (Leg (Part g.row.H.Denot))). legs_through n (map (leg_as ordered) ls)) (drop_more xs i c.leg-item.result c.loop-leg-test.true) in
    let known = c.loop-leg.invariant ordered n in
    let more = rw c.leg-item.is at (rw c.as_slice.ensures.value at c.in_ok-add_nodes.ensures) n in
    omega (arith, next, known, more)

pub returns : goal.returns
returns g c = λ ordered n.
    let xs = c.args.legs.now in
    let i = c.loop-leg.leg-index in
    let none = ap (λ (ls : List (Leg (Part g.row.H.Denot))). legs_through n (map (leg_as ordered) ls)) (drop_all i xs (omega (arith, c.loop-leg-test.false))) in
    let known = c.loop-leg.invariant ordered n in
    omega (arith, none, known)
