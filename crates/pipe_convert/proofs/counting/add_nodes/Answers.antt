use Rattle.std.proofs.Common.{◌≡◌, ◌+◌, ◌==◌, drop, get_or, ap, arith}
use Rattle.std.proofs.lemmas.List.{drop_more, drop_all}
use Rattle.pipe_driver.specs.Ways.{one, occurs}
use Rattle.pipe_convert.proofs.counting.add_nodes.Goals as goal

pub loop-node-preserved : goal.loop-node-preserved
loop-node-preserved c = λ k.
    let xs = c.args.nodes.now in
    let i = c.loop-node.node-index in
    let next : occurs k (drop i xs) ≡ one (get_or xs i 0 == k) + occurs k (drop (i + 1) xs) = ap (occurs k) (drop_more xs i 0 c.loop-node-test.true) in
    let known = c.loop-node.invariant k in
    let one_more = c.in_ok-add_one.ensures.all k in
    omega arith

pub returns : goal.returns
returns c = λ k.
    let xs = c.args.nodes.now in
    let i = c.loop-node.node-index in
    let none : occurs k (drop i xs) ≡ 0 = ap (occurs k) (drop_all i xs (omega (arith, c.loop-node-test.false))) in
    let known = c.loop-node.invariant k in
    omega arith
