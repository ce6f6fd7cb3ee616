use Rattle.std.proofs.Common.{◌≡◌, [], drop, ap, sym, ◌∙◌, arith}
use Rattle.std.proofs.lemmas.List.{drop_more, drop_all}
use Rattle.pipe_convert.specs.Steps.{last_of}
use Rattle.pipe_lines.proofs.cutting.last_node.Goals as goal

pub loop-n-preserved : goal.loop-n-preserved
loop-n-preserved c =
    let ops = c.args.operators.now in
    let i = c.loop-n.n-index in
    sym (ap (last_of c.loop-n.last) (drop_more ops i 0 c.loop-n-test.true)) ∙ c.loop-n.invariant

pub returns : goal.returns
returns c =
    let ops = c.args.operators.now in
    let i = c.loop-n.n-index in
    let none : drop i ops ≡ [] = drop_all i ops (omega (arith, c.loop-n-test.false)) in
    sym (ap (last_of c.loop-n.last) none) ∙ c.loop-n.invariant
