use Rattle.std.proofs.Common.{map, ap, sym, ◌∙◌, arith}
use Rattle.std.specs.List.{list_any}
use Rattle.std.proofs.lemmas.List.{drop_all}
use Rattle.pipe_plan.specs.Node.{node_of}
use Rattle.pipe_optimize.specs.Narrow.{is_renaming}
use Rattle.pipe_optimize.proofs.Alone.{one-renames, none-renames}
use Rattle.pipe_optimize.proofs.unrenamed.has_renaming.Goals as goal

pub loop-node-preserved : goal.loop-node-preserved
loop-node-preserved c =
    none-renames c.args.nodes.now c.loop-node.node-index c.node-item.result _ c.loop-node-test.true c.node-item.is (sym c.is_renaming.ensures ∙ c.if-is_renaming.false) c.loop-node.invariant

pub returns-then-is_renaming : goal.returns-then-is_renaming
returns-then-is_renaming c =
    sym (one-renames c.args.nodes.now c.loop-node.node-index c.node-item.result c.loop-node-test.true c.node-item.is (sym c.is_renaming.ensures ∙ c.if-is_renaming.true))

pub returns : goal.returns
returns c =
    sym (ap (λ l. list_any is_renaming (map node_of l)) (drop_all c.loop-node.node-index c.args.nodes.now (omega (arith, c.loop-node-test.false)))) ∙ c.loop-node.invariant
