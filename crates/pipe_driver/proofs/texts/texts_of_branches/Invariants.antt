use Rattle.std.proofs.Common.{◌≡◌, map, take}
use Rattle.pipe_plan.specs.Node.{node_of}
use Rattle.pipe_driver.specs.Texts.{branch_text}
use Rattle.pipe_driver.proofs.texts.texts_of_branches.Given as goal

abbrev pub invariant-loop-branch : goal.invariant-loop-branch
invariant-loop-branch l = l.texts ≡ map (branch_text (map node_of l.nodes)) (take l.branch-index l.branches)
