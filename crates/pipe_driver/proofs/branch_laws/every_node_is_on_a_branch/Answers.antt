use Rattle.pipe_driver.proofs.BranchEnds.{every-node}
use Rattle.pipe_driver.proofs.branch_laws.every_node_is_on_a_branch.Goals as goal

pub returns : goal.returns
returns c = every-node
