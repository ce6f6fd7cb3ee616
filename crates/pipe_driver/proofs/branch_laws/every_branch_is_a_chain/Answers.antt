use Rattle.pipe_driver.proofs.BranchChains.{branch-chain}
use Rattle.pipe_driver.proofs.branch_laws.every_branch_is_a_chain.Goals as goal

pub returns : goal.returns
returns c = branch-chain
