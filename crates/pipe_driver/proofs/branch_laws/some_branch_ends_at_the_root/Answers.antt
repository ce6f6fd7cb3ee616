use Rattle.pipe_driver.proofs.BranchEnds.{some-ends}
use Rattle.pipe_driver.proofs.branch_laws.some_branch_ends_at_the_root.Goals as goal

pub returns : goal.returns
returns c = some-ends
