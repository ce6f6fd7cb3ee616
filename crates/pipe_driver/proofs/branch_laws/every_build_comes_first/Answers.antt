use Rattle.pipe_driver.proofs.BranchFirsts.{build-first}
use Rattle.pipe_driver.proofs.branch_laws.every_build_comes_first.Goals as goal

pub returns : goal.returns
returns c = build-first
