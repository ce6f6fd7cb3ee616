use Rattle.pipe_driver.proofs.BranchNumbers.{numbered-as-named}
use Rattle.pipe_driver.proofs.branch_laws.sinks_are_numbered_as_named.Goals as goal

pub returns : goal.returns
returns c = numbered-as-named
