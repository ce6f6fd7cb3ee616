use Rattle.pipe_convert.proofs.BranchStarts.{all_branches}
use Rattle.pipe_convert.proofs.laws.branches_are.Goals as goal

pub returns : goal.returns
returns c = all_branches
