use Rattle.pipe_events.proofs.Trees.{plans_trees}
use Rattle.pipe_events.proofs.run_laws.plans_are_trees.Goals as goal

pub returns : goal.returns
returns c = plans_trees
