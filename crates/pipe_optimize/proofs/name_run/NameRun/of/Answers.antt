use Rattle.pipe_optimize.proofs.name_run.NameRun.of.Goals as goal

pub invariant_of-result : goal.invariant_of-result
invariant_of-result c = c.new.ensures c.into_vec.result.items
