use Rattle.pipe_rules.proofs.Conjoined.{conjuncts-filter}
use Rattle.pipe_rules.proofs.filter_laws.conjuncts_filter.Goals as goal

pub returns : goal.returns
returns c = conjuncts-filter
