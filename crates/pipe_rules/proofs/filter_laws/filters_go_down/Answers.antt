use Rattle.pipe_rules.proofs.Down.{goes-down}
use Rattle.pipe_rules.proofs.filter_laws.filters_go_down.Goals as goal

pub returns : goal.returns
returns c = goes-down
