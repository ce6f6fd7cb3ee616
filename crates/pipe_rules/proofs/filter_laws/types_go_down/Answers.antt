use Rattle.pipe_rules.proofs.TypesDown.{types-down}
use Rattle.pipe_rules.proofs.filter_laws.types_go_down.Goals as goal

pub returns : goal.returns
returns c = types-down
