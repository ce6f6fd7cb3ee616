use Rattle.pipe_rules.proofs.Parts.{parts-down}
use Rattle.pipe_rules.proofs.filter_laws.parts_go_down.Goals as goal

pub returns : goal.returns
returns c = parts-down
