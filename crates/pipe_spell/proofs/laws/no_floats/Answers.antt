use Rattle.pipe_spell.proofs.Floats.{task_plain}
use Rattle.pipe_spell.proofs.laws.no_floats.Goals as goal

pub returns : goal.returns
returns c = task_plain
