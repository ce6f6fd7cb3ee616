use Rattle.pipe_parts.proofs.Roots.{gather-gives}
use Rattle.pipe_parts.proofs.laws.gather_gives_the_list.Goals as goal

pub returns : goal.returns
returns c = gather-gives
