use Rattle.pipe_parts.proofs.Roots.{parts-have}
use Rattle.pipe_parts.proofs.laws.parts_have_the_rows.Goals as goal

pub returns : goal.returns
returns c = parts-have
