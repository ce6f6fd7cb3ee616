use Rattle.std.proofs.Common.{refl}
use Rattle.pipe_view.proofs.laws.view_is_node_2.Goals as goal

pub returns : goal.returns
returns c = λ v. (refl, refl)
