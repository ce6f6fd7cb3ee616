use Rattle.pipe_expr.proofs.Known.{typed_known}
use Rattle.pipe_expr.proofs.laws.typed_names_are_known.Goals as goal

pub returns : goal.returns
returns c = typed_known
