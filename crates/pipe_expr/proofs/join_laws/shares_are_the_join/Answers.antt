use Rattle.pipe_expr.proofs.ShareLaw.{shares-right_built, shares-left_built}
use Rattle.pipe_expr.proofs.join_laws.shares_are_the_join.Goals as goal

pub returns-clause-right : goal.returns-clause-right
returns-clause-right c = shares-right_built

pub returns-clause-left : goal.returns-clause-left
returns-clause-left c = shares-left_built
