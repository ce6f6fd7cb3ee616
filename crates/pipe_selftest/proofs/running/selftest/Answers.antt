use Rattle.pipe_selftest.proofs.Ending.{memory_ends}
use Rattle.pipe_selftest.specs.Joins.{plan_from}
use Rattle.pipe_selftest.proofs.running.selftest.Goals as goal

pub returns-in_err-arena-clause-err : goal.returns-in_err-arena-clause-err
returns-in_err-arena-clause-err g c =
    memory_ends (plan_from c.args.start c.args.rows) c.from_residual.result c.from_residual.ensures.1
