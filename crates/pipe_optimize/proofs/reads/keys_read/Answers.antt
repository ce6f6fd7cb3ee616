use Rattle.pipe_expr.specs.Formula.{formula_of}
use Rattle.pipe_expr.specs.Types.{columns_in}
use Rattle.pipe_optimize.proofs.Steps.{flat-next}
use Rattle.pipe_optimize.proofs.reads.keys_read.Goals as goal

pub loop-key-preserved : goal.loop-key-preserved
loop-key-preserved c = flat-next formula_of columns_in c.args.keys.now c.loop-key.key-index c.key-item.result c.loop-key.read c.push_columns.new.read c.loop-key.invariant c.loop-key-test.true c.key-item.is c.in_ok-push_columns.ensures
