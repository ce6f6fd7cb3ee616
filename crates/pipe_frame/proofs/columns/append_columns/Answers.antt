use Rattle.pipe_frame.proofs.RowOps.{stacked-dtype, stacked-more, stacked-undone}
use Rattle.pipe_frame.proofs.columns.append_columns.Goals as goal

pub append-requires : goal.append-requires
append-requires c = stacked-dtype c.loop-i.i c.args.columns.now c.args.others.now c.index-columns-i.result c.index-others-i.result c.loop-i.invariant c.requires.same c.loop-i-test.true c.index-others-i.is

pub returns-in-Err-clause-err : goal.returns-in-Err-clause-err
returns-in-Err-clause-err c = stacked-undone c.loop-i.i c.args.height c.args.columns.now c.args.others.now c.index-columns-i.result c.append.new.self c.loop-i.invariant c.requires.even c.index-columns-i.is c.in-Err.ensures.err c.truncate_columns.ensures

pub loop-i-preserved : goal.loop-i-preserved
loop-i-preserved c = stacked-more c.loop-i.i c.args.columns.now c.args.others.now c.index-columns-i.result c.index-others-i.result c.append.new.self c.loop-i.invariant c.requires.same c.loop-i-test.true c.index-columns-i.is c.index-others-i.is c.in_default.ensures.ok
