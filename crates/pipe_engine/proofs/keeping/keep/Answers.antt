use Rattle.pipe_slots.specs.Sinks.{sink_rows}
use Rattle.pipe_engine.specs.Engine.{whole_rows}
use Rattle.pipe_engine.proofs.Breaking.{err_same}
use Rattle.pipe_engine.proofs.Wholes.{both_held, put_before}
use Rattle.pipe_engine.proofs.keeping.keep.Goals as goal

pub returns-clause-rows : goal.returns-clause-rows
returns-clause-rows g c = put_before (sink_rows c.args.fed.sink) (sink_rows c.put_whole.new.sink) (whole_rows c.args.fed.whole) c.args.frame.rows c.in_ok-put_whole.ensures.rows

pub returns-clause-held : goal.returns-clause-held
returns-clause-held g c =
    rw c.height.ensures (both_held (sink_rows c.args.fed.sink) (sink_rows c.put_whole.new.sink) (whole_rows c.args.fed.whole) c.args.frame.rows c.args.fed.rows c.in_ok-put_whole.ensures.rows c.requires.held)

pub returns-in_err-put_whole-clause-err : goal.returns-in_err-put_whole-clause-err
returns-in_err-put_whole-clause-err g c = err_same _ _ _ c.from_residual.ensures.1 c.in_err-put_whole.ensures.err
