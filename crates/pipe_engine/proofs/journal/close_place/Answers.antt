use Rattle.std.proofs.Common.{List, map, ap, ◌∙◌, ◌++◌}
use Rattle.pipe_events.specs.EventValues.{event_value}
use Rattle.pipe_driver.specs.Written.{closing}
use Rattle.pipe_engine.proofs.Asked.{stops_passed}
use Rattle.pipe_engine.proofs.Breaking.{err_same}
use Rattle.pipe_engine.proofs.Kept.{finalizes_on}
use Rattle.pipe_engine.proofs.journal.close_place.Goals as goal

pub finish-requires-clause-idle : goal.finish-requires-clause-idle
finish-requires-clause-idle g c = λ κs lives. c.requires.idle

pub finish-requires-clause-may : goal.finish-requires-clause-may
finish-requires-clause-may g c = λ κs lives. c.requires.may

pub returns-clause-idle : goal.returns-clause-idle
returns-clause-idle g c = c.in_ok-finished.ensures.idle

pub returns-clause-wrote : goal.returns-clause-wrote
returns-clause-wrote g c = c.in-Ok.ensures ∙ ap (λ j. map event_value j.items ++ closing c.args.at) c.in_ok-finished.ensures.journal

pub returns-clause-finished : goal.returns-clause-finished
returns-clause-finished g c = λ x. finalizes_on g.H.KeyHasher.hash_of x c.args.at c.args.engine.now c.finish.new.engine c.write_close.new.journal c.in_ok-finished.finished (c.in_ok-finished.ensures.finished x)

pub returns-clause-frame : goal.returns-clause-frame
returns-clause-frame g c = c.in_ok-finished.ensures.frame

pub returns-clause-context : goal.returns-clause-context
returns-clause-context g c = c.finish.ensures.context

pub returns-in_err-finished-clause-calm : goal.returns-in_err-finished-clause-calm
returns-in_err-finished-clause-calm g c = stops_passed _ _ c.from_residual.ensures.1 c.in_err-finished.ensures.calm

pub returns-in_err-finished-clause-context : goal.returns-in_err-finished-clause-context
returns-in_err-finished-clause-context g c = c.finish.ensures.context

pub returns-in_default-clause-context : goal.returns-in_default-clause-context
returns-in_default-clause-context g c = c.finish.ensures.context

pub returns-clause-one : goal.returns-clause-one
returns-clause-one g c = c.in_ok-finished.ensures.one

pub returns-in_err-finished-clause-err : goal.returns-in_err-finished-clause-err
returns-in_err-finished-clause-err g c = err_same _ _ _ c.from_residual.ensures.1 c.in_err-finished.ensures.err

pub returns-clause-sinks : goal.returns-clause-sinks
returns-clause-sinks g c = c.finish.ensures.sinks

pub returns-in_err-finished-clause-sinks : goal.returns-in_err-finished-clause-sinks
returns-in_err-finished-clause-sinks g c = c.finish.ensures.sinks

pub returns-in_default-clause-sinks : goal.returns-in_default-clause-sinks
returns-in_default-clause-sinks g c = c.finish.ensures.sinks
