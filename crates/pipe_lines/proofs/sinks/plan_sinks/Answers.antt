use Rattle.pipe_lines.proofs.SinkLists.{sinks_done}
use Rattle.pipe_lines.proofs.sinks.plan_sinks.Goals as goal

pub sinks_under-requires-clause-marks : goal.sinks_under-requires-clause-marks
sinks_under-requires-clause-marks g c = λ κs lives. (rw c.as_slice.ensures.value c.in_ok-under.ensures.under)

pub sinks_under-requires-clause-sized : goal.sinks_under-requires-clause-sized
sinks_under-requires-clause-sized g c = λ κs lives. (rw c.as_slice.ensures.value c.in_ok-under.ensures.sized)

pub sinks_under-requires-clause-specs : goal.sinks_under-requires-clause-specs
sinks_under-requires-clause-specs g c = λ κs lives. c.requires.specs

pub sinks_under-requires-clause-parts : goal.sinks_under-requires-clause-parts
sinks_under-requires-clause-parts g c = λ κs lives. c.requires.parts

pub get_sink-requires-clause-specs : goal.get_sink-requires-clause-specs
get_sink-requires-clause-specs g c = λ κs lives. c.requires.specs

pub get_sink-requires-clause-parts : goal.get_sink-requires-clause-parts
get_sink-requires-clause-parts g c = λ κs lives. c.requires.parts

pub returns : goal.returns
returns g c = sinks_done c.args.plan.now c.args.specs.now c.args.hasher c.args.parts c.in_ok-sinks.sinks.items _ c.in_ok-last.last c.known_well_formed.ensures c.in_ok-sinks.ensures c.in_ok-push.ensures.items c.in_ok-last.ensures
