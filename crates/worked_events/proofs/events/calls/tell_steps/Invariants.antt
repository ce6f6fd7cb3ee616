use Rattle.pipe_replay.specs.KeptWorld.{IsOf}
use Rattle.worked_events.proofs.events.calls.tell_steps.Given as goal

abbrev pub invariant-loop-event : goal.invariant-loop-event
invariant-loop-event l = IsOf l.plan l.world
