use Rattle.std.proofs.Common.{◌∙◌, sym}
use Rattle.pipe_world.specs.Shown.{world_of}
use Rattle.pipe_events.specs.Decided.{stands_in}
use Rattle.pipe_replay.proofs.Below.{below-stops}
use Rattle.pipe_replay.proofs.taken_positions.are_all_taken.Goals as goal

pub returns-then-not-is_taken : goal.returns-then-not-is_taken
returns-then-not-is_taken c = sym (below-stops (stands_in ((world_of c.args.world.now).taken c.args.source)) c.loop-i.i c.args.count c.loop-i-test.true (sym c.is_taken.ensures ∙ c.if-not-is_taken.true))
