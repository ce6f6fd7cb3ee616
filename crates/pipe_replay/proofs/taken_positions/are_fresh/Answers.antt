use Rattle.std.proofs.Common.{◌≡◌, ◌∙◌, ◌+◌, true, ap, sym}
use Rattle.std.specs.Prelude.{not}
use Rattle.pipe_events.specs.Decided.{stands_in}
use Rattle.pipe_world.specs.Shown.{world_of}
use Rattle.pipe_replay.specs.Sources.{is_fresh}
use Rattle.pipe_replay.proofs.Below.{below-stops}
use Rattle.pipe_replay.proofs.taken_positions.are_fresh.Goals as goal

pub returns-then-is_taken : goal.returns-then-is_taken
returns-then-is_taken c =
    let there : stands_in ((world_of c.args.world.now).taken c.args.source) (c.args.from + c.loop-i.i) ≡ true = rw (c.from.ensures, c.from-in-loop-i.ensures) at (sym c.is_taken.ensures ∙ c.if-is_taken.true) in
    sym (below-stops (is_fresh ((world_of c.args.world.now).taken c.args.source) c.args.from) c.loop-i.i c.args.amount c.loop-i-test.true (ap not there))
