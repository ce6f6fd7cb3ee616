use Rattle.std.proofs.Common.{sym, ◌∙◌}
use Rattle.pipe_value.specs.View.{view}
use Rattle.pipe_view.specs.ReplaySpelling.{replay_task}
use Rattle.pipe_view.proofs.OneReplay.{too_early}
use Rattle.pipe_view.proofs.reading.replay_of.Goals as goal

pub returns-then-replay_has_int128-clause-none : goal.returns-then-replay_has_int128-clause-none
returns-then-replay_has_int128-clause-none c =
    too_early (view c.args.value.now) (replay_task c.in-Ok.replay) c.in-Ok.ensures.0 c.in-Ok.ensures.1 c.if-replay-eq1.true (sym c.replay_has_int128.ensures ∙ c.if-replay_has_int128.true)
