use Rattle.pipe_view.proofs.OneReplay.{one_replay}
use Rattle.pipe_view.proofs.replay_laws.one_replay.Goals as goal

pub returns : goal.returns
returns c = one_replay
