use Rattle.pipe_view.proofs.OneEnd.{one_refusal, sound_alone}
use Rattle.pipe_view.proofs.replay_laws.one_end.Goals as goal

pub returns-clause-played : goal.returns-clause-played
returns-clause-played c = sound_alone

pub returns-clause-refused : goal.returns-clause-refused
returns-clause-refused c = one_refusal
