use Rattle.std.proofs.Common.{rules}
use Rattle.pipe_stream.proofs.StepLemmas.{own_memory, own_steps}
use Rattle.pipe_stream.proofs.desk.render_next.Goals as goal

pub returns-in-Ok-clause-steps : goal.returns-in-Ok-clause-steps
returns-in-Ok-clause-steps g c = own_steps _ _ _ _ _ _ _ _ _ _ _ _ _ c.requires.job c.requires.number c.requires.own c.requires.next c.requires.follows (search rules) c.put_next.ensures

pub returns-in-Err-clause-steps : goal.returns-in-Err-clause-steps
returns-in-Err-clause-steps g c = own_memory _ _ _ _ c.requires.follows
