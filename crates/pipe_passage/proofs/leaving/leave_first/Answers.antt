use Rattle.std.proofs.lemmas.Result.{IfOk-weaker}
use Rattle.pipe_passage.proofs.Left.{stage-left}
use Rattle.pipe_passage.proofs.leaving.leave_first.Goals as goal

pub returns : goal.returns
returns g c = IfOk-weaker c.leave_stage.result _ _ (λ r h. λ limit from p. stage-left g.H.KeyHasher.hash_of g.K.Sink limit from r.0 r.1 _ _ _ _ _ _ h p) c.leave_stage.ensures
