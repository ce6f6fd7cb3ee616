use Rattle.std.proofs.Common.{◌∷◌, [], sym, subst}
use Rattle.pipe_optimize.specs.Noted.{AreNoted}
use Rattle.pipe_optimize.proofs.Noted.{noted-more}
use Rattle.pipe_optimize.proofs.name_run.NameRun.push.Goals as goal

pub invariant_of-self : goal.invariant_of-self
invariant_of-self c = subst (AreNoted c.self.inside.index) (sym c.in_err-push.ensures.items) c.self.invariant

pub invariant_of-self-2 : goal.invariant_of-self-2
invariant_of-self-2 c = noted-more c.self.inside.index c.self.inside.names.items (c.args.name ∷ []) c.push.new.self.items c.in_ok-push.ensures.items c.self.invariant
