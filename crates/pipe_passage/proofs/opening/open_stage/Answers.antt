use Rattle.std.proofs.Common.{refl}
use Rattle.pipe_passage.proofs.Probes.{stage-opened}
use Rattle.pipe_passage.proofs.opening.open_stage.Goals as goal

pub returns-clause-opened : goal.returns-clause-opened
returns-clause-opened g c = stage-opened c.args.slot.now c.args.free.now c.open_operator.new.free c.args.stage.now _ c.in_ok-operator.ensures.opened refl refl
