use Rattle.std.proofs.Common.{◌+◌, ◌==◌, ap, ◌∙◌}
use Rattle.pipe_driver.specs.Ways.{one}
use Rattle.pipe_convert.proofs.CountSteps.{one_more}
use Rattle.pipe_convert.proofs.counting.add_one.Goals as goal

pub returns-clause-all : goal.returns-clause-all
returns-clause-all c = λ k.
    one_more c.reach.new.counts.left.items c.add.new.self.left.items c.args.number c.add.ensures.all k
    ∙ ap (λ x. x + one (c.args.number == k)) (c.in_ok-reach.ensures.same k)
