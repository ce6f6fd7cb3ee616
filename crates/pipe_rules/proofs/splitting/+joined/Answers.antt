use Rattle.std.proofs.Common.{ap, ◌∙◌}
use Rattle.pipe_expr.specs.Formula.{formula_of}
use Rattle.pipe_rules.specs.Conjuncts.{conjuncts_of}
use Rattle.pipe_rules.proofs.Halves.{joined-parts}
use Rattle.pipe_rules.proofs.splitting.+joined.Goals as goal

pub returns : goal.returns
returns t c =
    joined-parts formula_of c.args.conjuncts.now c.parted_at.result.0.now c.parted_at.result.1.now _
    (conjuncts_of (formula_of c.in_ok-left.left.value)) (conjuncts_of (formula_of c.in_ok-right.right.value))
    c.parted_at.ensures.before c.parted_at.ensures.after
    (ap (λ e. conjuncts_of (formula_of e)) c.in_ok-left.ensures.ok ∙ c.in_ok-joined.ensures)
    (ap (λ e. conjuncts_of (formula_of e)) c.in_ok-right.ensures.ok ∙ c.in_ok-joined-2.ensures)
