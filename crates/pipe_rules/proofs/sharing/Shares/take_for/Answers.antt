use Rattle.std.proofs.Common.{sym, subst}
use Rattle.pipe_rules.specs.Reach.{AreOver}
use Rattle.pipe_rules.proofs.Reaches.{taken-over}
use Rattle.pipe_rules.proofs.sharing.Shares.take_for.Goals as goal

pub returns-then-input-left-clause-over : goal.returns-then-input-left-clause-over
returns-then-input-left-clause-over c =
    taken-over c.args.node.now c.args.input c.in-Join.left _ _ _ _ c.args.self.now.left c.replace.result c.in-Join.is c.if-input-left.true c.replace.ensures.value

pub returns-then-input-left-clause-left : goal.returns-then-input-left-clause-left
returns-then-input-left-clause-left c fields h = subst (AreOver fields) (sym c.replace.ensures.after) tt
