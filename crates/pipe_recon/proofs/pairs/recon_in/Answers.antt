use Rattle.std.proofs.Common.{List, subst, sym}
use Rattle.pipe_recon.specs.Least.{AreLeastIn}
use Rattle.pipe_recon.specs.declared.recon.Partner.{Partner}
use Rattle.pipe_recon.proofs.Classes.{least_in}
use Rattle.pipe_recon.proofs.pairs.recon_in.Goals as goal

pub returns-clause-left : goal.returns-clause-left
returns-clause-left c =
    subst (λ (classes : List Partner). AreLeastIn c.args.frame.now.rows 1 3 c.args.left_height classes) (sym c.from_vec.ensures) (least_in c.args.frame.now.rows 1 3 c.args.left_height c.left_numbers-lefts.result.now c.right_numbers-rights.result.now c.in_ok-left.left.items c.left_numbers-lefts.ensures c.right_numbers-rights.ensures c.in_ok-left.ensures.long c.in_ok-left.ensures.least)

pub returns-clause-right : goal.returns-clause-right
returns-clause-right c =
    subst (λ (classes : List Partner). AreLeastIn c.args.frame.now.rows 3 1 c.args.right_height classes) (sym c.from_vec-2.ensures) (least_in c.args.frame.now.rows 3 1 c.args.right_height c.right_numbers-rights.result.now c.left_numbers-lefts.result.now c.in_ok-right.right.items c.right_numbers-rights.ensures c.left_numbers-lefts.ensures c.in_ok-right.ensures.long c.in_ok-right.ensures.least)
