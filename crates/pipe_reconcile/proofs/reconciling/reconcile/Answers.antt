use Rattle.pipe_recon.specs.Ends.{IsSoundReconciliation}
use Rattle.pipe_reconcile.proofs.Causes.{always, causes_are, only_memory, recon_is, within_is}
use Rattle.pipe_reconcile.proofs.reconciling.reconcile.Goals as goal

pub returns-clause-sound : goal.returns-clause-sound
returns-clause-sound g c = always c.recon_of_codes.result (IsSoundReconciliation c.args.left.now c.args.right.now c.args.spec.now c.args.config.now) (record { numbers = c.in_ok-lefts.ensures.numbers; good = c.in_ok-lefts.ensures.codes.good })

pub returns-clause-recon : goal.returns-clause-recon
returns-clause-recon g c = recon_is c.args.left.now c.args.right.now c.args.spec.now c.args.config.now c.in_ok-lefts.lefts c.in_ok-lefts.rights c.in_ok-lefts.ensures.codes c.recon_of_codes.result c.recon_of_codes.ensures.recon

pub returns-clause-within : goal.returns-clause-within
returns-clause-within g c = within_is c.args.left.now c.args.right.now c.args.spec.now c.args.config.now c.in_ok-lefts.lefts c.in_ok-lefts.rights c.in_ok-lefts.ensures.codes c.recon_of_codes.result c.recon_of_codes.ensures.within

pub returns-clause-err : goal.returns-clause-err
returns-clause-err g c = causes_are c.args.left.now c.args.right.now c.args.spec.now c.args.config.now c.in_ok-lefts.lefts c.in_ok-lefts.rights c.in_ok-lefts.ensures.codes c.recon_of_codes.result (record { numbers = c.in_ok-lefts.ensures.numbers; good = c.in_ok-lefts.ensures.codes.good }) c.recon_of_codes.ensures.err

pub returns-clause-asked : goal.returns-clause-asked
returns-clause-asked g c = c.recon_of_codes.ensures.asked

pub returns-clause-yes : goal.returns-clause-yes
returns-clause-yes g c = c.recon_of_codes.ensures.yes

pub returns-clause-last : goal.returns-clause-last
returns-clause-last g c = c.recon_of_codes.ensures.last

pub returns-clause-complete : goal.returns-clause-complete
returns-clause-complete g c = λ sound within stays. only_memory c.args.left.now c.args.right.now c.args.spec.now c.args.config.now c.in_ok-lefts.lefts c.in_ok-lefts.rights c.in_ok-lefts.ensures.codes c.recon_of_codes.result _ c.recon_of_codes.ensures.complete within stays

pub recon_of_codes-requires-clause-numbers : goal.recon_of_codes-requires-clause-numbers
recon_of_codes-requires-clause-numbers g c κs within = c.in_ok-lefts.ensures.numbers

pub recon_of_codes-requires-clause-few_left : goal.recon_of_codes-requires-clause-few_left
recon_of_codes-requires-clause-few_left g c κs within = c.in_ok-lefts.ensures.few_left

pub recon_of_codes-requires-clause-few_right : goal.recon_of_codes-requires-clause-few_right
recon_of_codes-requires-clause-few_right g c κs within = c.in_ok-lefts.ensures.few_right
