use Rattle.std.proofs.Common.{◌≡◌, ◌<◌, ◌+◌, length, arith, rules, refl}
use Rattle.std.specs.Prelude.{slice_index_or, None}
use Rattle.std.specs.Option.{option_copied}
use Rattle.pipe_recon.specs.Codes.{partner_among}
use Rattle.pipe_recon.specs.declared.recon.Partner.TheVariants.{Only}
use Rattle.pipe_recon.proofs.FirstRows.{all_same, one_same, other_at}
use Rattle.pipe_recon.proofs.checking.are_partners.Goals as goal

pub returns-then-not-has_class-clause-no : goal.returns-then-not-has_class-clause-no
returns-then-not-has_class-clause-no c = λ _ whole.
    other_at c.in_ok-rows.rows c.args.others.now c.args.partners.now c.args.codes.now c.loop-i.i _ (option_copied c.get.result) c.partner_of.result (search rules) refl c.get.ensures c.partner_of.ensures c.in_ok-rows.ensures whole (c.has_class.ensures.no (search rules))

pub loop-i-preserved : goal.loop-i-preserved
loop-i-preserved c =
    one_same c.in_ok-rows.rows c.args.others.now c.args.partners.now c.args.codes.now c.loop-i.i (option_copied c.get.result) c.partner_of.result c.get.ensures c.partner_of.ensures c.in_ok-rows.ensures (c.has_class.ensures.yes (search rules)) c.loop-i.invariant

pub returns-clause-yes : goal.returns-clause-yes
returns-clause-yes c = λ _. all_same (partner_among c.args.others.now) c.args.partners.now c.args.codes.now (search rules) (λ k lt. c.loop-i.invariant k (search rules))
