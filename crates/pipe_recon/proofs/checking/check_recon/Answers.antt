use Rattle.std.proofs.Common.{◌≡◌, rules}
use Rattle.pipe_recon.specs.Ends.{AreCodes}
use Rattle.pipe_recon.proofs.Partners.{both_same, left_same, right_same}
use Rattle.pipe_recon.proofs.checking.check_recon.Goals as goal

pub returns-then-not-left_same-clause-no : goal.returns-then-not-left_same-clause-no
returns-then-not-left_same-clause-no c = λ _ whole.
    let coded : AreCodes c.args.left.now c.args.right.now c.args.spec.now c.in_ok-left_codes.left_codes c.in_ok-right_codes.right_codes = record { good = c.requires.good; left_codes = c.in_ok-left_codes.ensures.codes; right_codes = c.in_ok-right_codes.ensures.codes; left_typed = c.in_ok-left_codes.ensures.typed; right_typed = c.in_ok-right_codes.ensures.typed } in
    c.in_ok-left_same.ensures.no (search rules) (left_same c.args.left.now c.args.right.now c.args.spec.now c.in_ok-left_codes.left_codes c.in_ok-right_codes.right_codes c.args.recon.now c.as_slice.result.now coded c.as_slice.ensures whole)

pub returns-clause-yes : goal.returns-clause-yes
returns-clause-yes c = λ same.
    let coded : AreCodes c.args.left.now c.args.right.now c.args.spec.now c.in_ok-left_codes.left_codes c.in_ok-right_codes.right_codes = record { good = c.requires.good; left_codes = c.in_ok-left_codes.ensures.codes; right_codes = c.in_ok-right_codes.ensures.codes; left_typed = c.in_ok-left_codes.ensures.typed; right_typed = c.in_ok-right_codes.ensures.typed } in
    both_same c.args.left.now c.args.right.now c.args.spec.now c.in_ok-left_codes.left_codes c.in_ok-right_codes.right_codes c.args.recon.now c.as_slice.result.now c.as_slice-2.result.now coded c.as_slice.ensures c.as_slice-2.ensures (c.in_ok-left_same.ensures.yes (search rules)) (c.in_ok-right_same.ensures.yes same)

pub returns-clause-no : goal.returns-clause-no
returns-clause-no c = λ other whole.
    let coded : AreCodes c.args.left.now c.args.right.now c.args.spec.now c.in_ok-left_codes.left_codes c.in_ok-right_codes.right_codes = record { good = c.requires.good; left_codes = c.in_ok-left_codes.ensures.codes; right_codes = c.in_ok-right_codes.ensures.codes; left_typed = c.in_ok-left_codes.ensures.typed; right_typed = c.in_ok-right_codes.ensures.typed } in
    c.in_ok-right_same.ensures.no other (right_same c.args.left.now c.args.right.now c.args.spec.now c.in_ok-left_codes.left_codes c.in_ok-right_codes.right_codes c.args.recon.now c.as_slice-2.result.now coded c.as_slice-2.ensures whole)
