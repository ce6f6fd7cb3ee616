use Rattle.std.proofs.Common.{◌≡◌, ◌<◌, ℕ, None}
use Rattle.std.specs.Prelude.{slice_index_or}
use Rattle.pipe_recon.specs.Codes.{partner_among}
use Rattle.pipe_recon.specs.declared.recon.Partner.TheVariants.{Only}
use Rattle.pipe_recon.proofs.checking.are_partners.Given as goal

abbrev pub invariant-loop-i : goal.invariant-loop-i
invariant-loop-i l = (k : ℕ) → k < l.i → slice_index_or l.partners k Only ≡ partner_among l.others (slice_index_or l.codes k None)
