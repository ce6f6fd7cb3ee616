use Rattle.std.proofs.Common.{◌≡◌, length}
use Rattle.pipe_recon.specs.Least.{AreLeast}
use Rattle.pipe_recon.proofs.least.least_partners.Given as goal

abbrev pub invariant-loop-i : goal.invariant-loop-i
invariant-loop-i l = record {
  long : length l.classes.items ≡ l.height;
  least : AreLeast l.rows l.partners l.i l.classes.items;
}
