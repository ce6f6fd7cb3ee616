use Rattle.std.proofs.Common.{◌≡◌, drop}
use Rattle.pipe_recon.specs.Refusals.{types_differ}
use Rattle.pipe_recon.proofs.refusals.do_types_differ.Given as goal

abbrev pub invariant-loop-name : goal.invariant-loop-name
invariant-loop-name l = types_differ l.left l.right (drop l.name-index l.on) ≡ types_differ l.left l.right l.on
