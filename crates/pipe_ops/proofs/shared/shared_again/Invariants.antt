use Rattle.std.proofs.Common.{◌≡◌, take}
use Rattle.pipe_ops.specs.Exprs.{values_in}
use Rattle.pipe_ops.proofs.shared.shared_again.Given as goal

abbrev pub invariant-loop-value : goal.invariant-loop-value
invariant-loop-value g l = values_in l.again ≡ values_in (take l.value-index l.shared)
