use Rattle.std.proofs.Common.{◌≡◌, take}
use Rattle.pipe_column.specs.Validity.{all_true}
use Rattle.pipe_column.proofs.validity.are_true.Given as goal

abbrev pub invariant-loop-mark : goal.invariant-loop-mark
invariant-loop-mark l = l.all ≡ all_true (take l.mark-index l.marks)
