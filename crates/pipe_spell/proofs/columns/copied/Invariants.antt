use Rattle.std.proofs.Common.{◌≡◌, take}
use Rattle.pipe_spell.proofs.columns.copied.Given as goal

abbrev pub invariant-loop-i : goal.invariant-loop-i
invariant-loop-i g l = l.copy ≡ take l.i l.column
