use Rattle.std.proofs.Common.{◌≡◌, take}
use Rattle.pipe_spell.proofs.columns.widened_wholes.Given as goal

abbrev pub invariant-loop-i : goal.invariant-loop-i
invariant-loop-i l = l.wide ≡ take l.i l.column
