use Rattle.std.proofs.Common.{◌≡◌, map, option_map, take}
use Rattle.std.specs.Fmt.{signed_decimal}
use Rattle.pipe_spell.proofs.columns.decimals.Given as goal

abbrev pub invariant-loop-i : goal.invariant-loop-i
invariant-loop-i l = l.texts ≡ map (option_map signed_decimal) (take l.i l.column)
