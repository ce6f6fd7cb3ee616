use Rattle.std.proofs.Common.{◌≡◌, map, option_map, take}
use Rattle.hex.specs.Hex.{encode_lower}
use Rattle.pipe_spell.proofs.columns.hexes.Given as goal

abbrev pub invariant-loop-i : goal.invariant-loop-i
invariant-loop-i l = l.texts ≡ map (option_map encode_lower) (take l.i l.column)
