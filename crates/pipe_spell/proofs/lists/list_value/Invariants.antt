use Rattle.std.proofs.Common.{◌≡◌, map, take}
use Rattle.std.specs.List.{AllByRecursion}
use Rattle.pipe_value.specs.View.{view}
use Rattle.pipe_spell.proofs.lists.list_value.Given as goal

abbrev pub invariant-loop-item : goal.invariant-loop-item
invariant-loop-item g l = (map view l.values.items ≡ map g.T.Spell.spelling (take l.item-index l.items)) × AllByRecursion g.T.Spell.fits (take l.item-index l.items)
