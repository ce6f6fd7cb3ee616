use Rattle.std.proofs.Common.{◌≡◌, drop, map}
use Rattle.pipe_schema.specs.Schema.{has_name}
use Rattle.pipe_schema.proofs.names.has_item.Given as goal

abbrev pub invariant-loop-item : goal.invariant-loop-item
invariant-loop-item g l = has_name (map g.N.Named.name (drop l.item-index l.items)) l.name ≡ has_name (map g.N.Named.name l.items) l.name
