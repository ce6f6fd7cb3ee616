use Rattle.std.proofs.Common.{◌≡◌, drop, map}
use Rattle.pipe_schema.specs.Schema.{first_unknown}
use Rattle.pipe_schema.proofs.schema.Schema.first_unknown.Given as goal

abbrev pub invariant-loop-item : goal.invariant-loop-item
invariant-loop-item g l = first_unknown l.self (map g.N.Named.name (drop l.item-index l.items)) ≡ first_unknown l.self (map g.N.Named.name l.items)
