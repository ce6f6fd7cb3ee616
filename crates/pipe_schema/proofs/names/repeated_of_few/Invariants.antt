use Rattle.std.proofs.Common.{◌≡◌, drop, map}
use Rattle.pipe_schema.specs.Schema.{first_repeated}
use Rattle.pipe_schema.proofs.names.repeated_of_few.Given as goal

abbrev pub invariant-loop-i : goal.invariant-loop-i
invariant-loop-i g l = first_repeated (map g.N.Named.name (drop l.i l.items)) ≡ first_repeated (map g.N.Named.name l.items)
