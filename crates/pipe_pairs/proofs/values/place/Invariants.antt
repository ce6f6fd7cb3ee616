use Rattle.std.proofs.Common.{◌≡◌, drop}
use Rattle.pipe_schema.specs.Schema.{place_from, place_of}
use Rattle.pipe_pairs.proofs.values.place.Given as goal

abbrev pub invariant-loop-i : goal.invariant-loop-i
invariant-loop-i l = place_from l.i l.name (drop l.i l.schema) ≡ place_of l.name l.schema
