use Rattle.std.proofs.Common.{◌≡◌, drop}
use Rattle.pipe_schema.specs.Schema.{has_name}
use Rattle.pipe_optimize.proofs.names.is_among.Given as goal

abbrev pub invariant-loop-one : goal.invariant-loop-one
invariant-loop-one l = has_name (drop l.one-index l.few) l.name ≡ has_name l.few l.name
