use Rattle.std.proofs.Common.{filter, take, ◌≡◌}
use Rattle.pipe_schema.specs.Schema.{has_name}
use Rattle.pipe_optimize.proofs.names.kept.Given as goal

abbrev pub invariant-loop-name : goal.invariant-loop-name
invariant-loop-name l = l.kept ≡ filter (has_name l.among) (take l.name-index l.names)
