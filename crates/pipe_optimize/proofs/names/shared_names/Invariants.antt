use Rattle.std.proofs.Common.{filter, take, ◌≡◌}
use Rattle.pipe_schema.specs.Schema.{has_name}
use Rattle.pipe_optimize.specs.Lists.{names_at}
use Rattle.pipe_optimize.proofs.names.shared_names.Given as goal

abbrev pub invariant-loop-name : goal.invariant-loop-name
invariant-loop-name l = l.shared ≡ filter (has_name (names_at l.lists l.n)) (take l.name-index l.names)
