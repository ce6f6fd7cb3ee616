use Rattle.std.proofs.Common.{drop, ◌≡◌}
use Rattle.pipe_schema.specs.Schema.{first_unknown}
use Rattle.pipe_check.proofs.unknown_column.unknown_of.Given as goal

abbrev pub invariant-loop-name : goal.invariant-loop-name
invariant-loop-name l = first_unknown l.columns (drop l.name-index l.names) ≡ first_unknown l.columns l.names
