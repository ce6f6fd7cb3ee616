use Rattle.std.proofs.Common.{drop, map, ◌≡◌}
use Rattle.pipe_plan.specs.Faults.{existing_of}
use Rattle.pipe_schema.specs.Schema.{first_unknown}
use Rattle.pipe_check.proofs.unknown_column.unknown_in_pairs.Given as goal

abbrev pub invariant-loop-pair : goal.invariant-loop-pair
invariant-loop-pair l = first_unknown l.columns (map existing_of (drop l.pair-index l.pairs)) ≡ first_unknown l.columns (map existing_of l.pairs)
