-- Marks that a table of reached nodes has.
use Rattle.std.proofs.Common.{◌≡◌, ℕ, false}
use Rattle.pipe_events.specs.Stages.{Stages, reach_at, reaches}
use Rattle.pipe_plain.specs.Tables.{table, at_place}
use Rattle.pipe_plain.proofs.Walks.{table-walks}
use Rattle.pipe_plain.proofs.Ranges.{range-next, range-none}

pub marks-reach : (plan : Stages) (n : ℕ) → at_place false (table false (reach_at plan n) plan.size) ≡ reaches plan n
marks-reach plan n = table-walks false (reach_at plan n) plan.size

pub ruleset reach_rules = (marks-reach)

pub ruleset range_rules = (range-next, range-none)
