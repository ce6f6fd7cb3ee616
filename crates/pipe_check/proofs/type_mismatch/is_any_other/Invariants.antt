use Rattle.std.proofs.Common.{drop, ◌≡◌}
use Rattle.std.specs.List.{list_any}
use Rattle.pipe_check.specs.Kept.{kept_schema}
use Rattle.pipe_check.specs.Differences.{is_other_schema}
use Rattle.pipe_check.proofs.type_mismatch.is_any_other.Given as goal

abbrev pub invariant-loop-input : goal.invariant-loop-input
invariant-loop-input l = list_any (is_other_schema (kept_schema l.schemas) l.first) (drop l.input-index l.inputs) ≡ list_any (is_other_schema (kept_schema l.schemas) l.first) l.inputs
