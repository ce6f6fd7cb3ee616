use Rattle.std.proofs.Common.{drop, ◌≡◌}
use Rattle.std.specs.List.{list_any}
use Rattle.pipe_check.specs.Differences.{is_other_type}
use Rattle.pipe_check.proofs.type_mismatch.is_any_other_type.Given as goal

abbrev pub invariant-loop-name : goal.invariant-loop-name
invariant-loop-name l = list_any (is_other_type l.columns l.first) (drop l.name-index l.names) ≡ list_any (is_other_type l.columns l.first) l.names
