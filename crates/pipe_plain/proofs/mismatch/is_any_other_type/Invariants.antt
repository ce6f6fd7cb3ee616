use Rattle.std.proofs.Common.{◌≡◌, drop}
use Rattle.std.specs.List.{list_any}
use Rattle.pipe_plain.specs.Differences.{is_other_type}
use Rattle.pipe_plain.proofs.mismatch.is_any_other_type.Given as goal

abbrev pub invariant-loop-name : goal.invariant-loop-name
invariant-loop-name l = list_any (is_other_type l.schema l.first) (drop l.name-index l.names) ≡ list_any (is_other_type l.schema l.first) l.names
