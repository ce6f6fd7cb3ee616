use Rattle.std.proofs.Common.{map, take, ◌≡◌}
use Rattle.pipe_rules.specs.Through.{old_pair}
use Rattle.pipe_rules.proofs.function.old_names.Given as goal

abbrev pub invariant-loop-field : goal.invariant-loop-field
invariant-loop-field l = l.old_names ≡ map (old_pair l.pairs) (take l.field-index l.field-items)
