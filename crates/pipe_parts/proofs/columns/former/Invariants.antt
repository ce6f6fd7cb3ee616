use Rattle.std.proofs.Common.{◌≡◌, drop}
use Rattle.pipe_rules.specs.Placing.{old_name}
use Rattle.pipe_parts.proofs.columns.former.Given as goal

abbrev pub invariant-loop-field : goal.invariant-loop-field
invariant-loop-field l = old_name l.pairs (drop l.field-index l.field-items) l.name ≡ old_name l.pairs l.field-items l.name
