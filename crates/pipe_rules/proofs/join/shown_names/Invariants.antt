use Rattle.std.proofs.Common.{filter, map, take, ◌≡◌}
use Rattle.pipe_check.specs.Sides.{is_kept_by}
use Rattle.pipe_rules.specs.Through.{shown_by}
use Rattle.pipe_rules.proofs.join.shown_names.Given as goal

abbrev pub invariant-loop-field : goal.invariant-loop-field
invariant-loop-field l = l.shown ≡ map (shown_by l.left l.options.suffix) (filter (is_kept_by l.keys l.options) (take l.field-index l.field-items))
