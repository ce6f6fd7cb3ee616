use Rattle.std.proofs.Common.{filter, map, take, ◌≡◌, ◌++◌}
use Rattle.pipe_optimize.specs.Sides.{keeps_name, suffixed_by}
use Rattle.pipe_optimize.proofs.outputs.push_shown_names.Given as goal

abbrev pub invariant-loop-name : goal.invariant-loop-name
invariant-loop-name l = l.names ≡ l.initial.names ++ map (suffixed_by l.left l.options.suffix) (filter (keeps_name l.keys l.options) (take l.name-index l.right))
