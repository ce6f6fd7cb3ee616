use Rattle.std.proofs.Common.{drop, ◌≡◌}
use Rattle.std.specs.List.{list_all}
use Rattle.pipe_ops.specs.Each.{has_field}
use Rattle.pipe_ops.proofs.reproject.has_each.Given as goal

abbrev pub invariant-loop-field : goal.invariant-loop-field
invariant-loop-field l = list_all (has_field l.schema) (drop l.field-index l.fields) ≡ list_all (has_field l.schema) l.fn.fields
