use Rattle.std.proofs.Common.{take, ◌≡◌}
use Rattle.pipe_schema.specs.Schema.{names_of}
use Rattle.pipe_optimize.proofs.names.field_names.Given as goal

abbrev pub invariant-loop-field : goal.invariant-loop-field
invariant-loop-field l = l.names ≡ names_of (take l.field-index l.fields)
