use Rattle.std.proofs.Common.{◌≡◌, drop}
use Rattle.std.specs.List.{list_any}
use Rattle.pipe_job.specs.Version.{field_has_int128}
use Rattle.pipe_job.proofs.version.fields_have_int128.Given as goal

abbrev pub invariant-loop-field : goal.invariant-loop-field
invariant-loop-field l = list_any field_has_int128 (drop l.field-index l.fields) ≡ list_any field_has_int128 l.fields
