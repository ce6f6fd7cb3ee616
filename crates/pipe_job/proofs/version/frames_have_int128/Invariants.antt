use Rattle.std.proofs.Common.{◌≡◌, drop}
use Rattle.std.specs.List.{list_any}
use Rattle.pipe_job.specs.Version.{table_has_int128}
use Rattle.pipe_job.proofs.version.frames_have_int128.Given as goal

abbrev pub invariant-loop-frame : goal.invariant-loop-frame
invariant-loop-frame l = list_any table_has_int128 (drop l.frame-index l.frames) ≡ list_any table_has_int128 l.frames
