use Rattle.std.proofs.Common.{◌≡◌, drop}
use Rattle.pipe_stream.specs.Memory.{bytes_named}
use Rattle.pipe_stream.proofs.shelf_reading.place_of.Given as goal

abbrev pub invariant-loop-place : goal.invariant-loop-place
invariant-loop-place l = bytes_named (drop l.place l.files) l.name ≡ bytes_named l.files l.name
