use Rattle.std.proofs.Common.{◌≡◌, drop}
use Rattle.pipe_parts.specs.Wishes.{same_names}
use Rattle.pipe_parts.proofs.keys.are_same.Given as goal

abbrev pub invariant-loop-place : goal.invariant-loop-place
invariant-loop-place l = same_names (drop l.place l.names) (drop l.place l.others) ≡ same_names l.names l.others
