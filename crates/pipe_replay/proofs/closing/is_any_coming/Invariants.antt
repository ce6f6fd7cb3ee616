use Rattle.std.proofs.Common.{◌≡◌, drop}
use Rattle.std.specs.List.{list_any}
use Rattle.pipe_world.specs.Staged.{staged}
use Rattle.pipe_replay.specs.Closing.{is_coming}
use Rattle.pipe_replay.proofs.closing.is_any_coming.Given as goal

abbrev pub invariant-loop-load : goal.invariant-loop-load
invariant-loop-load l = list_any (is_coming (staged l.plan) l.t) (drop l.load-index l.loads) ≡ list_any (is_coming (staged l.plan) l.t) l.loads
