use Rattle.std.proofs.Common.{◌≡◌, ◌++◌, drop}
use Rattle.pipe_parts.specs.Wishes.{alike}
use Rattle.pipe_parts.proofs.ways.alike.Given as goal

abbrev pub invariant-loop-input : goal.invariant-loop-input
invariant-loop-input l = l.way ++ alike l.wish (drop l._input-index l.inputs) ≡ alike l.wish l.inputs
