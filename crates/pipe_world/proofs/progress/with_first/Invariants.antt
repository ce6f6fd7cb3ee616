use Rattle.std.proofs.Common.{◌≡◌, ◌∷◌, take}
use Rattle.pipe_world.proofs.progress.with_first.Given as goal

abbrev pub invariant-loop-number : goal.invariant-loop-number
invariant-loop-number l = l.all ≡ l.first ∷ take l.number-index l.numbers
