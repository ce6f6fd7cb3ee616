use Rattle.std.proofs.Common.{◌≡◌, ◌++◌}
use Rattle.pipe_view.proofs.Lists.{IsPlayed}
use Rattle.pipe_view.proofs.view.View.play_all.Given as goal

abbrev pub invariant-loop-edit : goal.invariant-loop-edit
invariant-loop-edit l =
    IsPlayed l.initial.self l.self l.yielded l.outcomes
    × (l.yielded ++ l.edit-iterator.rest.items ≡ l.initial.edit-iterator.rest.items)
