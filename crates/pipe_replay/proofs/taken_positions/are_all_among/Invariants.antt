use Rattle.std.proofs.Common.{◌≡◌, true}
use Rattle.pipe_events.specs.Decided.{all_below, stands_in}
use Rattle.pipe_replay.proofs.taken_positions.are_all_among.Given as goal

abbrev pub invariant-loop-i : goal.invariant-loop-i
invariant-loop-i l = all_below (stands_in l.numbers) l.i ≡ true
