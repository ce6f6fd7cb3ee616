use Rattle.std.proofs.Common.{◌∙◌, sym}
use Rattle.pipe_events.specs.Decided.{stands_in}
use Rattle.pipe_replay.proofs.Below.{below-stops}
use Rattle.pipe_replay.proofs.taken_positions.are_all_among.Goals as goal

pub returns-then-not-is_among : goal.returns-then-not-is_among
returns-then-not-is_among c = sym (below-stops (stands_in c.args.numbers.now) c.loop-i.i c.args.count c.loop-i-test.true (sym c.is_among.ensures ∙ c.if-not-is_among.true))
