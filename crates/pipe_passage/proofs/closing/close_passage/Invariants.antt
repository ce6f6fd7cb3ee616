use Rattle.std.proofs.Common.{length}
use Rattle.pipe_passage.specs.Passages.{acts_now}
use Rattle.pipe_passage.specs.Stopped.{HoldSeats, AllOnce}
use Rattle.pipe_passage.proofs.closing.close_passage.Given as goal

abbrev pub invariant-stages : goal.invariant-stages
invariant-stages g l = record {
  held : HoldSeats g.H.KeyHasher.hash_of l.passage.lanes.items l.passage.shared.items l.passage.seats.items;
  once : AllOnce l.passage.shared.items (acts_now g.H.KeyHasher.hash_of l.passage.lanes.items l.passage.seats.items)
      → AllOnce l.initial.passage.shared.items (acts_now g.H.KeyHasher.hash_of l.initial.passage.lanes.items l.initial.passage.seats.items);
}

abbrev pub decreases-stages : goal.decreases-stages
decreases-stages g l = length l.passage.shared.items
