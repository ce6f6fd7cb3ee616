use Rattle.std.proofs.Common.{ap, length, arith}
use Rattle.std.proofs.lemmas.List.{with_items_is}
use Rattle.pipe_passage.proofs.opening.open_passage.Goals as goal

pub returns-clause-opened : goal.returns-clause-opened
returns-clause-opened g c =
    let same = with_items_is c.args.seats c.open_lanes.new.free (omega (arith, c.open_lanes.auto.free, ap length c.as_mut_slice-free.ensures.value, c.args.seats.ok.0)) in
    λ limit. rw (c.from_vec-2.ensures.items, same) (rw (c.as_mut_slice-free.ensures.value, c.as_slice.ensures.value) at (c.in_ok-made.ensures.opened limit))
