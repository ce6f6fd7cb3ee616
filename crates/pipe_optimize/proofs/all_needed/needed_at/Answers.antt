use Rattle.std.proofs.Common.{◌<◌, length, arith}
use Rattle.pipe_optimize.proofs.Whole.{over-some}
use Rattle.pipe_optimize.proofs.all_needed.needed_at.Goals as goal

pub returns-in-Some : goal.returns-in-Some
returns-in-Some c =
    let lt : c.args.n < length c.args.needs.now = omega (arith, c.if-place-needs.false) in
    over-some c.args.lists.now c.args.needs.now c.args.n c.index-needs-place.result _ c.as_slice.result.now lt c.index-needs-place.is c.in-Some.is c.as_slice.ensures
