use Rattle.std.proofs.Common.{◌*◌, arith}
use Rattle.pipe_ops.proofs.Neighbours.{neighbours-fit}
use Rattle.pipe_ops.proofs.offsets.combine_offsets.Goals as goal

pub overflow_add-rows : goal.overflow_add-rows
overflow_add-rows c =
    let fits = neighbours-fit c.loop-i.offsets.items c.args.offsets.now.items (2 * c.loop-i.i) c.index.result.now c.index-in-loop-i.result.now c.requires c.loop-i.invariant.others (omega (arith, c.loop-i-test.true, c.loop-i.invariant.count)) c.index.ensures c.index-in-loop-i.ensures in
    omega arith
