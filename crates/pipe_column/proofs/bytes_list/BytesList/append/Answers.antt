use Rattle.std.proofs.Common.{◌<◌, ◌+◌, ◌^◌, length, arith}
use Rattle.pipe_column.proofs.Pieces.{EndsFrom-fits}
use Rattle.pipe_column.proofs.bytes_list.BytesList.append.Goals as goal

pub push_ends-requires-clause-fits : goal.push_ends-requires-clause-fits
push_ends-requires-clause-fits c =
    let small : c.len-start.result + length c.other.inside.bytes.items < 2 ^ 64 = omega (arith, c.as_slice.type_inv, c.as_slice.ensures.len, c.len-start.ensures) in
    rw c.as_slice-2.ensures.value (EndsFrom-fits 0 (length c.other.inside.bytes.items) c.len-start.result (2 ^ 64) c.other.inside.ends.items c.other.invariant small)
