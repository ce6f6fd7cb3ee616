use Rattle.std.proofs.Common.{get_or, Fits, w8, arith}
use Rattle.pipe_column.proofs.NativeBytes.{be_bytes_16}
use Rattle.pipe_column.proofs.native.read_128.Goals as goal

pub returns : goal.returns
returns c = be_bytes_16 c.args.bytes.now c.from_be_bytes.result c.requires (λ i. let byte : Fits w8 (get_or c.args.bytes.now i 0) = c.type_inv.bytes i in omega arith) (rw c.copy_from_slice.ensures.after at c.from_be_bytes.ensures)
