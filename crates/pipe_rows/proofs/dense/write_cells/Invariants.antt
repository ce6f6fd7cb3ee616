use Rattle.std.proofs.Common.{◌+◌}
use Rattle.pipe_schema.specs.Sizes.{width_of}
use Rattle.pipe_rows.specs.Dense.{Written}
use Rattle.pipe_rows.proofs.dense.write_cells.Given as goal

abbrev pub invariant-loop-i : goal.invariant-loop-i
invariant-loop-i g l = Written g.T.Native.cell l.encoding (1 + width_of g.T.Native.dtype_of) l.width l.offset l.values l.i l.initial.bytes l.bytes
