use Rattle.pipe_rows.specs.Decoding.{HoldsRows}
use Rattle.pipe_rows.proofs.decode.decode_rows.Given as goal

abbrev pub invariant-loop-i : goal.invariant-loop-i
invariant-loop-i l = HoldsRows l.fields l.dtypes l.rows l.i l.columns.items
