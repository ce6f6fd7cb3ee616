use Rattle.std.proofs.Common.{◌≡◌, ◌++◌, drop}
use Rattle.pipe_frame.specs.Frame.{columns_from}
use Rattle.pipe_replay.proofs.framing.framed_columns.Given as goal

abbrev pub invariant-loop-i : goal.invariant-loop-i
invariant-loop-i l = l.columns.items ++ columns_from l.i (drop l.i l.schema) l.rows ≡ columns_from 0 l.schema l.rows
