use Rattle.std.proofs.Common.{◌≡◌, take}
use Rattle.pipe_frame.specs.Frame.{column_of}
use Rattle.pipe_replay.proofs.framing.framed_column.Given as goal

abbrev pub invariant-loop-row : goal.invariant-loop-row
invariant-loop-row l = l.column ≡ column_of (take l.row-index l.rows) l.i l.field
