use Rattle.std.proofs.Common.{◌≡◌, take}
use Rattle.std.specs.List.{flat_map}
use Rattle.pipe_rows.specs.Equality.{equality_cell}
use Rattle.pipe_replay.proofs.key_bytes.key_bytes.Given as goal

abbrev pub invariant-loop-cell : goal.invariant-loop-cell
invariant-loop-cell l = l.bytes.items ≡ flat_map equality_cell (take l.cell-index l.cells)
