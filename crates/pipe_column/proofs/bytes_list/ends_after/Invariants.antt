use Rattle.std.proofs.Common.{◌≡◌, map, take}
use Rattle.pipe_column.specs.Column.{less}
use Rattle.pipe_column.proofs.bytes_list.ends_after.Given as goal

abbrev pub invariant-loop-end : goal.invariant-loop-end
invariant-loop-end l = l.made.items ≡ map (less l.start) (take l.end-index l.ends)
