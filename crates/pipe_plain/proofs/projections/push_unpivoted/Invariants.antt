use Rattle.std.proofs.Common.{◌≡◌, ◌++◌, map, take}
use Rattle.pipe_expr.specs.Projections.{unpivoted_row}
use Rattle.pipe_plain.proofs.projections.push_unpivoted.Given as goal

abbrev pub invariant-loop-name : goal.invariant-loop-name
invariant-loop-name l = l.rows ≡ l.initial.rows ++ map (unpivoted_row l.schema l.index l.row) (take l.name-index l.on)
