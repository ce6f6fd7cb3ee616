use Rattle.std.proofs.Common.{◌≡◌, drop}
use Rattle.std.specs.List.{list_any}
use Rattle.pipe_schema.specs.Rows.{eq_row}
use Rattle.pipe_world.proofs.keys.is_row_among.Given as goal

abbrev pub invariant-loop-other : goal.invariant-loop-other
invariant-loop-other l = list_any (eq_row l.row) (drop l.other-index l.rows) ≡ list_any (eq_row l.row) l.rows
