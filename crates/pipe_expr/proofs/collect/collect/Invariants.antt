use Rattle.std.proofs.Common.{◌≡◌, ◌≤◌, length, take, vec_capacity}
use Rattle.pipe_column.specs.Column.{nullables}
use Rattle.pipe_expr.proofs.collect.collect.Given as goal

abbrev pub invariant-loop-i : goal.invariant-loop-i
invariant-loop-i g l = record {
  validity : length l.validity.items ≡ l.i;
  values : length l.values.items ≡ l.i;
  room : l.rows ≤ vec_capacity l.validity;
  more : l.rows ≤ vec_capacity l.values;
  nullables : nullables l.validity.items l.values.items ≡ take l.i (g.S.NullableValues.nullables l.source);
}
