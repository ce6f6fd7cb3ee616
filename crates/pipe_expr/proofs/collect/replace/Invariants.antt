use Rattle.std.proofs.Common.{◌≡◌, length}
use Rattle.pipe_column.specs.Column.{nullables}
use Rattle.pipe_expr.proofs.Replaced.{zip_first}
use Rattle.pipe_expr.proofs.collect.replace.Given as goal

abbrev pub invariant-loop-i : goal.invariant-loop-i
invariant-loop-i g l = record {
  even : length l.valid ≡ length l.values;
  count : length l.valid ≡ length l.initial.valid;
  nullables : nullables l.valid l.values ≡ zip_first l.i g.K.Kernel.gives (nullables l.initial.valid l.initial.values) (g.S.NullableValues.nullables l.right);
}
