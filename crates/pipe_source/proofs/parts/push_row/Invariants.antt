use Rattle.std.proofs.Common.{◌≡◌, ◌≤◌, ◌+◌, ◌++◌, length, take, drop, vec_capacity}
use Rattle.std.specs.List.{AllByRecursion}
use Rattle.pipe_column.specs.Column.{nullables}
use Rattle.pipe_source.specs.Parts.{parts_at, HasPlaces}
use Rattle.pipe_source.proofs.parts.push_row.Given as goal

abbrev pub invariant-loop-column : goal.invariant-loop-column
invariant-loop-column g l = record {
  even : length l.validity.items ≡ length l.values.items;
  made : nullables l.validity.items l.values.items ≡ nullables l.initial.validity.items l.initial.values.items ++ parts_at (take l.column-index l.columns) l.i;
  there : AllByRecursion (HasPlaces (l.i + 1)) (drop l.column-index l.columns);
  room : length l.validity.items + length (drop l.column-index l.columns) ≤ vec_capacity l.validity;
  more : length l.values.items + length (drop l.column-index l.columns) ≤ vec_capacity l.values;
}
