use Rattle.std.proofs.Common.{◌≡◌, length}
use Rattle.std.specs.List.{flat_map, range_with_len}
use Rattle.pipe_column.specs.Column.{nullables}
use Rattle.pipe_source.specs.Parts.{parts_at}
use Rattle.pipe_source.proofs.parts.flattened_values.Given as goal

abbrev pub invariant-loop-i : goal.invariant-loop-i
invariant-loop-i g l = record {
  even : length l.validity.items ≡ length l.values.items;
  made : nullables l.validity.items l.values.items ≡ flat_map (parts_at l.all.items) (range_with_len l.from l.i);
}
