use Rattle.std.proofs.Common.{◌≡◌, map, take}
use Rattle.pipe_column.specs.Columns.{field_of, AllOfHeight}
use Rattle.pipe_frame.proofs.columns.empty_columns.Given as goal

abbrev pub invariant-loop-field : goal.invariant-loop-field
invariant-loop-field l = record {
  fields : map field_of l.columns.items ≡ take l.field-index l.fields;
  empty : AllOfHeight 0 l.columns.items;
}
