use Rattle.std.proofs.Common.{◌≡◌, ◌+◌, ◌++◌, map, take, drop}
use Rattle.std.specs.List.{AllByRecursion}
use Rattle.pipe_schema.specs.Cell.{string_cell}
use Rattle.pipe_schema.specs.declared.data_type.DataType.TheVariants as dtype
use Rattle.pipe_source.specs.Lent.{lent_cell, HasCells}
use Rattle.pipe_source.proofs.row_by_row.push_texts.Given as goal

abbrev pub invariant-loop-column : goal.invariant-loop-column
invariant-loop-column l = record {
  made : map string_cell l.made ≡ map string_cell l.initial.made ++ map (lent_cell l.i) (take l.column-index l.columns);
  left : AllByRecursion (HasCells dtype.String (l.i + 1)) (drop l.column-index l.columns);
}
