use Rattle.std.proofs.Common.{◌≡◌, map, take, drop, All}
use Rattle.std.specs.List.{AllByRecursion}
use Rattle.pipe_source.specs.Lent.{lent_cells, HasCells}
use Rattle.pipe_source.specs.Parts.{part_cells, IsEven}
use Rattle.pipe_source.proofs.parts.all_parts.Given as goal

abbrev pub invariant-loop-column : goal.invariant-loop-column
invariant-loop-column g l = record {
  cells : map (part_cells g.T.Native.cell) l.all.items ≡ map lent_cells (take l.column-index l.columns);
  even : All IsEven l.all.items;
  left : AllByRecursion (HasCells g.T.Native.dtype_of l.end) (drop l.column-index l.columns);
}
