use Rattle.std.proofs.Common.{◌∙◌, ap, map, refl}
use Rattle.pipe_schema.specs.Cell.{int32_cell, int64_cell, uint32_cell, uint64_cell, boolean_cell, string_cell, binary_cell, int128_cell}
use Rattle.pipe_column.proofs.SeriesCells.{taken_cells-map}
use Rattle.pipe_column.proofs.values.Values.take_at.Goals as goal

pub returns-in_ok-take_at-in-Int32-clause-cells : goal.returns-in_ok-take_at-in-Int32-clause-cells
returns-in_ok-take_at-in-Int32-clause-cells g c = rw c.in-Int32.is (ap (map int32_cell) c.in_ok-take_at-in-Int32.ensures ∙ taken_cells-map int32_cell _ _ refl)

pub returns-in_ok-take_at-in-Int64-clause-cells : goal.returns-in_ok-take_at-in-Int64-clause-cells
returns-in_ok-take_at-in-Int64-clause-cells g c = rw c.in-Int64.is (ap (map int64_cell) c.in_ok-take_at-in-Int64.ensures ∙ taken_cells-map int64_cell _ _ refl)

pub returns-in_ok-take_at-in-UInt32-clause-cells : goal.returns-in_ok-take_at-in-UInt32-clause-cells
returns-in_ok-take_at-in-UInt32-clause-cells g c = rw c.in-UInt32.is (ap (map uint32_cell) c.in_ok-take_at-in-UInt32.ensures ∙ taken_cells-map uint32_cell _ _ refl)

pub returns-in_ok-take_at-in-UInt64-clause-cells : goal.returns-in_ok-take_at-in-UInt64-clause-cells
returns-in_ok-take_at-in-UInt64-clause-cells g c = rw c.in-UInt64.is (ap (map uint64_cell) c.in_ok-take_at-in-UInt64.ensures ∙ taken_cells-map uint64_cell _ _ refl)

pub returns-in_ok-take_at-in-Boolean-clause-cells : goal.returns-in_ok-take_at-in-Boolean-clause-cells
returns-in_ok-take_at-in-Boolean-clause-cells g c = rw c.in-Boolean.is (ap (map boolean_cell) c.in_ok-take_at-in-Boolean.ensures ∙ taken_cells-map boolean_cell _ _ refl)

pub returns-in_ok-take_at-in-String-clause-cells : goal.returns-in_ok-take_at-in-String-clause-cells
returns-in_ok-take_at-in-String-clause-cells g c = rw c.in-String.is (ap (map string_cell) c.in_ok-take_at-in-String.ensures ∙ taken_cells-map string_cell _ _ refl)

pub returns-in_ok-take_at-in-Binary-clause-cells : goal.returns-in_ok-take_at-in-Binary-clause-cells
returns-in_ok-take_at-in-Binary-clause-cells g c = rw c.in-Binary.is (ap (map binary_cell) c.in_ok-take_at-in-Binary.ensures ∙ taken_cells-map binary_cell _ _ refl)

pub returns-in_ok-take_at-in-Int128-clause-cells : goal.returns-in_ok-take_at-in-Int128-clause-cells
returns-in_ok-take_at-in-Int128-clause-cells g c = rw c.in-Int128.is (ap (map int128_cell) c.in_ok-take_at-in-Int128.ensures ∙ taken_cells-map int128_cell _ _ refl)
