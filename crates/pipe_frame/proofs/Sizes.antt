-- The size of a frame, by its columns and by its rows.
use Rattle.std.proofs.Common.{◌≡◌, ℕ, suc, ◌+◌, List, [], ◌∷◌, ◌++◌, length, map, refl, ap, sym, ◌∙◌, arith}
use Rattle.std.specs.Prelude.{sum_by}
use Rattle.std.specs.List.{range_with_len}
use Rattle.std.proofs.lemmas.List.Sums.{sum_by-append}
use Rattle.std.proofs.lemmas.List.FromFn.{fill_by_all}
use Rattle.pipe_schema.specs.Rows.{Row}
use Rattle.pipe_column.specs.Series.{Cells, cell_at}
use Rattle.pipe_column.specs.Columns.{field_of, row_at, column_rows, AllOfHeight}
use Rattle.pipe_frame.specs.Frame.{Table, table_of}
use Rattle.pipe_schema.specs.Sizes.{cell_size, row_size}
use Rattle.pipe_column.specs.Sizes.{column_size}
use Rattle.pipe_frame.specs.Sizes.{frame_size}
use Rattle.pipe_schema.specs.declared.any_value.AnyValue.{AnyValue}
use Rattle.pipe_schema.specs.declared.any_value.AnyValue.TheVariants as cell
use Rattle.pipe_schema.specs.declared.field.Field.{Field}
use Rattle.pipe_schema.specs.Weights.{total}
use Rattle.pipe_schema.proofs.Weights.{total-sum_by, total-plus, total-map}

no_sum : (places : List ℕ) → total (λ (k : ℕ). 0) places ≡ 0
no_sum [] = refl
no_sum (k ∷ places) = omega (arith, no_sum places)

-- ---- by columns and by rows

-- the cells of a column, place by place
cells-range : (cells : List AnyValue) (height : ℕ) → length cells ≡ height → cells ≡ map (cell_at cells) (range_with_len 0 height)
cells-range cells height long = fill_by_all (cell_at cells) cells height cell.Null long (λ k lt. refl)

sum-rows : (columns : List Cells) (height : ℕ) → AllOfHeight height columns → total (row_size (map field_of columns)) (column_rows columns height) ≡ total column_size columns
sum-rows [] height even = total-map (row_at []) (row_size []) (range_with_len 0 height) ∙ no_sum (range_with_len 0 height)
sum-rows (c ∷ columns) height even =
    let rest = sum-rows columns height (λ k d lt. even (suc k) d (omega arith)) in
    let places = range_with_len 0 height in
    let here : total (λ k. cell_size c.dtype (cell_at c.cells k)) places ≡ column_size c =
    sym (total-map (cell_at c.cells) (cell_size c.dtype) places) ∙ ap (total (cell_size c.dtype)) (sym (cells-range c.cells height (even 0 c (omega arith)))) ∙ total-sum_by (cell_size c.dtype) c.cells in
    let later : total (λ k. row_size (map field_of columns) (row_at columns k)) places ≡ total column_size columns = sym (total-map (row_at columns) (row_size (map field_of columns)) places) ∙ rest in
    total-map (row_at (c ∷ columns)) (row_size (map field_of (c ∷ columns))) places
    ∙ total-plus (λ k. cell_size c.dtype (cell_at c.cells k)) (λ k. row_size (map field_of columns) (row_at columns k)) places
    ∙ ap (λ n. n + total (λ k. row_size (map field_of columns) (row_at columns k)) places) here
    ∙ ap (λ n. column_size c + n) later

-- the size of a frame is the sum of the sizes of its columns
pub size-columns : (columns : List Cells) (height : ℕ) {table : Table} → table_of columns height ≡ table → AllOfHeight height columns → frame_size table ≡ sum_by column_size columns
size-columns columns height v even =
    sym (ap frame_size v) ∙ sym (total-sum_by (row_size (map field_of columns)) (column_rows columns height)) ∙ sum-rows columns height even ∙ total-sum_by column_size columns

-- the size of rows behind rows
pub size-append : (schema : List Field) (a b : List Row) → sum_by (row_size schema) (a ++ b) ≡ sum_by (row_size schema) a + sum_by (row_size schema) b
size-append schema a b = sum_by-append (row_size schema) a b
