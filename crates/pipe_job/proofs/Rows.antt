-- The lines of the rows of some columns, from a row on.
use Rattle.std.proofs.Common.{◌≡◌, ◌<◌, ◌-◌, ◌+◌, ◌++◌, ℕ, suc, List, [], flat_map, map, ap, sym, ◌∙◌, arith, append_assoc, slice_index_or}
use Rattle.std.specs.List.{range_with_len}
use Rattle.pipe_schema.specs.Rows.{Row}
use Rattle.pipe_column.specs.Series.{Cells}
use Rattle.pipe_column.specs.Columns.{row_at, column_rows}
use Rattle.pipe_frame.proofs.Tables.{get_or-column_rows}
use Rattle.pipe_job.specs.Line.{row_line}

abbrev lines_from : List Cells → ℕ → ℕ → List ℕ
lines_from columns i n = flat_map row_line (map (row_at columns) (range_with_len i n))

-- one more row is written
pub written_next : (columns : List Cells) (height i : ℕ) (old new all : List ℕ) → i < height → new ≡ old ++ row_line (row_at columns i) → old ++ flat_map row_line (map (row_at columns) (range_with_len i (height - i))) ≡ all
    → new ++ flat_map row_line (map (row_at columns) (range_with_len (i + 1) (height - (i + 1)))) ≡ all
written_next columns height i old new all lt e before =
    let more : height - i ≡ suc (height - (i + 1)) = omega arith in
    ap (λ (s : List ℕ). s ++ lines_from columns (i + 1) (height - (i + 1))) e
    ∙ append_assoc old (row_line (row_at columns i)) (lines_from columns (i + 1) (height - (i + 1)))
    ∙ ap (λ (n : ℕ). old ++ lines_from columns i n) (sym more)
    ∙ before

-- the row at a place of a frame is that of its columns
pub row_in : (columns : List Cells) (rows : List Row) (height i : ℕ) → rows ≡ column_rows columns height → i < height → slice_index_or rows i [] ≡ row_at columns i
row_in columns rows height i e lt = ap (λ (all : List Row). slice_index_or all i []) e ∙ get_or-column_rows columns height i lt
