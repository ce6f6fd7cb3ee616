-- The plan of a reconciliation: the full join of the rows of both sides, each as its code and its number.
--
-- A worked case, by the codes a, b and none on the left and b on the right:
--
--   left    a 0       right   b 0      full join   b    1 b    0
--           b 1                                    a    0 null null
--        null 2                                    null 2 null null
use Rattle.std.specs.Prelude.{ℕ, List, [], ◌∷◌, codes, false, length, map, None, Some, slice_index_or}
use Rattle.std.specs.List.{range_with_len}
use Rattle.pipe_schema.specs.Cell.{binary_cell, uint32_cell}
use Rattle.pipe_frame.specs.Frame.{Table}
use Rattle.pipe_schema.specs.Rows.{Row}
use Rattle.pipe_column.specs.Series.{Cells, named_cells}
use Rattle.pipe_schema.specs.declared.any_value.AnyValue.{AnyValue}
use Rattle.pipe_schema.specs.declared.data_type.DataType.{DataType}
use Rattle.pipe_schema.specs.declared.data_type.DataType.TheVariants as dtype
use Rattle.pipe_schema.specs.declared.field.Field.{Field}
use Rattle.pipe_expr.specs.Formula.{Column}
use Rattle.pipe_expr.specs.declared.join_words.JoinCoalesce.TheVariants as coalesce
use Rattle.pipe_expr.specs.declared.join_words.JoinType.TheVariants as how
use Rattle.pipe_plan.specs.Node.{DataFrameScan, Join, Node}
use Rattle.pipe_plan.specs.Plan.{Plan}
use Rattle.pipe_plan.specs.declared.ir.JoinOptions.{JoinOptions}
use Rattle.pipe_plan.specs.declared.ir.RowsHint.{RowsHint}
use Rattle.pipe_recon.specs.Codes.{Code}

-- the code at a row
abbrev pub code_at : List Code → ℕ → Code
code_at codes i = slice_index_or codes i None

-- the cells of the code and of the number of a row
abbrev pub code_cell : List Code → ℕ → AnyValue
code_cell codes i = binary_cell (code_at codes i)

abbrev pub number_cell : ℕ → AnyValue
number_cell i = uint32_cell (Some i)

abbrev pub coded_row : List Code → ℕ → Row
coded_row codes i = code_cell codes i ∷ number_cell i ∷ []

abbrev pub named_field : List ℕ → DataType → Field
named_field name dtype = record { name = name; dtype = dtype }

-- the rows of one side
abbrev pub coded_table : (key row : List ℕ) → List Code → Table
coded_table key row codes = record {
  schema = named_field key dtype.Binary ∷ named_field row dtype.UInt32 ∷ [];
  rows = map (coded_row codes) (range_with_len 0 (length codes));
}

-- the columns of such a table
abbrev pub coded_columns : (key row : List ℕ) → List Code → List Cells
coded_columns key row codes =
    named_cells key dtype.Binary (map binary_cell codes)
    ∷ named_cells row dtype.UInt32 (map number_cell (range_with_len 0 (length codes))) ∷ []

abbrev pub left_table : List Code → Table
left_table rows = coded_table (codes "left_key") (codes "left_row") rows

abbrev pub right_table : List Code → Table
right_table rows = coded_table (codes "right_key") (codes "right_row") rows

-- how many rows a side has is known
abbrev pub hint : ℕ → RowsHint
hint rows = record { known = Some rows; estimate = rows }

abbrev pub options : (left right : ℕ) → JoinOptions
options left right = record {
  how = how.Full;
  join_nulls = false;
  coalesce = coalesce.KeepColumns;
  suffix = codes "_right";
  rows_left = hint left;
  rows_right = hint right;
}

-- the join of the two scans
abbrev pub join : (left right : ℕ) → Node
join left right =
    Join 0 1 (Column (codes "left_key") ∷ []) (Column (codes "right_key") ∷ [])
    (options left right)

unfoldable pub join_plan : (lefts rights : List Code) → Plan
join_plan lefts rights = record {
  nodes = DataFrameScan 0 None ∷ DataFrameScan 1 None ∷ join (length lefts) (length rights) ∷ [];
  frames = left_table lefts ∷ right_table rights ∷ [];
}

-- where the join stands
abbrev pub join_root : ℕ
join_root = 2

-- the columns of the join
abbrev pub join_fields : List Field
join_fields =
    named_field (codes "left_key") dtype.Binary ∷ named_field (codes "left_row") dtype.UInt32
    ∷ named_field (codes "right_key") dtype.Binary ∷ named_field (codes "right_row") dtype.UInt32 ∷ []

-- where the row numbers of both sides stand in them
abbrev pub left_row : ℕ
left_row = 1

abbrev pub right_row : ℕ
right_row = 3
