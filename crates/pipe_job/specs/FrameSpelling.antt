-- The spelling of frames, column by column.
use Rattle.std.specs.Prelude.{◌≡◌, ℕ, List, Result, length, codes}
use Rattle.std.specs.List.{AllByRecursion}
use Rattle.serde_json.specs.Data.{Data, string, object, no_members, member}
use Rattle.pipe_schema.specs.declared.data_type.DataType.{DataType}
use Rattle.pipe_schema.specs.Schema.{IsSchema}
use Rattle.pipe_column.specs.Series.{Cells}
use Rattle.pipe_frame.specs.Frame.{Table, table_of, columns_of}
use Rattle.pipe_job.specs.declared.misread.Misread.{Misread}
use Rattle.pipe_job.specs.Reads.{ReadWhere}
use Rattle.pipe_job.specs.Shape.{is_list, is_cell}
use Rattle.pipe_job.specs.Spelling.{list, single, type_spelling, cell_spelling, FitsType}

abbrev pub column_spelling : Cells → Data
column_spelling c = object (member (codes "name") (string c.name) (member (codes "type") (type_spelling c.dtype) (member (codes "values") (list cell_spelling c.cells) no_members)))

-- each cell fits the column's type
abbrev pub ColumnFits : Cells → Type 0
ColumnFits c = AllByRecursion (FitsType c.dtype) c.cells

abbrev pub frame_spelling : Table → Data
frame_spelling table = single (codes "columns") (list column_spelling (columns_of table))

-- one column or more, each name once; the rows are those of the columns; each cell fits its column's type
pub record FrameFits (table : Table) : Type 0 where
  pub schema : IsSchema table.schema
  pub even : table ≡ table_of (columns_of table) (length table.rows)
  pub cells : AllByRecursion ColumnFits (columns_of table)

-- the column has this name and type, and the value spells its cells
pub record IsColumn (name : List ℕ) (t : DataType) (v : Data) (c : Cells) : Type 0 where
  pub name_is : c.name ≡ name
  pub dtype_is : c.dtype ≡ t
  pub spelled : v ≡ list cell_spelling c.cells
  pub fits : AllByRecursion (FitsType t) c.cells

abbrev pub ReadsColumn : List ℕ → DataType → Data → Result Cells Misread → Type 0
ReadsColumn name t v r = ReadWhere (is_list (is_cell t) v) (IsColumn name t v) r

-- the frame of these columns
pub record IsFrameOf (columns : List Cells) (table : Table) : Type 0 where
  pub columns_are : columns ≡ columns_of table
  pub fits : FrameFits table
