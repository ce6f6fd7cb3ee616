-- The frame of columns that were read, and when there is none.
use Rattle.std.proofs.Common.{◌≡◌, ℕ, suc, List, [], ◌∷◌, map, length, Option, Some, false, not, cond, is_some, ◌==◌, refl, ap, ap₂, ◌∙◌, sym}
use Rattle.std.specs.List.{AllByRecursion}
use Rattle.serde_json.specs.View.{items_of}
use Rattle.pipe_schema.specs.declared.any_value.AnyValue.{AnyValue}
use Rattle.pipe_schema.specs.declared.field.Field.{Field}
use Rattle.pipe_schema.specs.declared.error.FrameError.{FrameError}
use Rattle.pipe_column.specs.Series.{Cells}
use Rattle.pipe_schema.specs.Schema.{IsSchema, names_of, names_fault}
use Rattle.pipe_column.specs.Columns.{field_of, column_rows, height_of, other_height, AllOfHeight}
use Rattle.pipe_frame.specs.Frame.{Table, table_of, columns_of, differing, else_fault, frame_fault}
use Rattle.pipe_schema.specs.Rows.{Row}
use Rattle.pipe_frame.proofs.Tables.{columns_of-table, length-column_rows}
use Rattle.pipe_job.specs.Spelling.{list, cell_spelling}
use Rattle.pipe_job.specs.Shape.{nulls_of, outlines_in, is_table}
use Rattle.pipe_job.specs.FrameSpelling.{column_spelling, ColumnFits, IsFrameOf}

length-nulls_of : (cells : List AnyValue) → length (nulls_of (items_of (map cell_spelling cells))) ≡ length cells
length-nulls_of [] = refl
length-nulls_of (c ∷ cells) = ap suc (length-nulls_of cells)

names_outlined : (columns : List Cells) → names_of (map field_of (outlines_in (list column_spelling columns))) ≡ names_of (map field_of columns)
names_outlined [] = refl
names_outlined (c ∷ columns) = ap (λ (l : List (List ℕ)). c.name ∷ l) (names_outlined columns)

height_outlined : (columns : List Cells) → height_of (outlines_in (list column_spelling columns)) ≡ height_of columns
height_outlined [] = refl
height_outlined (c ∷ columns) = length-nulls_of c.cells

other_outlined : (height : ℕ) (columns : List Cells) → other_height height (outlines_in (list column_spelling columns)) ≡ other_height height columns
other_outlined height [] = refl
other_outlined height (c ∷ columns) = ap₂ (λ (n : ℕ) (o : Option ℕ). cond (n == height) o (Some n)) (length-nulls_of c.cells) (other_outlined height columns)

-- the test of the spelling is that of the columns
pub fault_outlined : (columns : List Cells) → frame_fault (outlines_in (list column_spelling columns)) ≡ frame_fault columns
fault_outlined columns = ap₂ else_fault (ap names_fault (names_outlined columns))
    (ap₂ (λ (n : ℕ) (o : Option ℕ). differing n o) (height_outlined columns) (ap (λ (n : ℕ). other_height n (outlines_in (list column_spelling columns))) (height_outlined columns) ∙ other_outlined (height_of columns) columns))

-- columns that make no frame
pub no_table : (columns : List Cells) (e : FrameError) → frame_fault columns ≡ Some e → is_table (list column_spelling columns) ≡ false
no_table columns e h = ap (λ (o : Option FrameError). not (is_some o)) (fault_outlined columns ∙ h)

-- the frame that was made of columns
pub frame_made : (columns : List Cells) (table : Table) → table.schema ≡ map field_of columns → table.rows ≡ column_rows columns (height_of columns) → IsSchema (map field_of columns) → AllOfHeight (height_of columns) columns → AllByRecursion ColumnFits columns → IsFrameOf columns table
frame_made columns table schema rows good even fit =
    let made : table_of columns (height_of columns) ≡ table = ap₂ (λ (s : List Field) (r : List Row). let t : Table = record { schema = s; rows = r } in t) (sym schema) (sym rows) in
    let back : columns ≡ columns_of table = columns_of-table columns (height_of columns) made even in
    let high : height_of columns ≡ length table.rows = sym (length-column_rows columns (height_of columns)) ∙ sym (ap length rows) in
    record {
      columns_are = back;
      fits = record {
        schema = rw schema good;
        even = sym made ∙ ap₂ (λ (cs : List Cells) (n : ℕ). table_of cs n) back high;
        cells = rw (← back) fit;
      };
    }

pub ruleset frame_rules = (no_table, frame_made)
