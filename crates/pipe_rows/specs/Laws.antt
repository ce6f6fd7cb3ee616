-- The laws of the encodings and of sorted lists, as statements.
use Rattle.std.specs.Prelude.{◌≡◌, List, length}
use Rattle.std.specs.Ordering.{nat_cmp}
use Rattle.std.specs.Str.{bytes_eq}
use Rattle.std.specs.Cmp.Lexicographic.{slice_cmp}
use Rattle.pipe_schema.specs.Rows.{Row, eq_row, Same}
use Rattle.pipe_schema.specs.declared.data_type.DataType.{DataType}
use Rattle.pipe_rows.specs.declared.sort_field.SortField.{SortField}
use Rattle.pipe_rows.specs.Equality.{equality_row, IsRow}
use Rattle.pipe_rows.specs.Ordered.{ordered_row, fields_cmp}
use Rattle.pipe_rows.specs.SortOrder.{SortBy, sorted, AreRows, IsSortedListOf}

-- equality encodings of rows of some types are equal exactly where the rows are, null with null
abbrev pub EqualBytesWhereEqual : Type 0
EqualBytesWhereEqual =
    (dtypes : List DataType) (a b : Row) → IsRow dtypes a → IsRow dtypes b
    → bytes_eq (equality_row a) (equality_row b) ≡ eq_row a b

-- ordered encodings of rows of some types are ordered as the rows' cells in turn, each by its field
abbrev pub BytesOrderedAsKeys : Type 0
BytesOrderedAsKeys =
    (fields : List SortField) (dtypes : List DataType) (a b : Row) → length fields ≡ length dtypes
    → IsRow dtypes a → IsRow dtypes b
    → slice_cmp nat_cmp (ordered_row fields a) (ordered_row fields b) ≡ fields_cmp fields a b

-- the sorted list has the same rows, and no row of it is before its predecessor
abbrev pub SortedIsInOrder : Type 0
SortedIsInOrder =
    (keys : List SortBy) (dtypes : List DataType) (rows : List Row) → AreRows dtypes rows
    → IsSortedListOf keys rows (sorted keys rows)

-- and it is the only such list
abbrev pub OnlySortedList : Type 0
OnlySortedList =
    (keys : List SortBy) (dtypes : List DataType) (rows ordered : List Row) → AreRows dtypes rows
    → IsSortedListOf keys rows ordered → ordered ≡ sorted keys rows

-- lists of the same rows sort to one list
abbrev pub SameRowsSortAlike : Type 0
SameRowsSortAlike =
    (keys : List SortBy) (dtypes : List DataType) (a b : List Row) → AreRows dtypes a → Same a b
    → sorted keys a ≡ sorted keys b
