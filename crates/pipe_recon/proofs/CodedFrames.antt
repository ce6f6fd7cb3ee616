-- Frames of codes and row numbers.
use Rattle.std.proofs.Common.{◌≡◌, ℕ, ◌+◌, ◌<◌, ◌≤◌, List, [], ◌∷◌, ◌++◌, Option, Some, None, length, map, refl, ap, sym, ◌∙◌, arith}
use Rattle.std.specs.List.{range_with_len}
use Rattle.std.proofs.lemmas.List.{get_or-map, length-map, map-append}
use Rattle.std.proofs.lemmas.List.FromFn.{fill_by_all, get_or-map-range_with_len, length-map-range_with_len, map-range_with_len_more}
use Rattle.pipe_schema.specs.Cell.{binary_cell, uint32_cell}
use Rattle.pipe_column.specs.Columns.{even_rows, field_of, row_at}
use Rattle.pipe_frame.specs.Frame.{Table}
use Rattle.pipe_schema.specs.Rows.{Row}
use Rattle.pipe_column.specs.Series.{Cells, cell_at, named_cells}
use Rattle.pipe_schema.specs.declared.any_value.AnyValue.{AnyValue}
use Rattle.pipe_schema.specs.declared.any_value.AnyValue.TheVariants as cell
use Rattle.pipe_schema.specs.declared.data_type.DataType.TheVariants as dtype
use Rattle.pipe_schema.specs.declared.field.Field.{Field}
use Rattle.pipe_recon.specs.Codes.{Code}
use Rattle.pipe_recon.specs.JoinPlan.{code_cell, coded_columns, coded_row, coded_table, number_cell}

pub number_more : (i : ℕ) (numbers : List (Option ℕ)) → map uint32_cell numbers ≡ map number_cell (range_with_len 0 i) → map uint32_cell (numbers ++ Some i ∷ []) ≡ map number_cell (range_with_len 0 (i + 1))
number_more i numbers h =
    map-append uint32_cell numbers (Some i ∷ [])
    ∙ ap (λ (l : List AnyValue). l ++ number_cell i ∷ []) h
    ∙ sym (map-range_with_len_more number_cell 0 i i (omega arith))

-- two columns, put behind one another
pub two_columns : (key row : List ℕ) (codes : List Code) (n : ℕ) (numbers : List (Option ℕ)) (none one both : List Cells) (a b : Cells) → none ≡ [] → one ≡ none ++ a ∷ [] → both ≡ one ++ b ∷ [] → a ≡ named_cells key dtype.Binary (map binary_cell codes) → b ≡ named_cells row dtype.UInt32 (map uint32_cell numbers) → map uint32_cell numbers ≡ map number_cell (range_with_len 0 n) → n ≡ length codes → both ≡ coded_columns key row codes
two_columns key row codes n numbers none one both a b p q r e f g h = rw (r, q, p, e, f, g, h) refl

row_is : (key row : List ℕ) (codes : List Code) (i : ℕ) → i < length codes → row_at (coded_columns key row codes) i ≡ coded_row codes i
row_is key row codes i lt =
    let code : cell_at (map binary_cell codes) i ≡ code_cell codes i = get_or-map binary_cell codes i None cell.Null lt in
    let number : cell_at (map number_cell (range_with_len 0 (length codes))) i ≡ number_cell i = get_or-map-range_with_len number_cell 0 (length codes) i i cell.Null lt (omega arith) in
    ap (λ (c : AnyValue). c ∷ cell_at (map number_cell (range_with_len 0 (length codes))) i ∷ []) code ∙ ap (λ (c : AnyValue). code_cell codes i ∷ c ∷ []) number

rows_are : (key row : List ℕ) (codes : List Code) (height : ℕ) → height ≡ length codes → map (row_at (coded_columns key row codes)) (range_with_len 0 height) ≡ map (coded_row codes) (range_with_len 0 (length codes))
rows_are key row codes height e =
    let at : ℕ → Row = row_at (coded_columns key row codes) in
    ap (λ (n : ℕ). map at (range_with_len 0 n)) e
    ∙ fill_by_all (coded_row codes) (map at (range_with_len 0 (length codes))) (length codes) [] (length-map-range_with_len at 0 (length codes)) (λ i lt. get_or-map-range_with_len at 0 (length codes) i i [] lt (omega arith) ∙ row_is key row codes i lt)

abbrev made : List Field → List Row → Table
made schema rows = record { schema = schema; rows = rows }

-- the frame of these columns
pub frame_is : (frame : Table) (key row : List ℕ) (codes : List Code) (all : List Cells) → all ≡ coded_columns key row codes → frame.schema ≡ map field_of all → frame.rows ≡ even_rows all → frame ≡ coded_table key row codes
frame_is frame key row codes all e s r =
    let schema : frame.schema ≡ (coded_table key row codes).schema = s ∙ ap (map field_of) e in
    let lines : frame.rows ≡ (coded_table key row codes).rows = r ∙ ap even_rows e ∙ rows_are key row codes (length (map binary_cell codes)) (length-map codes binary_cell) in
    ap (λ (t : List Field). made t frame.rows) schema ∙ ap (λ (l : List Row). made (coded_table key row codes).schema l) lines
