-- The column under a name.
use Rattle.std.proofs.Common.{◌≡◌, ℕ, suc, ◌+◌, ◌<◌, Bool, true, false, cond, List, [], ◌∷◌, Some, None, is_some, length, get_or, map, refl, ap, sym, ◌∙◌, arith, Bor}
use Rattle.std.specs.Str.{bytes_eq}
use Rattle.std.proofs.lemmas.List.{length-map}
use Rattle.pipe_schema.specs.Rows.{Row}
use Rattle.pipe_column.specs.Series.{Cells}
use Rattle.pipe_schema.specs.Schema.{place_from, place_of}
use Rattle.pipe_frame.specs.Frame.{Table, cell_of_row, columns_from, columns_of}
use Rattle.pipe_schema.specs.declared.field.Field.{Field}
use Rattle.pipe_frame.proofs.Tables.{map_same}
use Rattle.pipe_expr.specs.Types.{type_of_column}
use Rattle.pipe_expr.specs.Values.{value_of, cell_there}
use Rattle.pipe_expr.specs.Evaluation.{IsValueOf}
use Rattle.pipe_expr.specs.Formula.{Column}
use Rattle.pipe_expr.specs.declared.operand.Operand.TheVariants as operand

-- a column of a type has a place
pub no_place : (n : ℕ) (name : List ℕ) (fields : List Field) → place_from n name fields ≡ None → is_some (type_of_column name fields) ≡ true → is_some (type_of_column name fields) ≡ false
no_place n name [] h t = refl
no_place n name (field ∷ fields) h t =
    let split : (b : Bool) → cond b (Some n) (place_from (n + 1) name fields) ≡ None → is_some (cond b (Some field.dtype) (type_of_column name fields)) ≡ true → is_some (cond b (Some field.dtype) (type_of_column name fields)) ≡ false = elim [
      | true ↦ λ e t. cc
      | false ↦ λ e t. no_place (n + 1) name fields e t
    ] in split (bytes_eq field.name name) h t

-- what is found at the place of a name
record Found (name : List ℕ) (fields : List Field) (rows : List Row) (n i : ℕ) (d : Cells) : Type 0 where
  pub k : ℕ
  pub counted : n + k ≡ i
  pub below : k < length fields
  pub typed : type_of_column name fields ≡ Some (get_or (columns_from n fields rows) k d).dtype
  pub cells : (get_or (columns_from n fields rows) k d).cells ≡ map (cell_of_row i) rows

found : (name : List ℕ) (fields : List Field) (rows : List Row) (n i : ℕ) (d : Cells) → place_from n name fields ≡ Some i → Found name fields rows n i d
found name [] rows n i d h = cc
found name (field ∷ fields) rows n i d h =
    let split : (b : Bool) → bytes_eq field.name name ≡ b → cond b (Some n) (place_from (n + 1) name fields) ≡ Some i → Found name (field ∷ fields) rows n i d = elim [
      | true ↦ λ b e. (let same : n ≡ i = cc in record {
        k = 0;
        counted = (let z : n + 0 ≡ i = omega arith in z);
        below = (let z : 0 < suc (length fields) = omega arith in z);
        typed = rw b refl;
        cells = rw same refl;
      })
      | false ↦ λ b e. (let f = found name fields rows (n + 1) i d e in record {
        k = suc f.k;
        counted = (let c = f.counted in let z : n + suc f.k ≡ i = omega arith in z);
        below = (let c = f.below in let z : suc f.k < suc (length fields) = omega arith in z);
        typed = rw b f.typed;
        cells = f.cells;
      })
    ] in split (bytes_eq field.name name) refl h

pub place_below : (name : List ℕ) (fields : List Field) (i : ℕ) → place_of name fields ≡ Some i → i < length fields
place_below name fields i h = let f = found name fields [] 0 i (record { name = []; dtype = Rattle.pipe_schema.specs.declared.data_type.DataType.TheVariants.Boolean; cells = [] }) h in let c = f.counted in let b = f.below in omega arith

-- the column there has the cells of its rows
pub named_is_value : (name : List ℕ) (table : Table) (i : ℕ) (columns : List Cells) (b : Bor Cells) → place_of name table.schema ≡ Some i → columns ≡ columns_of table → b.now ≡ get_or columns i b.now → IsValueOf (Column name) table (operand.Lent b)
named_is_value name table i columns b h same at =
    let f = found name table.schema table.rows 0 i b.now h in
    let k : f.k ≡ i = (let c = f.counted in omega arith) in
    let here : get_or (columns_of table) f.k b.now ≡ b.now = ap (λ j. get_or (columns_of table) j b.now) k ∙ ap (λ l. get_or l i b.now) (sym same) ∙ sym at in
    let cells : b.now.cells ≡ map (cell_of_row i) table.rows = ap (λ c. c.cells) (sym here) ∙ f.cells in
    record {
      typed = f.typed ∙ ap (λ c. Some c.dtype) here;
      cells = cells ∙ map_same (cell_of_row i) (value_of (Column name) table.schema) table.rows (λ row. ap (cell_there row) (sym h));
      sized = ap length cells ∙ length-map table.rows (cell_of_row i);
    }
