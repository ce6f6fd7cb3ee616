-- The columns of a chunk with those of expressions are the extension of the rows.
use Rattle.std.proofs.Common.{◌≡◌, ℕ, suc, ◌+◌, ◌<◌, List, [], ◌∷◌, ◌++◌, Option, Some, None, length, map, get_or, refl, ap, subst, sym, ◌∙◌, arith, inl, inr, length-append}
use Rattle.std.specs.Prelude.{◌⊎◌}
use Rattle.std.proofs.lemmas.List.{length-map, map-append}
use Rattle.std.proofs.lemmas.List.Concat.{flat_map_single}
use Rattle.pipe_schema.specs.Rows.{Row, Same}
use Rattle.pipe_column.specs.Series.{Cells}
use Rattle.pipe_schema.specs.Schema.{IsSchema, place_of}
use Rattle.pipe_column.specs.Columns.{AllOfHeight, field_of, height_of}
use Rattle.pipe_frame.specs.Frame.{Table, cell_of_row, table_of, columns_from, columns_of}
use Rattle.pipe_schema.specs.declared.any_value.AnyValue.{AnyValue}
use Rattle.pipe_schema.specs.declared.field.Field.{Field}
use Rattle.pipe_schema.proofs.NamePlaces.{some_field, place_of-name}
use Rattle.pipe_frame.proofs.Tables.{map_map, map_same}
use Rattle.pipe_expr.specs.Values.{named_cell, cell_there}
use Rattle.pipe_expr.specs.Projections.{expr_field, expr_cell, expr_named, new_exprs, replaced_field, stacked_field, hstack_fields, replaced_cell, stacked_cell, hstack_row}
use Rattle.pipe_expr.specs.Formula.{NamedFormula}
use Rattle.std.specs.declared.sync.Arc.{Arc}
use Rattle.pipe_ops.specs.Exprs.{exprs_in, column_or, stacked_column, column_of_expr, stacked_row}
use Rattle.pipe_ops.specs.Laws.{same-equal}
use Rattle.pipe_ops.specs.Pieces.{all_of}
use Rattle.pipe_ops.proofs.MadeColumns.{made-even, made-height, made-table, made-fields}
use Rattle.pipe_ops.proofs.Projected.{AreTable}

-- the column of a field, by its name
abbrev pub named_column : List Field → List Row → Field → Cells
named_column schema rows field = record {
  name = field.name;
  dtype = field.dtype;
  cells = map (λ row. named_cell schema row field.name) rows;
}

columns_from-named : (schema : List Field) (rows : List Row) (n : ℕ) (fields : List Field) → ((k : ℕ) (d : Field) → k < length fields → place_of (get_or fields k d).name schema ≡ Some (n + k)) → columns_from n fields rows ≡ map (named_column schema rows) fields
columns_from-named schema rows n [] places = refl
columns_from-named schema rows n (field ∷ fields) places =
    let here : place_of field.name schema ≡ Some n = places 0 field (omega arith) ∙ ap Some (let e : n + 0 ≡ n = omega arith in e) in
    let later = columns_from-named schema rows (n + 1) fields (λ k d lt. places (suc k) d (omega arith) ∙ ap Some (let e : n + suc k ≡ n + 1 + k = omega arith in e)) in
    ap (λ cells. record { name = field.name; dtype = field.dtype; cells = cells } ∷ columns_from (n + 1) fields rows) (map_same (cell_of_row n) (λ row. named_cell schema row field.name) rows (λ row. ap (cell_there row) (sym here)))
    ∙ ap (λ l. named_column schema rows field ∷ l) later

pub columns-named : (frame : Table) → IsSchema frame.schema → columns_of frame ≡ map (named_column frame.schema frame.rows) frame.schema
columns-named frame good =
    columns_from-named frame.schema frame.rows 0 frame.schema (λ k d lt. place_of-name frame.schema k d good lt ∙ ap Some (let e : k ≡ 0 + k = omega arith in e))

-- a frame, extended by expressions
abbrev pub stacked : List NamedFormula → Table → Table
stacked exprs frame = record {
  schema = hstack_fields frame.schema exprs;
  rows = map (hstack_row frame.schema exprs) frame.rows;
}

module _ (exprs : List NamedFormula) (frame : Table) where
  -- a field of the frame, or a new expression
  abbrev Part : Type 0
  Part = Field ⊎ NamedFormula

  abbrev made : Part → Cells
  made (inl field) = stacked_column exprs frame (named_column frame.schema frame.rows field)
  made (inr e) = column_of_expr frame e

  abbrev field_in : Part → Field
  field_in (inl field) = stacked_field frame.schema exprs field
  field_in (inr e) = expr_field frame.schema e

  abbrev value_in : Row → Part → AnyValue
  value_in row (inl field) = stacked_cell frame.schema exprs row field
  value_in row (inr e) = expr_cell frame.schema row e

  fields-are : (x : Part) → field_of (made x) ≡ field_in x
  fields-are (inl field) =
      let split : (o : Option NamedFormula) → field_of (column_or frame (named_column frame.schema frame.rows field) o) ≡ replaced_field frame.schema field o = elim [ Some e ↦ refl | None ↦ refl ] in
      split (expr_named exprs field.name)
  fields-are (inr e) = refl

  cells-are : (x : Part) → (made x).cells ≡ map (λ row. value_in row x) frame.rows
  cells-are (inl field) =
      let split : (o : Option NamedFormula) → (column_or frame (named_column frame.schema frame.rows field) o).cells ≡ map (λ row. replaced_cell frame.schema row field.name o) frame.rows = elim [ Some e ↦ refl | None ↦ refl ] in
      split (expr_named exprs field.name)
  cells-are (inr e) = refl

  abbrev kept : Field → Part
  kept field = inl field

  abbrev new : NamedFormula → Part
  new e = inr e

  abbrev parts : List Part
  parts = map kept frame.schema ++ map new (new_exprs frame.schema exprs)

  apart : {B : Type 0} (f : Part → B) → map f parts ≡ map (λ field. f (kept field)) frame.schema ++ map (λ e. f (new e)) (new_exprs frame.schema exprs)
  apart f =
      map-append f (map kept frame.schema) (map new (new_exprs frame.schema exprs))
      ∙ ap (λ l. l ++ map f (map new (new_exprs frame.schema exprs))) (map_map f kept frame.schema)
      ∙ ap (λ l. map (λ field. f (kept field)) frame.schema ++ l) (map_map f new (new_exprs frame.schema exprs))

  some-part : IsSchema frame.schema → 0 < length parts
  some-part good =
      let some = some_field frame.schema good in
      let both : length parts ≡ length (map kept frame.schema) + length (map new (new_exprs frame.schema exprs)) = length-append (map kept frame.schema) (map new (new_exprs frame.schema exprs)) in
      let first : length (map kept frame.schema) ≡ length frame.schema = length-map frame.schema kept in
      omega arith

  columns-made : IsSchema frame.schema → map (stacked_column exprs frame) (columns_of frame) ++ map (column_of_expr frame) (new_exprs frame.schema exprs) ≡ map made parts
  columns-made good =
      ap (λ l. map (stacked_column exprs frame) l ++ map (column_of_expr frame) (new_exprs frame.schema exprs)) (columns-named frame good)
      ∙ ap (λ l. l ++ map (column_of_expr frame) (new_exprs frame.schema exprs)) (map_map (stacked_column exprs frame) (named_column frame.schema frame.rows) frame.schema)
      ∙ sym (apart made)

  pub stacked-table : (columns : List Cells) → columns ≡ map (stacked_column exprs frame) (columns_of frame) ++ map (column_of_expr frame) (new_exprs frame.schema exprs) → IsSchema frame.schema → IsSchema (hstack_fields frame.schema exprs) → AreTable columns (stacked exprs frame)
  stacked-table columns made_so good distinct =
      let some = some-part good in
      let height = made-height [] made field_in value_in frame.rows fields-are cells-are parts some in
      let table = made-table [] made field_in value_in frame.rows fields-are cells-are parts some in
      let fields = apart field_in in
      let whole : table_of (map made parts) (height_of (map made parts)) ≡ stacked exprs frame =
      table
      ∙ ap (λ s. record { schema = s; rows = map (λ row. map (value_in row) parts) frame.rows }) fields
      ∙ ap (λ r. record { schema = hstack_fields frame.schema exprs; rows = r }) (map_same (λ row. map (value_in row) parts) (hstack_row frame.schema exprs) frame.rows (λ row. apart (value_in row))) in
      let are : AreTable (map made parts) (stacked exprs frame) = record {
        good = subst IsSchema (sym (made-fields [] made field_in value_in frame.rows fields-are cells-are parts ∙ fields)) distinct;
        even = subst (λ n. AllOfHeight n (map made parts)) (sym height) (made-even [] made field_in value_in frame.rows fields-are cells-are parts);
        whole = whole;
      } in
      subst (λ (cs : List Cells). AreTable cs (stacked exprs frame)) (sym (made_so ∙ columns-made good)) are

-- row by row
pub stacked_each : (exprs : List NamedFormula) (frame : Table) (rows : List Row) → rows ≡ (stacked exprs frame).rows → Same (all_of (stacked_row exprs frame.schema) frame) rows
stacked_each exprs frame rows e = same-equal (flat_map_single (hstack_row frame.schema exprs) frame.rows ∙ sym e)

-- the columns that an operator made of its expressions
pub stacked_by : {P A : Type 0} (expr_of : P → NamedFormula) (frame : Table) (shared slice : List (Arc P A)) (schema : List Field) (first all : List Cells) → slice ≡ shared → frame.schema ≡ schema → first ≡ map (stacked_column (exprs_in expr_of slice) frame) (columns_of frame) → all ≡ first ++ map (column_of_expr frame) (new_exprs schema (exprs_in expr_of slice)) → IsSchema frame.schema → IsSchema (hstack_fields frame.schema (exprs_in expr_of shared)) → AreTable all (stacked (exprs_in expr_of shared) frame)
stacked_by {P = P} {A = A} expr_of frame shared slice schema first all same under f a good distinct =
    let there : all ≡ map (stacked_column (exprs_in expr_of shared) frame) (columns_of frame) ++ map (column_of_expr frame) (new_exprs frame.schema (exprs_in expr_of shared)) =
    a ∙ ap (λ l. l ++ map (column_of_expr frame) (new_exprs schema (exprs_in expr_of slice))) f
    ∙ ap (λ (s : List (Arc P A)). map (stacked_column (exprs_in expr_of s) frame) (columns_of frame) ++ map (column_of_expr frame) (new_exprs schema (exprs_in expr_of s))) same
    ∙ ap (λ s. map (stacked_column (exprs_in expr_of shared) frame) (columns_of frame) ++ map (column_of_expr frame) (new_exprs s (exprs_in expr_of shared))) (sym under) in
    stacked-table (exprs_in expr_of shared) frame all there good distinct
