-- The columns of expressions are the projection of the rows.
use Rattle.std.proofs.Common.{◌≡◌, ℕ, ◌<◌, ◌≤◌, List, [], length, map, take, refl, ap, subst, sym, ◌∙◌, arith}
use Rattle.std.specs.declared.sync.Arc.{Arc}
use Rattle.std.proofs.lemmas.List.{length-map, take_all}
use Rattle.std.proofs.lemmas.List.Concat.{flat_map_single}
use Rattle.pipe_schema.specs.Rows.{Row, Same}
use Rattle.pipe_column.specs.Series.{Cells}
use Rattle.pipe_schema.specs.Schema.{IsSchema}
use Rattle.pipe_column.specs.Columns.{AllOfHeight, field_of, height_of}
use Rattle.pipe_frame.specs.Frame.{Table, table_of}
use Rattle.pipe_schema.proofs.NamePlaces.{some_field}
use Rattle.pipe_frame.proofs.Tables.{map_map, map_same}
use Rattle.pipe_expr.specs.Projections.{expr_field, expr_cell, select_fields, select_row}
use Rattle.pipe_expr.specs.Formula.{NamedFormula}
use Rattle.pipe_ops.specs.Exprs.{expr_in, exprs_in, column_over, projected_row}
use Rattle.pipe_ops.specs.Laws.{same-equal}
use Rattle.pipe_ops.specs.Pieces.{all_of}
use Rattle.pipe_ops.proofs.MadeColumns.{made-even, made-height, made-table, made-fields}

-- some columns are a frame, which is this one
pub record AreTable (columns : List Cells) (table : Table) : Type 0 where
  pub good : IsSchema (map field_of columns)
  pub even : AllOfHeight (height_of columns) columns
  pub whole : table_of columns (height_of columns) ≡ table

-- the rows of a frame, projected
abbrev pub projected : List NamedFormula → Table → Table
projected exprs frame = record {
  schema = select_fields frame.schema exprs;
  rows = map (select_row frame.schema exprs) frame.rows;
}

module _ {P A : Type 0} (expr_of : P → NamedFormula) (frame : Table) where
  columns_are : (shared : List (Arc P A)) → IsSchema (select_fields frame.schema (exprs_in expr_of shared)) → AreTable (map (column_over expr_of frame) shared) (projected (exprs_in expr_of shared) frame)
  columns_are shared good =
      let exprs = exprs_in expr_of shared in
      let some : 0 < length shared = (let n = some_field (select_fields frame.schema exprs) good in omega (arith, length-map exprs (expr_field frame.schema), length-map shared (expr_in expr_of))) in
      let fields : map (λ a. expr_field frame.schema (expr_in expr_of a)) shared ≡ select_fields frame.schema exprs = sym (map_map (expr_field frame.schema) (expr_in expr_of) shared) in
      let height = made-height [] (column_over expr_of frame) (λ a. expr_field frame.schema (expr_in expr_of a)) (λ row a. expr_cell frame.schema row (expr_in expr_of a)) frame.rows (λ a. refl) (λ a. refl) shared some in
      let table = made-table [] (column_over expr_of frame) (λ a. expr_field frame.schema (expr_in expr_of a)) (λ row a. expr_cell frame.schema row (expr_in expr_of a)) frame.rows (λ a. refl) (λ a. refl) shared some in
      let each : (row : Row) → map (λ a. expr_cell frame.schema row (expr_in expr_of a)) shared ≡ select_row frame.schema exprs row = λ row. sym (map_map (expr_cell frame.schema row) (expr_in expr_of) shared) in
      record {
        good = subst IsSchema (sym (made-fields [] (column_over expr_of frame) (λ a. expr_field frame.schema (expr_in expr_of a)) (λ row a. expr_cell frame.schema row (expr_in expr_of a)) frame.rows (λ a. refl) (λ a. refl) shared ∙ fields)) good;
        even = subst (λ n. AllOfHeight n (map (column_over expr_of frame) shared)) (sym height) (made-even [] (column_over expr_of frame) (λ a. expr_field frame.schema (expr_in expr_of a)) (λ row a. expr_cell frame.schema row (expr_in expr_of a)) frame.rows (λ a. refl) (λ a. refl) shared);
        whole = table
            ∙ ap (λ s. record { schema = s; rows = map (λ row. map (λ a. expr_cell frame.schema row (expr_in expr_of a)) shared) frame.rows }) fields
            ∙ ap (λ r. record { schema = select_fields frame.schema exprs; rows = r }) (map_same (λ row. map (λ a. expr_cell frame.schema row (expr_in expr_of a)) shared) (select_row frame.schema exprs) frame.rows each);
      }

  -- the columns that a loop over all of them made
  pub columns_made : (shared slice : List (Arc P A)) (columns : List Cells) (n : ℕ) → slice ≡ shared → columns ≡ map (column_over expr_of frame) (take n slice) → length slice ≤ n → IsSchema (select_fields frame.schema (exprs_in expr_of shared)) → AreTable columns (projected (exprs_in expr_of shared) frame)
  columns_made shared slice columns n same made all good =
      let e : columns ≡ map (column_over expr_of frame) shared = made ∙ ap (map (column_over expr_of frame)) (take_all n slice all ∙ same) in
      subst (λ (cs : List Cells). AreTable cs (projected (exprs_in expr_of shared) frame)) (sym e) (columns_are shared good)

-- row by row
pub projected_each : (exprs : List NamedFormula) (frame : Table) (rows : List Row) → rows ≡ (projected exprs frame).rows → Same (all_of (projected_row exprs frame.schema) frame) rows
projected_each exprs frame rows e = same-equal (flat_map_single (select_row frame.schema exprs) frame.rows ∙ sym e)
