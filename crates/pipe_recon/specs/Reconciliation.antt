-- Reconciliation of two tables by their keys: each row's least partner on the other side, where it has one.
--
-- A worked case, by the column k, where nulls don't join:
--
--   left   k      right   k
--          1              1
--          1              3
--          2           null
--
-- The left rows 0 and 1 meet the right row 0, and the left row 2 meets none. Of the left rows that meet the right row 0,
-- row 0 is the least. So the partners of the left rows are Matched 0, Matched 0 and Only; those of the right rows are
-- Matched 0, Only and Only. Where nulls join, nothing changes, since no left key is null.
use Rattle.std.specs.Prelude.{ℕ, List, Bool, Option, Some, None, map}
use Rattle.std.specs.List.{position}
use Rattle.pipe_frame.specs.Frame.{Table}
use Rattle.pipe_schema.specs.Rows.{Row}
use Rattle.pipe_schema.specs.declared.field.Field.{Field}
use Rattle.pipe_expr.specs.Joins.{keys_match}
use Rattle.pipe_expr.specs.Projections.{row_named}
use Rattle.pipe_recon.specs.declared.recon.Partner.{Partner}
use Rattle.pipe_recon.specs.declared.recon.Partner.TheVariants.{Matched, Only}
use Rattle.pipe_recon.specs.declared.recon.Recon.{Recon}
use Rattle.pipe_recon.specs.declared.recon_spec.ReconSpec.{ReconSpec}

-- the key of a row: its cells in the columns of these names
abbrev pub key_cells : List Field → List (List ℕ) → Row → Row
key_cells schema on row = row_named schema on row

-- whether a left and a right row meet: the cells of their keys are pairwise the same, null with null,
-- and none of them is null unless nulls join
abbrev pub meets : Table → Table → ReconSpec → Row → Row → Bool
meets left right spec l r =
    keys_match spec.join_nulls (key_cells left.schema spec.on l) (key_cells right.schema spec.on r)

abbrev pub met_by : Table → Table → ReconSpec → Row → Row → Bool
met_by left right spec r l = meets left right spec l r

-- the class of a row, by the least row that it meets
abbrev pub partner : Option ℕ → Partner
partner (Some row) = Matched row
partner None = Only

-- the least right row that a left row meets, and the least left row that a right row meets
abbrev pub left_partner : Table → Table → ReconSpec → Row → Partner
left_partner left right spec l = partner (position (meets left right spec l) right.rows)

abbrev pub right_partner : Table → Table → ReconSpec → Row → Partner
right_partner left right spec r = partner (position (met_by left right spec r) left.rows)

-- the reconciliation of two tables
abbrev pub reconciliation : Table → Table → ReconSpec → Recon
reconciliation left right spec = record {
  left = map (left_partner left right spec) left.rows;
  right = map (right_partner left right spec) right.rows;
}
