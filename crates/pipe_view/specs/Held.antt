-- What a view keeps beside its rows, and what is true of it.
use Rattle.std.specs.Prelude.{◌≡◌, ℕ, List, Bool, true, false, length}
use Rattle.std.specs.List.{AllByRecursion}
use Rattle.pipe_schema.specs.Rows.{Row}
use Rattle.pipe_schema.specs.declared.field.Field.{Field}
use Rattle.pipe_expr.specs.declared.expr.Expr.{Expr}
use Rattle.pipe_plan.specs.declared.ir.JoinOptions.{JoinOptions}
use Rattle.pipe_view.specs.Kept.{Kept, kept_join, view_fields, view_rows, IsWithin}
use Rattle.pipe_view.specs.Sides.{is_view_kind}
use Rattle.pipe_view.specs.Codes.{GroupList, side_rows, AreSorted, ArePlaced}
use Rattle.pipe_view.specs.declared.counts.Counts.{Counts}

-- a view with the rows of some groups
abbrev pub kept_in : List Field → List Field → List Expr → List Expr → JoinOptions → ℕ → GroupList → Kept
kept_in left right left_on right_on options limit groups = record {
  left = record { schema = left; rows = side_rows true groups };
  right = record { schema = right; rows = side_rows false groups };
  left_on = left_on;
  right_on = right_on;
  options = options;
  limit = limit;
}

-- each row has so many cells
abbrev pub HaveWidth : ℕ → List Row → Type 0
HaveWidth width rows = AllByRecursion (λ row. length row ≡ width) rows

-- the numbers that are kept are those of the rows
pub record AreCounted (v : Kept) (counts : Counts) : Type 0 where
  pub left : counts.left ≡ length v.left.rows
  pub right : counts.right ≡ length v.right.rows
  pub rows : counts.rows ≡ length (view_rows v)

-- a view whose rows stand in groups
pub record IsHeld (v : Kept) (schema : List Field) (groups : GroupList) (counts : Counts) : Type 0 where
  pub fields : schema ≡ view_fields v
  pub kind : is_view_kind v.options.how ≡ true
  pub sorted : AreSorted groups
  pub placed : ArePlaced (kept_join v) groups
  pub left_wide : HaveWidth (length v.left.schema) v.left.rows
  pub right_wide : HaveWidth (length v.right.schema) v.right.rows
  pub counted : AreCounted v counts
  pub within : IsWithin v

-- the number of rows of a side, and the numbers with others for a side and for the view
abbrev pub count_on : (right_built : Bool) → Counts → ℕ
count_on true counts = counts.left
count_on false counts = counts.right

abbrev pub counts_with : (right_built : Bool) → (own rows : ℕ) → Counts → Counts
counts_with true own rows counts = record { left = own; right = counts.right; rows = rows }
counts_with false own rows counts = record { left = counts.left; right = own; rows = rows }
