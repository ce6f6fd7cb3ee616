-- A join with the frames of its sides.
use Rattle.std.specs.Prelude.{◌≡◌, ◌≤◌, List, Option, Some, None, length}
use Rattle.pipe_frame.specs.Frame.{Table}
use Rattle.pipe_schema.specs.declared.field.Field.{Field}
use Rattle.pipe_table.specs.Spec.{IsSpec}
use Rattle.worked_operators.specs.declared.sides.Sides.{Sides}

-- the settings have no fault, and each frame is one of its side with few enough rows to be numbered
pub record AreSides (sides : Sides) : Type 0 where
  pub good : IsSpec sides.spec
  pub left : sides.left.schema ≡ sides.spec.left_schema
  pub right : sides.right.schema ≡ sides.spec.right_schema
  pub few_left : length sides.left.rows ≤ 4294967294
  pub few_right : length sides.right.rows ≤ 4294967294

abbrev pub AreSidesOrNone : Option Sides → Type 0
AreSidesOrNone None = Unit {0}
AreSidesOrNone (Some sides) = AreSides sides

-- a frame is one of a schema, with few enough rows
abbrev pub IsSideOrNone : List Field → Option Table → Type 0
IsSideOrNone schema None = Unit {0}
IsSideOrNone schema (Some frame) = (frame.schema ≡ schema) × (length frame.rows ≤ 4294967294)
