-- How a view and its edits end: why they are refused, and the lines of those that are played.
use Rattle.std.specs.Prelude.{◌≡◌, ◌⊎◌, ◌++◌, ◌&&◌, ℕ, List, Bool, true, false, nat_le, Some, None}
use Rattle.std.specs.List.{flat_map}
use Rattle.pipe_expr.specs.Formula.{formulas_of}
use Rattle.pipe_schema.specs.Rows.{Row}
use Rattle.pipe_job.specs.Line.{head_line, row_line}
use Rattle.pipe_plan.specs.Node as node
use Rattle.pipe_plan.specs.declared.error.PipeError.{PipeError}
use Rattle.pipe_plan.specs.declared.error.PipeError.TheVariants as error
use Rattle.pipe_view.specs.Kept.{Kept, view_fields, view_rows}
use Rattle.pipe_view.specs.Merged.{IsInOrder}
use Rattle.pipe_view.specs.Played.{IsStuck, after_edits, outcomes_of}
use Rattle.pipe_view.specs.Refusals.{view_fault}
use Rattle.pipe_view.specs.declared.row_edit.Outcome.{Outcome}
use Rattle.pipe_view.specs.declared.row_edit.RowEdit.{RowEdit}
use Rattle.pipe_view.specs.EditLines.{outcome_lines}
use Rattle.pipe_view.specs.ReplaySpelling.{ReplayTask}

-- a view of the tables, the join and the limit that are asked for
pub record IsViewOf (task : ReplayTask) (view : Kept) : Type 0 where
  pub left : view.left ≡ task.left
  pub right : view.right ≡ task.right
  pub join : node.Join 0 1 (formulas_of view.left_on) (formulas_of view.right_on) view.options ≡ task.join
  pub limit : view.limit ≡ task.row_limit

-- a limit from 1 to 4294967294
abbrev pub is_good_limit : ℕ → Bool
is_good_limit n = nat_le 1 n && nat_le n 4294967294

-- a limit in its range, and a view without a fault
pub record IsGoodView (view : Kept) : Type 0 where
  pub limit : is_good_limit view.limit ≡ true
  pub good : view_fault view ≡ None

-- ---- what is refused

-- the limit is out of its range,
abbrev pub IsBadLimit : Kept → PipeError → Type 0
IsBadLimit view e = (e ≡ error.BadConfig) × (is_good_limit view.limit ≡ false)

-- or else the view has a fault,
abbrev pub IsViewFault : Kept → PipeError → Type 0
IsViewFault view e = (is_good_limit view.limit ≡ true) × (view_fault view ≡ Some e)

-- or else an edit would make a table or the view too long
abbrev pub IsEditFault : List RowEdit → Kept → PipeError → Type 0
IsEditFault edits view e = (e ≡ error.TooMany 2) × (IsGoodView view × IsStuck edits view)

-- one of these is the error by which a view and its edits are refused
pub record IsRefusedReplay (task : ReplayTask) (e : PipeError) : Type 0 where
  pub view : Kept
  pub is : IsViewOf task view
  pub cause : IsBadLimit view e ⊎ (IsViewFault view e ⊎ IsEditFault task.edits view e)

-- ---- what is played

-- the view can be made, and each edit of it
pub record IsSoundReplay (task : ReplayTask) : Type 0 where
  pub view : Kept
  pub is : IsViewOf task view
  pub good : IsGoodView view
  pub free : IsStuck task.edits view → ⊥

-- the names of a view's columns, the lines of some edits, and the view's rows in the order of all columns
pub record AreLines (view : Kept) (outcomes : List Outcome) (text : List ℕ) : Type 0 where
  pub rows : List Row
  pub ordered : IsInOrder (view_rows view) rows
  pub whole : text ≡ head_line (view_fields view) ++ (outcome_lines 0 outcomes ++ flat_map row_line rows)

-- the lines of the view after the last edit, with a line for each edit
pub record AreReplayLines (task : ReplayTask) (text : List ℕ) : Type 0 where
  pub view : Kept
  pub is : IsViewOf task view
  pub lines : AreLines (after_edits task.edits view) (outcomes_of task.edits view) text
