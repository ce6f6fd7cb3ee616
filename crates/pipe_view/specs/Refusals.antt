-- Why a view isn't made, and why it isn't changed.
use Rattle.std.specs.Prelude.{◌≡◌, ◌<◌, ◌⊎◌, not, nat_lt, Option, length}
use Rattle.pipe_plan.specs.Faults.{or_else, told}
use Rattle.pipe_plan.specs.declared.error.PipeError.{PipeError}
use Rattle.pipe_plan.specs.declared.error.PipeError.TheVariants as error
use Rattle.pipe_check.specs.Checked.{check_fault}
use Rattle.pipe_view.specs.Kept.{Kept, view_plan, view_rows, with_row, times_on, IsOver}
use Rattle.pipe_view.specs.Sides.{is_view_kind}
use Rattle.pipe_schema.specs.Rows.{Row}
use Rattle.pipe_view.specs.declared.error.ViewError.{ViewError}
use Rattle.pipe_view.specs.declared.error.ViewError.TheVariants as refusal
use Rattle.pipe_view.specs.declared.side.ViewSide.{ViewSide}

-- the least node of a view's plan that has more rows than the limit: a table, 0 or 1, or the join, 2
abbrev pub first_over : Kept → Option PipeError
first_over v =
    or_else (told (nat_lt v.limit (length v.left.rows)) (error.TooMany 0))
    (or_else (told (nat_lt v.limit (length v.right.rows)) (error.TooMany 1))
    (told (nat_lt v.limit (length (view_rows v))) (error.TooMany 2)))

-- why a view isn't made: the fault of its plan, then a kind of join that is none of inner, left and full, then
-- too many rows
abbrev pub view_fault : Kept → Option PipeError
view_fault v =
    or_else (check_fault (view_plan v) 2)
    (or_else (told (not (is_view_kind v.options.how)) (error.BadJoin 2)) (first_over v))

-- why a view whose tables are within the limit isn't made: the join has more rows than the limit, or there isn't
-- the memory
abbrev pub IsJoinTooLong : Kept → PipeError → Type 0
IsJoinTooLong v e = (e ≡ error.Memory) ⊎ ((e ≡ error.TooMany 2) × (v.limit < length (view_rows v)))

-- why no row is put in: a table or the view would have too many, or there isn't the memory
abbrev pub IsInsertRefusal : ViewSide → Row → Kept → ViewError → Type 0
IsInsertRefusal which row before e =
    (e ≡ refusal.Memory) ⊎ ((e ≡ refusal.TooMany) × IsOver (with_row which row before))

-- why no row is taken out: the table has no such row, or there isn't the memory
abbrev pub IsRemoveRefusal : ViewSide → Row → Kept → ViewError → Type 0
IsRemoveRefusal which row before e =
    (e ≡ refusal.Memory) ⊎ ((e ≡ refusal.Absent) × (times_on which row before ≡ 0))
