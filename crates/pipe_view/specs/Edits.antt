-- An edit before it is made, told by the groups alone.
use Rattle.std.specs.Prelude.{◌≡◌, ℕ, ◌+◌, ◌<◌, ◌≤◌, ◌⊎◌, List, [], ◌++◌, Bool, not, ◌&&◌, length, take, drop, slice_index_or}
use Rattle.std.specs.List.{list_any}
use Rattle.pipe_schema.specs.Rows.{Row, eq_row, times}
use Rattle.pipe_expr.specs.Joins.{Join}
use Rattle.pipe_view.specs.Sides.{probed_key, has_probed_key, keeps_built}
use Rattle.pipe_view.specs.Changes.{rows_that_come, rows_that_go}
use Rattle.pipe_view.specs.Codes.{Code, GroupList, group_rows, group_at, row_code}
use Rattle.pipe_view.specs.Held.{count_on, counts_with}
use Rattle.pipe_view.specs.declared.counts.Counts.{Counts}
use Rattle.pipe_view.specs.declared.edit.Edit.{Edit}
use Rattle.pipe_view.specs.declared.edit.TakenRow.{TakenRow}
use Rattle.pipe_view.specs.declared.error.ViewError.{ViewError}
use Rattle.pipe_view.specs.declared.error.ViewError.TheVariants as refusal

-- whether a row is the first match of the built rows that it meets, beside the other rows of its side
abbrev pub is_first : Join → (right_built : Bool) → Row → List Row → Bool
is_first j right_built row rest =
    keeps_built j.how right_built && not (list_any (has_probed_key j right_built (probed_key j right_built row)) rest)

-- the rows of the edited side, and of the other, that have a code
abbrev pub own_at : (right_built : Bool) → Code → GroupList → List Row
own_at right_built code groups = group_rows right_built (group_at code groups)

abbrev pub built_at : (right_built : Bool) → Code → GroupList → List Row
built_at right_built code groups = group_rows (not right_built) (group_at code groups)

-- ---- putting a row in

abbrev pub insert_comes : Join → (right_built : Bool) → Row → Code → GroupList → List Row
insert_comes j right_built row code groups =
    rows_that_come j right_built (is_first j right_built row (own_at right_built code groups ++ [])) row (built_at right_built code groups)

abbrev pub insert_goes : Join → (right_built : Bool) → Row → Code → GroupList → List Row
insert_goes j right_built row code groups =
    rows_that_go j right_built (is_first j right_built row (own_at right_built code groups ++ [])) row (built_at right_built code groups)

-- whatever goes is there, or comes
abbrev pub GoesFromThere : Join → (right_built : Bool) → Row → GroupList → (rows : ℕ) → Type 0
GoesFromThere j right_built row groups rows =
    (code : Code) → length (insert_goes j right_built row code groups) ≤ rows + length (insert_comes j right_built row code groups)

pub record IsInsertion (j : Join) (right_built : Bool) (row : Row) (groups : GroupList) (counts : Counts) (limit : ℕ) (edit : Edit) : Type 0 where
  pub code : row_code j right_built row ≡ edit.code
  pub plus : edit.delta.plus ≡ insert_comes j right_built row edit.code groups
  pub minus : edit.delta.minus ≡ insert_goes j right_built row edit.code groups
  pub rows : edit.counts.rows + length edit.delta.minus ≡ counts.rows + length edit.delta.plus
  pub counted : edit.counts ≡ counts_with right_built (count_on right_built counts + 1) edit.counts.rows counts
  pub few : edit.counts.rows ≤ limit
  pub room : count_on right_built counts + 1 ≤ limit

-- a table or the view would have too many rows
abbrev pub IsFull : Join → (right_built : Bool) → Row → GroupList → Counts → (limit : ℕ) → Type 0
IsFull j right_built row groups counts limit =
    (limit + length (insert_goes j right_built row (row_code j right_built row) groups) < counts.rows + length (insert_comes j right_built row (row_code j right_built row) groups))
    ⊎ (limit < count_on right_built counts + 1)

abbrev pub NoInsertion : Join → (right_built : Bool) → Row → GroupList → Counts → (limit : ℕ) → ViewError → Type 0
NoInsertion j right_built row groups counts limit e =
    (e ≡ refusal.Memory) ⊎ ((e ≡ refusal.TooMany) × IsFull j right_built row groups counts limit)

-- ---- taking a row out

-- the other rows of its side that have its code
abbrev pub rest_at : (right_built : Bool) → Code → ℕ → GroupList → List Row
rest_at right_built code place groups =
    take place (own_at right_built code groups) ++ drop (place + 1) (own_at right_built code groups)

abbrev pub remove_comes : Join → (right_built : Bool) → Row → Code → ℕ → GroupList → List Row
remove_comes j right_built row code place groups =
    rows_that_go j right_built (is_first j right_built row (rest_at right_built code place groups)) row (built_at right_built code groups)

abbrev pub remove_goes : Join → (right_built : Bool) → Row → Code → ℕ → GroupList → List Row
remove_goes j right_built row code place groups =
    rows_that_come j right_built (is_first j right_built row (rest_at right_built code place groups)) row (built_at right_built code groups)

-- a row stands at a place of its group
pub record StandsAt (right_built : Bool) (row : Row) (code : Code) (place : ℕ) (groups : GroupList) : Type 0 where
  pub inside : place < length (own_at right_built code groups)
  pub found : slice_index_or (own_at right_built code groups) place [] ≡ row

-- what goes is there, and comes but once
abbrev pub GoesFromView : Join → (right_built : Bool) → Row → GroupList → (rows : ℕ) → Type 0
GoesFromView j right_built row groups rows =
    (code : Code) (place : ℕ) → StandsAt right_built row code place groups →
    length (remove_goes j right_built row code place groups) ≤ rows + length (remove_comes j right_built row code place groups)

-- a side has the rows of each of its groups
abbrev pub HasGroupRows : (right_built : Bool) → GroupList → Counts → Type 0
HasGroupRows right_built groups counts = (code : Code) → length (own_at right_built code groups) ≤ count_on right_built counts

pub record IsRemoval (j : Join) (right_built : Bool) (row : Row) (groups : GroupList) (counts : Counts) (removal : TakenRow) : Type 0 where
  pub code : row_code j right_built row ≡ removal.edit.code
  pub stands : StandsAt right_built row removal.edit.code removal.place groups
  pub plus : removal.edit.delta.plus ≡ remove_comes j right_built row removal.edit.code removal.place groups
  pub minus : removal.edit.delta.minus ≡ remove_goes j right_built row removal.edit.code removal.place groups
  pub rows : removal.edit.counts.rows + length removal.edit.delta.minus ≡ counts.rows + length removal.edit.delta.plus
  pub counted : removal.edit.counts ≡ counts_with right_built (count_on right_built removal.edit.counts) removal.edit.counts.rows counts
  pub own : count_on right_built removal.edit.counts + 1 ≡ count_on right_built counts

abbrev pub NoRemoval : Join → (right_built : Bool) → Row → GroupList → ViewError → Type 0
NoRemoval j right_built row groups e =
    (e ≡ refusal.Memory) ⊎ ((e ≡ refusal.Absent) × (times eq_row row (own_at right_built (row_code j right_built row) groups) ≡ 0))
