-- A vertical stacker: frames are gathered until they are large enough to be given out as one.
use Rattle.std.specs.Prelude.{◌≡◌, ℕ, ◌/◌, List, [], ◌++◌, Option, Some, None, nat_lt, if◌then◌else◌}
use Rattle.pipe_schema.specs.Rows.{Row}
use Rattle.pipe_frame.specs.Frame.{Table}
use Rattle.pipe_frame.specs.Sizes.{frame_size}
use Rattle.pipe_frame.specs.declared.stacker.Stacked.{Stacked}

-- what a stacker holds, and the size above which it gives that out
pub record Holding : Type 0 where
  pub limit : ℕ
  pub held : Option Table

-- the rows of a frame, if there is one
abbrev pub rows_or_none : Option Table → List Row
rows_or_none (Some table) = table.rows
rows_or_none None = []

-- the size of a frame, if there is one
abbrev pub size_or_none : Option Table → ℕ
size_or_none (Some table) = frame_size table
size_or_none None = 0

-- a frame behind another, if there is one
abbrev pub stacked_on : Option Table → Table → Table
stacked_on (Some table) next = record table { rows = table.rows ++ next.rows }
stacked_on None next = next

-- a frame is large where its size is above a quarter of the limit: before it, what is held is given out
abbrev pub first_out : Holding → Table → Option Table
first_out stacker next = if nat_lt (stacker.limit / 4) (frame_size next) then stacker.held else None

-- what is held once the next frame is added
abbrev pub joined : Holding → Table → Table
joined stacker next =
    stacked_on (if nat_lt (stacker.limit / 4) (frame_size next) then None else stacker.held) next

-- what is held is given out where its size is above the limit
abbrev pub second_out : Holding → Table → Option Table
second_out stacker next =
    if nat_lt stacker.limit (frame_size (joined stacker next)) then Some (joined stacker next) else None

-- and else it stays
abbrev pub still_held : Holding → Table → Option Table
still_held stacker next =
    if nat_lt stacker.limit (frame_size (joined stacker next)) then None else Some (joined stacker next)

-- a stacker that holds a frame behind what it held
abbrev pub holding_more : Holding → Table → Holding
holding_more stacker next = record stacker { held = Some (stacked_on stacker.held next) }

-- the stacker once the next frame is added
abbrev pub after_add : Holding → Table → Holding
after_add stacker next = record stacker { held = still_held stacker next }

-- what is given out and what is held, joined in order, is what was held and the next frame
abbrev pub KeepsRows : Holding → Table → Stacked → Holding → Type 0
KeepsRows old next out new =
    rows_or_none out.first ++ rows_or_none out.second ++ rows_or_none new.held
    ≡ rows_or_none old.held ++ next.rows
