-- `parts`: how the scans of the plan of a job that may be run may be cut, so that its rows can be made in parts; and
-- `parts --rows N,N,..`, with the numbers of rows that its frames count for.
use Rattle.std.specs.Prelude.{ℕ, ◌≡◌, ◌==◌, List, Bool, Option, Some, None, ⊤, length, map, if◌then◌else◌}
use Rattle.std.specs.List.{list_all}
use Rattle.pipe_frame.specs.Frame.{Table}
use Rattle.pipe_job.specs.JobSpelling.{Task}
use Rattle.pipe_parts.specs.PartsLines.{IsPartsLine}
use Rattle.pipe_cli.specs.Contract.{Contract}
use Rattle.pipe_cli.specs.Jobs.{looks_at_those}

abbrev pub has_no_row : Table → Bool
has_no_row table = length table.rows == 0

-- how many rows a frame counts for: as many as it has, or one where no frame has any
abbrev pub frame_size : (empty : Bool) → Table → ℕ
frame_size empty table = if empty then 1 else length table.rows

-- how many rows each frame counts for: of frames of 0 and 7 rows, 0 and 7; of two empty ones, 1 and 1
abbrev pub frame_sizes : List Table → List ℕ
frame_sizes frames = map (frame_size (list_all has_no_row frames)) frames

-- how many rows each frame counts for where these are told
abbrev pub sizes_for : (told : Option (List ℕ)) → List Table → List ℕ
sizes_for None frames = frame_sizes frames
sizes_for (Some heights) frames = heights

-- a job has as many frames as are told of
abbrev pub HasFramesOf : (told : Option (List ℕ)) → Task → Type 0
HasFramesOf None job = ⊤
HasFramesOf (Some heights) job = length job.plan.frames ≡ length heights

-- the line of a job's plan, over these sizes of its frames
abbrev pub IsPartsText : (told : Option (List ℕ)) → Task → List ℕ → Type 0
IsPartsText told job text = IsPartsLine job.plan job.root (sizes_for told job.plan.frames) text

abbrev pub parts : (told : Option (List ℕ)) → Contract
parts told = looks_at_those (HasFramesOf told) (IsPartsText told)
