-- The choice that leaves the least to be had whole.
use Rattle.std.specs.Prelude.{◌≡◌, ◌≤◌, ◌*◌, ◌^◌, ℕ, List, [], Option, Some, None, length, slice_index_or}
use Rattle.std.specs.List.{AllByRecursion}
use Rattle.pipe_schema.specs.Weights.{total}
use Rattle.pipe_plan.specs.Plan.{Plan}
use Rattle.pipe_plan.specs.Under.{node_at}
use Rattle.pipe_parts.specs.Choices.{Choice, IsIn}
use Rattle.pipe_parts.specs.Parts.{frame_in}
use Rattle.pipe_parts.specs.declared.wish.ScanCut.{ScanCut}
use Rattle.pipe_parts.specs.declared.wish.Wish.{Wish}
use Rattle.pipe_parts.specs.declared.wish.Wish.TheVariants.{Split, Key, Whole}
use Rattle.pipe_parts.specs.declared.found.Found.{Found}

abbrev pub if_whole : Wish → ℕ → ℕ
if_whole Split rows = 0
if_whole (Key key columns) rows = 0
if_whole Whole rows = rows

-- the rows of a scan's frame, where each part has to have them
abbrev pub whole_at : Plan → List ℕ → ScanCut → ℕ
whole_at plan sizes one =
    if_whole one.cut (slice_index_or sizes (frame_in (node_at plan.nodes one.scan)) 0)

-- The rows that each part has to have, over the rows of each frame: of frames of 5 and 7 rows, where
-- scan 0 of the first is Split and scan 1 of the second Whole, 7.
abbrev pub whole_rows : Plan → List ℕ → Choice → ℕ
whole_rows plan sizes choice = total (whole_at plan sizes) choice

abbrev pub IsNoLess : Plan → List ℕ → ℕ → Choice → Type 0
IsNoLess plan sizes rows choice = rows ≤ whole_rows plan sizes choice

-- one of some choices, of which none leaves less to be had whole
pub record IsLeast (plan : Plan) (sizes : List ℕ) (choices : List Choice) (found : Found) : Type 0 where
  pub allowed : IsIn found.cuts choices
  pub whole : found.whole ≡ whole_rows plan sizes found.cuts
  pub least : AllByRecursion (IsNoLess plan sizes found.whole) choices

-- what was found among choices: a least one, or none where there is none
abbrev pub IsBest : Plan → List ℕ → List Choice → Option Found → Type 0
IsBest plan sizes choices None = choices ≡ []
IsBest plan sizes choices (Some found) = IsLeast plan sizes choices found

-- no frame has more than 2^64 rows
abbrev pub IsBounded : Option Found → Type 0
IsBounded None = Unit {0}
IsBounded (Some found) = found.whole ≤ length found.cuts * 2 ^ 64
