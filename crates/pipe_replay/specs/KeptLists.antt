-- The lists of sorts that are kept, and what they were made of.
use Rattle.std.specs.Prelude.{◌≡◌, ℕ, ◌≤◌, List, [], ◌++◌, length, take, Option, Some, None, Bool, false, ◌==◌}
use Rattle.pipe_schema.specs.Rows.{Row}
use Rattle.pipe_events.specs.Stages.{Stage, Stages, Scan, Each, Union, Sort, Joined}
use Rattle.pipe_plain.specs.Tables.{at_place}
use Rattle.pipe_replay.specs.declared.lists.SortedList.{SortedList}

-- a list is that of a sort for the first rows of its input, so many
abbrev pub IsListOf : (bag : ℕ → List Row) → Stage → SortedList → Type 0
IsListOf bag (Scan rows) list = Unit {0}
IsListOf bag (Each input op) list = Unit {0}
IsListOf bag (Union inputs) list = Unit {0}
IsListOf bag (Sort input sorted) list =
    (list.count ≤ length (bag input)) × (list.rows ≡ sorted (take list.count (bag input)))
IsListOf bag (Joined j) list = Unit {0}

-- a list, if there is one, is that of a sort for the first rows of its input
abbrev pub IsKept : (bag : ℕ → List Row) → Stage → Option SortedList → Type 0
IsKept bag stage None = Unit {0}
IsKept bag stage (Some list) = IsListOf bag stage list

-- the list at a node, none where there is no such node
abbrev pub list_at : List (Option SortedList) → ℕ → Option SortedList
list_at lists n = at_place None lists n

-- each list that is kept is that of its sort for the first rows of its input
pub record AreKept (plan : Stages) (bag : ℕ → List Row) (lists : List (Option SortedList)) :
    Type 0 where
  pub size : length lists ≡ plan.size
  pub each : (n : ℕ) → IsKept bag (plan.stage n) (list_at lists n)

-- whether a list was made of so many rows
abbrev pub is_made_of : Option SortedList → ℕ → Bool
is_made_of None count = false
is_made_of (Some list) count = list.count == count

-- its rows
abbrev pub listed : Option SortedList → List Row
listed None = []
listed (Some list) = list.rows

-- the rows of a source, where those of a sort are a list
abbrev pub source_by : Stage → (list : List Row) → List Row
source_by (Scan rows) list = rows
source_by (Each input op) list = []
source_by (Union inputs) list = []
source_by (Sort input sorted) list = list
source_by (Joined j) list = []

-- rows come to bags at their ends alone
pub record BagsGrow (before after : ℕ → List Row) : Type 0 where
  pub each : (t : ℕ) → (more : List Row) × (after t ≡ before t ++ more)
