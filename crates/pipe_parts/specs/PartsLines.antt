-- The line that tells how the scans of a plan may be cut: a compact JSON object, whose members stand in the order of
-- their names, and a newline.
--
-- A worked case: an inner join (node 2) of scans 0 and 1 by columns k of both, and on it a sort by k (node 3).
--
--   {"gather":[{"columns":null,"frame":0,"node":"DataFrameScan"},{"by":["k"],"descending":[false],"input":0,
--   "node":"Sort","nulls_last":[false],"slice":null}],"parts":true,"refused":null,"root":2,"scans":[{"columns":["k"],
--   "cut":"key","frame":0,"key":2,"node":0},{"columns":["k"],"cut":"key","frame":1,"key":2,"node":1}],"whole_rows":0}
--
-- Another one: a sort with a slice (node 1) of scan 0, and on it a filter (node 2).
--
--   {"gather":null,"parts":false,"refused":{"node":1,"why":"sort with a slice"},"root":2,"scans":[{"cut":"first",
--   "frame":0,"node":0}],"whole_rows":0}
use Rattle.std.specs.Prelude.{ℕ, ◌≡◌, ◌⊎◌, ◌^◌, List, [], ◌∷◌, true, false, codes, nat_lt, if◌then◌else◌}
use Rattle.std.specs.List.{AllByRecursion}
use Rattle.serde_json.specs.Data.{Data, null, boolean, string, object, member, no_members}
use Rattle.pipe_plan.specs.Node.{Node}
use Rattle.pipe_plan.specs.Plan.{Plan}
use Rattle.pipe_plan.specs.Under.{node_at}
use Rattle.pipe_parts.specs.Choices.{Choice, IsIn, choices_of}
use Rattle.pipe_parts.specs.Parts.{frame_in, gather_nodes, parts_root}
use Rattle.pipe_parts.specs.declared.wish.ScanCut.{ScanCut}
use Rattle.pipe_parts.specs.declared.wish.Wish.{Wish}
use Rattle.pipe_parts.specs.declared.wish.Wish.TheVariants.{Split, Key, Whole}
use Rattle.pipe_parts.specs.Least.{IsNoLess, whole_rows}
use Rattle.pipe_parts.specs.Obstacles.{IsObstacle}
use Rattle.pipe_parts.specs.declared.obstacles.Obstacle.{Obstacle}
use Rattle.pipe_parts.specs.declared.obstacles.Why.{Why}
use Rattle.pipe_parts.specs.declared.obstacles.Why.TheVariants.{SlicedSort, KeysNotColumns, FullUnderKey, NoPlainColumn}
use Rattle.pipe_job.specs.Line.{line_of}
use Rattle.pipe_job.specs.NodeSpelling.{node_spelling}
use Rattle.pipe_job.specs.Spelling.{list, whole}

-- ---- scans

-- a scan of a frame, and a word for how it is cut
abbrev pub word_spelling : (word : List ℕ) (frame scan : ℕ) → Data
word_spelling word frame scan =
    object (member (codes "cut") (string word) (member (codes "frame") (whole frame)
    (member (codes "node") (whole scan) no_members)))

-- one that is cut by the values of some columns
abbrev pub key_spelling : (key : ℕ) (columns : List (List ℕ)) (frame scan : ℕ) → Data
key_spelling key columns frame scan =
    object (member (codes "columns") (list string columns) (member (codes "cut") (string (codes "key"))
    (member (codes "frame") (whole frame) (member (codes "key") (whole key)
    (member (codes "node") (whole scan) no_members)))))

abbrev pub cut_spelling : Wish → (frame scan : ℕ) → Data
cut_spelling Split frame scan = word_spelling (codes "split") frame scan
cut_spelling (Key key columns) frame scan = key_spelling key columns frame scan
cut_spelling Whole frame scan = word_spelling (codes "whole") frame scan

-- a scan, its frame and how that is cut
abbrev pub scan_spelling : Plan → ScanCut → Data
scan_spelling plan one = cut_spelling one.cut (frame_in (node_at plan.nodes one.scan)) one.scan

-- a scan of whose frame the first part has all rows
abbrev pub first_spelling : Plan → ScanCut → Data
first_spelling plan one =
    word_spelling (codes "first") (frame_in (node_at plan.nodes one.scan)) one.scan

-- ---- the line

-- null, or the nodes of the plan that gathers
abbrev pub nodes_spelling : List Node → Data
nodes_spelling [] = null
nodes_spelling (x ∷ xs) = list node_spelling (x ∷ xs)

-- a number of rows; null from 2^64 on
abbrev pub rows_spelling : ℕ → Data
rows_spelling rows = if nat_lt rows (2 ^ 64) then whole rows else null

abbrev pub why_text : Why → List ℕ
why_text SlicedSort = codes "sort with a slice"
why_text KeysNotColumns = codes "full join whose keys aren't columns"
why_text FullUnderKey = codes "full join under a key"
why_text NoPlainColumn = codes "key isn't a column of the input"

abbrev pub obstacle_spelling : Obstacle → Data
obstacle_spelling found =
    object (member (codes "node") (whole found.node)
    (member (codes "why") (string (why_text found.why)) no_members))

-- a plan in parts, each scan cut as chosen
abbrev pub parts_spelling : Plan → (root : ℕ) → Choice → (rows : ℕ) → Data
parts_spelling plan root choice rows =
    object (member (codes "gather") (nodes_spelling (gather_nodes (node_at plan.nodes root)))
    (member (codes "parts") (boolean true) (member (codes "refused") null
    (member (codes "root") (whole (parts_root plan root))
    (member (codes "scans") (list (scan_spelling plan) choice)
    (member (codes "whole_rows") (rows_spelling rows) no_members))))))

-- a plan in one part, which has all rows of each scan
abbrev pub one_spelling : Plan → (root : ℕ) → Choice → Obstacle → Data
one_spelling plan root scans found =
    object (member (codes "gather") null
    (member (codes "parts") (boolean false) (member (codes "refused") (obstacle_spelling found)
    (member (codes "root") (whole root)
    (member (codes "scans") (list (first_spelling plan) scans)
    (member (codes "whole_rows") (whole 0) no_members))))))

-- the rules allow a choice for the root's parts, and the line tells one that leaves the fewest rows to be had whole
pub record IsInParts (plan : Plan) (root : ℕ) (sizes line : List ℕ) : Type 0 where
  pub choice : Choice
  pub allowed : IsIn choice (choices_of plan (parts_root plan root) Split)
  pub least : AllByRecursion (IsNoLess plan sizes (whole_rows plan sizes choice))
      (choices_of plan (parts_root plan root) Split)
  pub line_is : line ≡ line_of (parts_spelling plan root choice (whole_rows plan sizes choice))

-- they allow none, and the line tells the node that holds it up, why, and each scan
pub record IsInOne (plan : Plan) (root : ℕ) (line : List ℕ) : Type 0 where
  pub obstacle : Obstacle
  pub is_so : IsObstacle plan (record { node = parts_root plan root; wish = Split }) obstacle
  pub scans : Choice
  pub all : choices_of plan root Whole ≡ scans ∷ []
  pub line_is : line ≡ line_of (one_spelling plan root scans obstacle)

-- the line of a plan, over the rows of each frame
abbrev pub IsPartsLine : Plan → (root : ℕ) → (sizes line : List ℕ) → Type 0
IsPartsLine plan root sizes line = IsInParts plan root sizes line ⊎ IsInOne plan root line
