-- The plan of a self-test: the inner, the left and the full join of its two frames on their keys.
--
-- A worked case, start 7 and 2 rows: the left keys are 0 and 1, the right ones 1 and 1. The inner join has 2 rows, the
-- left one 3 (the key 0 has no match), the full one 3 too (each right key has a match).
use Rattle.std.specs.Prelude.{ℕ, List, [], ◌∷◌, codes, false, None}
use Rattle.pipe_expr.specs.Formula.{Formula, Column}
use Rattle.pipe_expr.specs.declared.join_words.JoinCoalesce.TheVariants as coalesce
use Rattle.pipe_expr.specs.declared.join_words.JoinType.{JoinType}
use Rattle.pipe_expr.specs.declared.join_words.JoinType.TheVariants as how
use Rattle.pipe_plan.specs.Node.{Node, DataFrameScan, Join}
use Rattle.pipe_plan.specs.Plan.{Plan}
use Rattle.pipe_plan.specs.declared.config.PipeConfig.{PipeConfig}
use Rattle.pipe_plan.specs.declared.ir.JoinOptions.{JoinOptions}
use Rattle.pipe_plan.specs.declared.ir.RowsHint.{RowsHint}
use Rattle.pipe_selftest.specs.Frames.{left_frame, right_frame}

-- the scans of the two frames
abbrev pub left_scan : Node
left_scan = DataFrameScan 0 None

abbrev pub right_scan : Node
right_scan = DataFrameScan 1 None

-- how many rows an input has isn't known, and is estimated well
abbrev pub hint : ℕ → RowsHint
hint rows = record { known = None; estimate = rows }

abbrev pub options : JoinType → (rows : ℕ) → JoinOptions
options how rows = record {
  how = how;
  join_nulls = false;
  coalesce = coalesce.JoinSpecific;
  suffix = codes "_right";
  rows_left = hint rows;
  rows_right = hint rows;
}

-- the join of two nodes on their keys
abbrev pub join : (left right : ℕ) → JoinType → (rows : ℕ) → Node
join left right how rows =
    Join left right (Column (codes "k") ∷ []) (Column (codes "k") ∷ []) (options how rows)

-- each join has scans of its own
abbrev pub nodes : (rows : ℕ) → List Node
nodes rows =
    left_scan ∷ right_scan ∷ join 0 1 how.Inner rows ∷
    left_scan ∷ right_scan ∷ join 3 4 how.Left rows ∷
    left_scan ∷ right_scan ∷ join 6 7 how.Full rows ∷ []

unfoldable pub plan_from : (start rows : ℕ) → Plan
plan_from start rows = record {
  nodes = nodes rows;
  frames = left_frame start rows ∷ right_frame start rows ∷ [];
}

-- where the joins stand
abbrev pub inner_root : ℕ
inner_root = 2

abbrev pub left_root : ℕ
left_root = 5

abbrev pub full_root : ℕ
full_root = 8

-- how they are run
abbrev pub config : PipeConfig
config = record { workers = 4; chunk_rows = 1000; row_limit = 4294967294 }
