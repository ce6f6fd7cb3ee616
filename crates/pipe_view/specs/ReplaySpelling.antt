-- The spelling of a view and its edits: a value spells two tables, their join, a limit of rows and a list of edits
-- where it is their spelling and they fit. Frames, joins, numbers and the version are spelled as those of a job are;
-- the join is of the left table, 0, and the right one, 1.
--
-- A worked case: {"version":1,"row_limit":100,"frames":[FRAME,FRAME],"join":JOIN,"edits":[["left","insert",[2]]]}, by
-- the order of the members' names.
use Rattle.std.specs.Prelude.{◌≡◌, ℕ, List, Bool, true, false, ◌||◌, ◌&&◌, ◌==◌, Result, Ok, Err}
use Rattle.std.specs.List.{AllByRecursion}
use Rattle.serde_json.specs.Data.{Data}
use Rattle.pipe_expr.specs.Formula.{formulas_of}
use Rattle.pipe_frame.specs.Frame.{Table}
use Rattle.pipe_plan.specs.Node.{Node}
use Rattle.pipe_plan.specs.Node as node
use Rattle.pipe_job.specs.declared.misread.Misread.{Misread}
use Rattle.pipe_job.specs.declared.misread.Misread.TheVariants.{Other, Memory}
use Rattle.pipe_job.specs.FrameSpelling.{FrameFits}
use Rattle.pipe_job.specs.NodeSpelling.{node_spelling, NodeFits, Fits32}
use Rattle.pipe_job.specs.Reading.{Reading}
use Rattle.pipe_job.specs.Spelling.{list, whole}
use Rattle.pipe_job.specs.Version.{VersionFits, node_has_int128, table_has_int128}
use Rattle.pipe_view.specs.declared.row_edit.RowEdit.{RowEdit}
use Rattle.pipe_view.specs.EditSpelling.{edit_spelling, EditFits}
use Rattle.pipe_view.specs.RawReplays.{frames_spelling, outline_data}
use Rattle.pipe_view.specs.declared.replay.KeptJoin.{KeptJoin}
use Rattle.pipe_view.specs.declared.replay.Replay.{Replay}

-- the join of the left table and the right one, as a node
abbrev pub kept_node : KeptJoin → Node
kept_node j = node.Join 0 1 (formulas_of j.left_on) (formulas_of j.right_on) j.options

-- whether a node is a join of 0 and 1
abbrev pub joins_both : Node → Bool
joins_both (node.DataFrameScan frame columns) = false
joins_both (node.Filter input predicate) = false
joins_both (node.SimpleProjection input columns) = false
joins_both (node.Select input exprs) = false
joins_both (node.HStack input exprs) = false
joins_both (node.MapFunction input f) = false
joins_both (node.Union inputs) = false
joins_both (node.Join left right left_on right_on options) = (left == 0) && (right == 1)
joins_both (node.Sort input by options) = false

-- what is asked for: two tables, their join as a node, a limit of rows, and edits of the tables
pub record ReplayTask : Type 0 where
  pub version : ℕ
  pub row_limit : ℕ
  pub left : Table
  pub right : Table
  pub join : Node
  pub edits : List RowEdit

-- what a replay of the code asks for
abbrev pub replay_task : Replay → ReplayTask
replay_task r = record {
  version = r.version;
  row_limit = r.row_limit;
  left = r.left;
  right = r.right;
  join = kept_node r.join;
  edits = r.edits;
}

abbrev pub replay_spelling : ReplayTask → Data
replay_spelling t =
    outline_data (list edit_spelling t.edits) (frames_spelling t.left t.right) (node_spelling t.join) (whole t.row_limit) (whole t.version)

-- each number is within its range, the tables fit, the node is a join of both and fits, and each row fits its table
pub record PartsFit (t : ReplayTask) : Type 0 where
  pub version : VersionFits t.version
  pub row_limit : Fits32 t.row_limit
  pub left : FrameFits t.left
  pub right : FrameFits t.right
  pub join : NodeFits t.join
  pub both : joins_both t.join ≡ true
  pub edits : AllByRecursion (EditFits t.left.schema t.right.schema) t.edits

-- whether a column of a table or a literal of a key has the type Int128
abbrev pub replay_has_int128 : ReplayTask → Bool
replay_has_int128 t = table_has_int128 t.left || (table_has_int128 t.right || node_has_int128 t.join)

-- the parts fit, and the types are those of the version
pub record ReplayFits (t : ReplayTask) : Type 0 where
  pub parts : PartsFit t
  pub types : t.version ≡ 1 → replay_has_int128 t ≡ false

-- the value is the spelling of the task
pub record Spells (v : Data) (t : ReplayTask) : Type 0 where
  pub spelled : v ≡ replay_spelling t
  pub fits : ReplayFits t

-- ---- what is read

-- the value is the spelling of no view and its edits
abbrev pub SpellsNoParts : Data → Type 0
SpellsNoParts v = (t : ReplayTask) → v ≡ replay_spelling t → PartsFit t → ⊥

-- what was read, or that the value spells nothing, unless memory runs out; whether the types are those of the version
-- isn't looked at
abbrev pub ReadsParts : Data → Result Replay Misread → Type 0
ReadsParts v (Ok r) = (v ≡ replay_spelling (replay_task r)) × PartsFit (replay_task r)
ReadsParts v (Err Other) = SpellsNoParts v
ReadsParts v (Err Memory) = Unit {0}

-- the bytes read as a value that spells the task
pub record ReadsReplay (bytes : List ℕ) (task : ReplayTask) : Type 0 where
  pub value : Data
  pub reading : Reading bytes value
  pub spelled : Spells value task

-- the bytes read as a value that spells none
pub record ReadsNoReplay (bytes : List ℕ) : Type 0 where
  pub value : Data
  pub reading : Reading bytes value
  pub none : (task : ReplayTask) → Spells value task → ⊥
