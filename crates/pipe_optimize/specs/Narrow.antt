-- Plans whose nodes are narrowed to the columns that are needed.
use Rattle.std.specs.Prelude.{◌≡◌, ◌<◌, ℕ, List, Bool, true, false, length}
use Rattle.pipe_frame.specs.Frame.{Table}
use Rattle.pipe_expr.specs.declared.join_words.FunctionIR.{FunctionIR}
use Rattle.pipe_expr.specs.declared.join_words.FunctionIR.TheVariants as function
use Rattle.pipe_plan.specs.Node.{Node}
use Rattle.pipe_plan.specs.Node as node
use Rattle.pipe_plan.specs.Under.{node_at}
use Rattle.pipe_plan.specs.Schemas.{schema_of}
use Rattle.pipe_rules.specs.Grown.{over}
use Rattle.pipe_rules.specs.Needs.{Names}
use Rattle.pipe_rules.specs.Narrowed.{narrow_node}

-- each node is narrowed to what is needed of it, over the nodes below it
pub record AreNarrowed
    (frames : List Table) (old new : List Node) (needs : ℕ → Names) : Type 0 where
  pub long : length new ≡ length old
  pub each : (k : ℕ) → k < length old → node_at new k
      ≡ narrow_node frames (schema_of (over frames new)) (needs k) (node_at old k)

-- whether a node is a renaming: what it becomes rests on the names of its input
abbrev pub renames : FunctionIR → Bool
renames (function.Unpivot on index variable value) = false
renames (function.Rename pairs) = true

abbrev pub is_renaming : Node → Bool
is_renaming (node.DataFrameScan frame columns) = false
is_renaming (node.Filter input predicate) = false
is_renaming (node.SimpleProjection input columns) = false
is_renaming (node.Select input exprs) = false
is_renaming (node.HStack input exprs) = false
is_renaming (node.MapFunction input function) = renames function
is_renaming (node.Union inputs) = false
is_renaming (node.Join left right left_on right_on options) = false
is_renaming (node.Sort input by options) = false
