-- The texts of branches: a branch's source, then its operators and sinks in the order in which its rows
-- come to them, with ` -> ` before each. (Chosen after the names that polars-pipe's operators, sinks and
-- sources have for themselves.)
--
-- A worked case. Of the source 1, a scan, the operator 2, an inner join, and the sinks Sort 3 and
-- Ordered, both after one operator, the text is
--   df -> callback -> sort -> ordered
use Rattle.std.specs.Prelude.{ℕ, ◌-◌, List, [], ◌∷◌, ◌++◌, map, take, drop, codes}
use Rattle.std.specs.List.{flat_map}
use Rattle.pipe_expr.specs.declared.join_words.JoinType.{JoinType}
use Rattle.pipe_expr.specs.declared.join_words.JoinType.TheVariants as how
use Rattle.pipe_plan.specs.Node.{Node}
use Rattle.pipe_plan.specs.Node as node
use Rattle.pipe_plan.specs.Plan.{Plan}
use Rattle.pipe_plan.specs.Under.{node_at}
use Rattle.pipe_driver.specs.Branches.{branches}
use Rattle.pipe_driver.specs.declared.branch.SinkAt.{SinkAt}
use Rattle.pipe_driver.specs.declared.branch.SinkAt.TheVariants as at
use Rattle.pipe_driver.specs.declared.branch.SinkNode.{SinkNode}
use Rattle.pipe_driver.specs.declared.branch.Branch.{Branch}

-- the word of a node: of a scan as a source, of the others as operators
abbrev pub node_word : Node → List ℕ
node_word (node.DataFrameScan frame columns) = codes "df"
node_word (node.Filter input predicate) = codes "filter"
node_word (node.SimpleProjection input columns) = codes "fast_projection"
node_word (node.Select input exprs) = codes "projection"
node_word (node.HStack input exprs) = codes "hstack"
node_word (node.MapFunction input function) = codes "function"
node_word (node.Union inputs) = codes "union"
node_word (node.Join left right left_on right_on options) = codes "callback"
node_word (node.Sort input by options) = codes "sort"

abbrev pub build_word_of : JoinType → List ℕ
build_word_of how.Inner = codes "generic_join_build"
build_word_of how.Left = codes "generic_join_build"
build_word_of how.Full = codes "generic_join_build"
build_word_of how.Cross = codes "cross_join_sink"
build_word_of how.Semi = codes "generic_join_build"
build_word_of how.Anti = codes "generic_join_build"

-- the word of a join's build sink
abbrev pub build_word : Node → List ℕ
build_word (node.DataFrameScan frame columns) = codes "generic_join_build"
build_word (node.Filter input predicate) = codes "generic_join_build"
build_word (node.SimpleProjection input columns) = codes "generic_join_build"
build_word (node.Select input exprs) = codes "generic_join_build"
build_word (node.HStack input exprs) = codes "generic_join_build"
build_word (node.MapFunction input function) = codes "generic_join_build"
build_word (node.Union inputs) = codes "generic_join_build"
build_word (node.Join left right left_on right_on options) = build_word_of options.how
build_word (node.Sort input by options) = codes "generic_join_build"

abbrev pub sink_word : List Node → SinkAt → List ℕ
sink_word nodes at.Ordered = codes "ordered"
sink_word nodes (at.Sort n) = codes "sort"
sink_word nodes (at.Build n) = build_word (node_at nodes n)

-- a word behind an arrow
abbrev pub arrow_word : List ℕ → List ℕ
arrow_word word = codes " -> " ++ word

abbrev pub operator_text : List Node → ℕ → List ℕ
operator_text nodes n = arrow_word (node_word (node_at nodes n))

abbrev pub operator_texts : List Node → List ℕ → List ℕ
operator_texts nodes operators = flat_map (operator_text nodes) operators

-- the operators between two sinks, of which so many stand before the first one
abbrev pub between : List ℕ → ℕ → ℕ → List ℕ
between operators first offset = take (offset - first) (drop first operators)

-- the sinks, each behind the operators that stand before it and after the sink before
abbrev pub sink_texts : List Node → List ℕ → ℕ → List SinkNode → List ℕ
sink_texts nodes operators first [] = []
sink_texts nodes operators first (sink ∷ sinks) =
    operator_texts nodes (between operators first sink.offset)
    ++ arrow_word (sink_word nodes sink.at)
    ++ sink_texts nodes operators sink.offset sinks

abbrev pub branch_text : List Node → Branch → List ℕ
branch_text nodes branch =
    node_word (node_at nodes branch.source)
    ++ sink_texts nodes branch.operators 0 branch.sinks

-- the texts of a plan's branches
abbrev pub texts : Plan → ℕ → List (List ℕ)
texts plan root = map (branch_text plan.nodes) (branches plan root)
