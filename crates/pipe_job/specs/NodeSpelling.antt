-- The spelling of nodes. The data of a JSON object has its members in the order of their names.
use Rattle.std.specs.Prelude.{ℕ, ◌≡◌, ◌^◌, ◌<◌, List, map, codes, FitsSigned}
use Rattle.std.specs.List.{AllByRecursion}
use Rattle.std.specs.Int.{w64}
use Rattle.serde_json.specs.Data.{Data, boolean, number, string, object, Members, no_members, member}
use Rattle.serde_json.specs.Find.{of_integer}
use Rattle.pipe_expr.specs.Formula.{Formula, formula_of}
use Rattle.pipe_expr.specs.declared.join_words.JoinType.{JoinType}
use Rattle.pipe_expr.specs.declared.join_words.JoinType.TheVariants as how
use Rattle.pipe_expr.specs.declared.join_words.JoinCoalesce.{JoinCoalesce}
use Rattle.pipe_expr.specs.declared.join_words.JoinCoalesce.TheVariants as coalesce
use Rattle.pipe_expr.specs.declared.join_words.RenamePair.{RenamePair}
use Rattle.pipe_expr.specs.declared.join_words.FunctionIR.{FunctionIR}
use Rattle.pipe_expr.specs.declared.join_words.FunctionIR.TheVariants as function
use Rattle.pipe_plan.specs.Node.{Node, DataFrameScan, Filter, SimpleProjection, Select, HStack, MapFunction, Union, Join, Sort, node_of}
use Rattle.pipe_plan.specs.declared.ir.IR.{IR}
use Rattle.pipe_plan.specs.declared.ir.JoinOptions.{JoinOptions}
use Rattle.pipe_plan.specs.declared.ir.SortOptions.{SortOptions}
use Rattle.pipe_plan.specs.declared.ir.RowsHint.{RowsHint}
use Rattle.pipe_plan.specs.declared.ir.PlanSlice.{PlanSlice}
use Rattle.pipe_job.specs.declared.join.Back.{Back}
use Rattle.pipe_job.specs.Spelling.{maybe, MaybeFits, list, whole, couple}
use Rattle.pipe_job.specs.FormulaSpelling.{formula_spelling, FormulaFits, named_spelling, NamedFits}

abbrev pub slice_spelling : PlanSlice → Data
slice_spelling s = couple (number (of_integer s.offset)) (whole s.len)

abbrev pub SliceFits : PlanSlice → Type 0
SliceFits s = FitsSigned w64 s.offset × (s.len < 2 ^ 64)

abbrev pub how_spelling : JoinType → Data
how_spelling how.Inner = string (codes "inner")
how_spelling how.Left = string (codes "left")
how_spelling how.Full = string (codes "full")
how_spelling how.Cross = string (codes "cross")
how_spelling how.Semi = string (codes "semi")
how_spelling how.Anti = string (codes "anti")

abbrev pub coalesce_spelling : JoinCoalesce → Data
coalesce_spelling coalesce.JoinSpecific = string (codes "JoinSpecific")
coalesce_spelling coalesce.CoalesceColumns = string (codes "CoalesceColumns")
coalesce_spelling coalesce.KeepColumns = string (codes "KeepColumns")

abbrev pub hint_spelling : RowsHint → Data
hint_spelling h = couple (maybe whole h.known) (whole h.estimate)

abbrev pub HintFits : RowsHint → Type 0
HintFits h = MaybeFits (λ n. n < 2 ^ 64) h.known × (h.estimate < 2 ^ 64)

abbrev pub pair_spelling : RenamePair → Data
pair_spelling p = object (member (codes "existing") (string p.existing) (member (codes "new") (string p.new_name) no_members))

-- the last members of a join
abbrev pub join_back : ℕ → List Formula → RowsHint → RowsHint → List ℕ → Members
join_back right right_on rows_left rows_right suffix =
    member (codes "right") (whole right) (member (codes "right_on") (list formula_spelling right_on) (member (codes "rows_left") (hint_spelling rows_left)
    (member (codes "rows_right") (hint_spelling rows_right) (member (codes "suffix") (string suffix) no_members))))

abbrev pub JoinBackFits : ℕ → List Formula → RowsHint → RowsHint → Type 0
JoinBackFits right right_on rows_left rows_right = (right < 2 ^ 32) × AllByRecursion FormulaFits right_on × HintFits rows_left × HintFits rows_right

abbrev pub join_spelling : ℕ → ℕ → List Formula → List Formula → JoinOptions → Data
join_spelling left right left_on right_on o =
    object (member (codes "coalesce") (coalesce_spelling o.coalesce) (member (codes "how") (how_spelling o.how) (member (codes "join_nulls") (boolean o.join_nulls)
    (member (codes "left") (whole left) (member (codes "left_on") (list formula_spelling left_on) (member (codes "node") (string (codes "Join"))
    (join_back right right_on o.rows_left o.rows_right o.suffix)))))))

abbrev pub sort_spelling : ℕ → List (List ℕ) → SortOptions → Data
sort_spelling input by o =
    object (member (codes "by") (list string by) (member (codes "descending") (list boolean o.descending) (member (codes "input") (whole input)
    (member (codes "node") (string (codes "Sort")) (member (codes "nulls_last") (list boolean o.nulls_last) (member (codes "slice") (maybe slice_spelling o.slice) no_members))))))

abbrev pub function_spelling : ℕ → FunctionIR → Data
function_spelling input (function.Unpivot on index variable value) =
    object (member (codes "index") (list string index) (member (codes "input") (whole input) (member (codes "node") (string (codes "Unpivot"))
    (member (codes "on") (list string on) (member (codes "value") (string value) (member (codes "variable") (string variable) no_members))))))
function_spelling input (function.Rename pairs) =
    object (member (codes "input") (whole input) (member (codes "node") (string (codes "Rename")) (member (codes "pairs") (list pair_spelling pairs) no_members)))

abbrev pub node_spelling : Node → Data
node_spelling (DataFrameScan frame columns) =
    object (member (codes "columns") (maybe (list string) columns) (member (codes "frame") (whole frame) (member (codes "node") (string (codes "DataFrameScan")) no_members)))
node_spelling (Filter input predicate) =
    object (member (codes "input") (whole input) (member (codes "node") (string (codes "Filter")) (member (codes "predicate") (formula_spelling predicate) no_members)))
node_spelling (SimpleProjection input columns) =
    object (member (codes "columns") (list string columns) (member (codes "input") (whole input) (member (codes "node") (string (codes "SimpleProjection")) no_members)))
node_spelling (Select input exprs) =
    object (member (codes "exprs") (list named_spelling exprs) (member (codes "input") (whole input) (member (codes "node") (string (codes "Select")) no_members)))
node_spelling (HStack input exprs) =
    object (member (codes "exprs") (list named_spelling exprs) (member (codes "input") (whole input) (member (codes "node") (string (codes "HStack")) no_members)))
node_spelling (MapFunction input f) = function_spelling input f
node_spelling (Union inputs) = object (member (codes "inputs") (list whole inputs) (member (codes "node") (string (codes "Union")) no_members))
node_spelling (Join left right left_on right_on o) = join_spelling left right left_on right_on o
node_spelling (Sort input by o) = sort_spelling input by o

-- a number of 32 bits
abbrev pub Fits32 : ℕ → Type 0
Fits32 n = n < 2 ^ 32

-- each number is within its range, and each literal fits its type
abbrev pub NodeFits : Node → Type 0
NodeFits (DataFrameScan frame columns) = Fits32 frame
NodeFits (Filter input predicate) = Fits32 input × FormulaFits predicate
NodeFits (SimpleProjection input columns) = Fits32 input
NodeFits (Select input exprs) = Fits32 input × AllByRecursion NamedFits exprs
NodeFits (HStack input exprs) = Fits32 input × AllByRecursion NamedFits exprs
NodeFits (MapFunction input f) = Fits32 input
NodeFits (Union inputs) = AllByRecursion Fits32 inputs
NodeFits (Join left right left_on right_on o) =
    Fits32 left × Fits32 right × AllByRecursion FormulaFits left_on × AllByRecursion FormulaFits right_on × HintFits o.rows_left × HintFits o.rows_right
NodeFits (Sort input by o) = Fits32 input × MaybeFits SliceFits o.slice

-- ---- the nodes of the code

abbrev pub ir_spelling : IR → Data
ir_spelling x = node_spelling (node_of x)

abbrev pub IrFits : IR → Type 0
IrFits x = NodeFits (node_of x)

-- the value spells the node
abbrev pub IsNode : Data → IR → Type 0
IsNode v x = (v ≡ ir_spelling x) × IrFits x

-- the members are the last ones of a join
abbrev pub IsBack : Members → Back → Type 0
IsBack ms b =
    (ms ≡ join_back b.right (map formula_of b.right_on) b.rows_left b.rows_right b.suffix)
    × JoinBackFits b.right (map formula_of b.right_on) b.rows_left b.rows_right
