-- Outputs, needs and narrowed nodes, over the names of inputs alone.
use Rattle.std.specs.Prelude.{ℕ, List, [], ◌∷◌, ◌++◌, Bool, not, ◌&&◌, ◌||◌, ◌==◌, if◌then◌else◌, map, filter, Option, Some, None}
use Rattle.pipe_frame.specs.Frame.{Table}
use Rattle.pipe_schema.specs.Schema.{has_name, names_of}
use Rattle.pipe_expr.specs.Formula.{Formula, NamedFormula}
use Rattle.pipe_expr.specs.Types.{columns_in}
use Rattle.pipe_expr.specs.Joins.{coalesces, makes_pairs, column_names}
use Rattle.pipe_expr.specs.Projections.{expr_name, renamed}
use Rattle.pipe_expr.specs.declared.join_words.RenamePair.{RenamePair}
use Rattle.pipe_expr.specs.declared.join_words.FunctionIR.{FunctionIR}
use Rattle.pipe_expr.specs.declared.join_words.FunctionIR.TheVariants as function
use Rattle.pipe_plan.specs.Node.{Node}
use Rattle.pipe_plan.specs.Node as node
use Rattle.pipe_plan.specs.Schemas.{frame_at, scan_fields}
use Rattle.pipe_plan.specs.declared.ir.JoinOptions.{JoinOptions}
use Rattle.pipe_plan.specs.declared.ir.PlanSlice.{PlanSlice}
use Rattle.pipe_rules.specs.Needs.{Names, needed_exprs, columns_read, keys_read}
use Rattle.pipe_optimize.specs.Lists.{or_head}

-- ---- outputs

-- the names of expressions that some names lack
abbrev pub is_fresh : List (List ℕ) → NamedFormula → Bool
is_fresh names e = not (has_name names e.name)

abbrev pub fresh_names : List (List ℕ) → List NamedFormula → List (List ℕ)
fresh_names names exprs = map expr_name (filter (is_fresh names) exprs)

-- whether a right column is kept, by the right keys that are plain columns
abbrev pub keeps_name : List (List ℕ) → JoinOptions → Names
keeps_name keys options name = not (coalesces options.how options.coalesce && has_name keys name)

abbrev pub suffixed_by : List (List ℕ) → List ℕ → List ℕ → List ℕ
suffixed_by left suffix name = if has_name left name then name ++ suffix else name

abbrev pub paired_names_of :
    List (List ℕ) → List (List ℕ) → List Formula → JoinOptions → List (List ℕ)
paired_names_of left right right_on options =
    left ++ map (suffixed_by left options.suffix)
    (filter (keeps_name (column_names right_on) options) right)

abbrev pub joined_names_of :
    List (List ℕ) → List (List ℕ) → List Formula → JoinOptions → List (List ℕ)
joined_names_of left right right_on options =
    if makes_pairs options.how then paired_names_of left right right_on options else left

abbrev pub function_names_of : FunctionIR → List (List ℕ) → List (List ℕ)
function_names_of (function.Unpivot on index variable value) input =
    index ++ variable ∷ value ∷ []
function_names_of (function.Rename pairs) input = map (renamed pairs) input

abbrev pub first_names_of : (ℕ → List (List ℕ)) → List ℕ → List (List ℕ)
first_names_of names [] = []
first_names_of names (i ∷ is) = names i

-- the names of a node's output
abbrev pub output_by : List Table → (ℕ → List (List ℕ)) → Node → List (List ℕ)
output_by frames names (node.DataFrameScan frame columns) =
    names_of (scan_fields (frame_at frames frame).schema columns)
output_by frames names (node.Filter input predicate) = names input
output_by frames names (node.SimpleProjection input columns) = columns
output_by frames names (node.Select input exprs) = map expr_name exprs
output_by frames names (node.HStack input exprs) = names input ++ fresh_names (names input) exprs
output_by frames names (node.MapFunction input function) = function_names_of function (names input)
output_by frames names (node.Union inputs) = first_names_of names inputs
output_by frames names (node.Join left right left_on right_on options) =
    joined_names_of (names left) (names right) right_on options
output_by frames names (node.Sort input by options) = names input

-- ---- needs

abbrev pub is_either : List (List ℕ) → List (List ℕ) → Names
is_either needed read name = has_name needed name || has_name read name

-- whether a name gets a needed one
abbrev pub is_needed_anew : List (List ℕ) → List RenamePair → Names
is_needed_anew needed pairs name = has_name needed (renamed pairs name)

-- whether a right column is needed: it is shown under a needed name, or a key reads it
abbrev pub right_needed :
    List (List ℕ) → List (List ℕ) → List (List ℕ) → List (List ℕ) → JoinOptions → Names
right_needed left keys read needed options name =
    makes_pairs options.how && keeps_name keys options name
    && has_name needed (suffixed_by left options.suffix name)
    || has_name read name

abbrev pub kept_right_of :
    List (List ℕ) → List (List ℕ) → List Formula → List (List ℕ) → JoinOptions
    → List (List ℕ)
kept_right_of left right right_on needed options =
    filter (right_needed left (column_names right_on) (keys_read right_on) needed options) right

abbrev pub kept_left_of :
    List (List ℕ) → List Formula → List (List ℕ) → List (List ℕ) → List (List ℕ)
kept_left_of left left_on needed right = filter (is_either needed (keys_read left_on ++ right)) left

abbrev pub kept_sorted_of :
    Option PlanSlice → List (List ℕ) → List (List ℕ) → List (List ℕ) → List (List ℕ)
kept_sorted_of None by needed names = filter (is_either needed by) names
kept_sorted_of (Some slice) by needed names = names

abbrev pub kept_function_of : FunctionIR → List (List ℕ) → List (List ℕ) → List (List ℕ)
kept_function_of (function.Unpivot on index variable value) needed names =
    filter (is_either on index) names
kept_function_of (function.Rename pairs) needed names = filter (is_needed_anew needed pairs) names

-- the columns that a node needs of an input, in their order
abbrev pub kept_by : (ℕ → List (List ℕ)) → Node → List (List ℕ) → ℕ → List (List ℕ)
kept_by names (node.DataFrameScan frame columns) needed i = []
kept_by names (node.Filter input predicate) needed i =
    filter (is_either needed (columns_in predicate)) (names i)
kept_by names (node.SimpleProjection input columns) needed i = filter (has_name needed) (names i)
kept_by names (node.Select input exprs) needed i =
    filter (has_name (columns_read (needed_exprs (has_name needed) exprs))) (names i)
kept_by names (node.HStack input exprs) needed i =
    filter (is_either needed (columns_read (needed_exprs (has_name needed) exprs))) (names i)
kept_by names (node.MapFunction input function) needed i =
    kept_function_of function needed (names i)
kept_by names (node.Union inputs) needed i = names i
kept_by names (node.Join left right left_on right_on options) needed i =
    let kept = kept_right_of (names left) (names right) right_on needed options in
    if i == left then kept_left_of (names left) left_on needed kept
    else kept_right_of (names left) (names i) right_on needed options
kept_by names (node.Sort input by options) needed i =
    kept_sorted_of options.slice by needed (names i)

-- the same, or the first where none is needed
abbrev pub need_by : (ℕ → List (List ℕ)) → Node → List (List ℕ) → ℕ → List (List ℕ)
need_by names x needed i = or_head (kept_by names x needed i) (names i)

-- ---- narrowed nodes

abbrev pub has_existing : List (List ℕ) → RenamePair → Bool
has_existing names pair = has_name names pair.existing

abbrev pub narrow_function_by : List (List ℕ) → FunctionIR → FunctionIR
narrow_function_by names (function.Unpivot on index variable value) =
    function.Unpivot on index variable value
narrow_function_by names (function.Rename pairs) =
    function.Rename (filter (has_existing names) pairs)

abbrev pub narrow_by : List Table → (ℕ → List (List ℕ)) → List (List ℕ) → Node → Node
narrow_by frames names needed (node.DataFrameScan frame columns) =
    node.DataFrameScan frame
    (Some (filter (has_name needed) (names_of (scan_fields (frame_at frames frame).schema columns))))
narrow_by frames names needed (node.Filter input predicate) = node.Filter input predicate
narrow_by frames names needed (node.SimpleProjection input columns) =
    node.SimpleProjection input (filter (has_name needed) columns)
narrow_by frames names needed (node.Select input exprs) =
    node.Select input (needed_exprs (has_name needed) exprs)
narrow_by frames names needed (node.HStack input exprs) =
    node.HStack input (needed_exprs (has_name needed) exprs)
narrow_by frames names needed (node.MapFunction input function) =
    node.MapFunction input (narrow_function_by (names input) function)
narrow_by frames names needed (node.Union inputs) = node.Union inputs
narrow_by frames names needed (node.Join left right left_on right_on options) =
    node.Join left right left_on right_on options
narrow_by frames names needed (node.Sort input by options) = node.Sort input by options
