-- The faults of a plan: at each node the least of the errors that stand there, in the order of their
-- numbers; and of the nodes under the root that have one, the least node's. (Where polars-pipe panics
-- or looks at nothing, a fault is told here.)
use Rattle.std.specs.Prelude.{◌≡◌, ◌≤◌, ℕ, pos, negsuc, List, [], ◌∷◌, ◌++◌, Bool, true, false, not, ◌==◌, ◌&&◌, ◌||◌, nat_lt, nat_le, if◌then◌else◌, Option, Some, None, length, map, is_none}
use Rattle.std.specs.List.{flat_map, list_any, list_all, range_with_len}
use Rattle.std.specs.Str.{bytes_eq}
use Rattle.std.specs.Cmp.Lexicographic.{pointwise}
use Rattle.pipe_schema.specs.Cell.{eq_dtype}
use Rattle.pipe_frame.specs.Frame.{Table}
use Rattle.pipe_schema.specs.Schema.{names_of, first_repeated, first_unknown}
use Rattle.pipe_schema.specs.declared.data_type.DataType.{DataType}
use Rattle.pipe_schema.specs.declared.data_type.DataType.TheVariants as dtype
use Rattle.pipe_schema.specs.declared.field.Field.{Field}
use Rattle.pipe_expr.specs.Formula.{Formula, Column, NamedFormula}
use Rattle.pipe_expr.specs.Types.{type_of, type_of_column, columns_in}
use Rattle.pipe_expr.specs.Joins.{coalesces, column_names}
use Rattle.pipe_expr.specs.Projections.{expr_name}
use Rattle.pipe_expr.specs.declared.join_words.RenamePair.{RenamePair}
use Rattle.pipe_expr.specs.declared.join_words.FunctionIR.{FunctionIR}
use Rattle.pipe_expr.specs.declared.join_words.FunctionIR.TheVariants as function
use Rattle.pipe_expr.specs.declared.join_words.JoinType.{JoinType}
use Rattle.pipe_expr.specs.declared.join_words.JoinType.TheVariants as how
use Rattle.pipe_plan.specs.Node.{Node}
use Rattle.pipe_plan.specs.Node as node
use Rattle.pipe_plan.specs.Plan.{Plan}
use Rattle.pipe_plan.specs.Under.{inputs_of, node_at, is_under}
use Rattle.pipe_plan.specs.Schemas.{frame_at, node_schema, schemas_to}
use Rattle.pipe_plan.specs.declared.error.PipeError.{PipeError}
use Rattle.pipe_plan.specs.declared.error.PipeError.TheVariants as error
use Rattle.pipe_plan.specs.declared.ir.PlanSlice.{PlanSlice}

-- the first that is there
abbrev pub or_else : {X : Type 0} → Option X → Option X → Option X
or_else (Some x) other = Some x
or_else None other = other

abbrev pub is_empty : {X : Type 0} → List X → Bool
is_empty [] = true
is_empty (x ∷ xs) = false

-- ---- BadNode

abbrev pub repeats : List ℕ → Bool
repeats [] = false
repeats (n ∷ ns) = list_any (λ m. m == n) ns || repeats ns

-- whether a node has an input
abbrev pub has_input : List Node → ℕ → ℕ → Bool
has_input nodes input n = list_any (λ i. i == input) (inputs_of (node_at nodes n))

-- whether a node is under the root and has an input
abbrev pub is_reader : List Node → ℕ → ℕ → ℕ → Bool
is_reader nodes root input n = is_under nodes root n && has_input nodes input n

-- whether a smaller node under the root has the input too
abbrev pub is_read_below : List Node → ℕ → ℕ → ℕ → Bool
is_read_below nodes root n input = list_any (is_reader nodes root input) (range_with_len 0 n)

abbrev pub names_nothing : Option (List (List ℕ)) → Bool
names_nothing None = false
names_nothing (Some names) = is_empty names

abbrev pub is_void_function : FunctionIR → Bool
is_void_function (function.Unpivot on index variable value) = is_empty on
is_void_function (function.Rename pairs) = false

-- a scan of no frame, a union of nothing, an output without columns, an unpivot of no column
abbrev pub is_void : List Table → Node → Bool
is_void frames (node.DataFrameScan frame columns) =
    nat_le (length frames) frame || names_nothing columns
is_void frames (node.Filter input predicate) = false
is_void frames (node.SimpleProjection input columns) = is_empty columns
is_void frames (node.Select input exprs) = is_empty exprs
is_void frames (node.HStack input exprs) = false
is_void frames (node.MapFunction input function) = is_void_function function
is_void frames (node.Union inputs) = is_empty inputs
is_void frames (node.Join left right left_on right_on options) = false
is_void frames (node.Sort input by options) = false

-- an input isn't smaller, stands twice, or is read by a smaller node; or the node is void
abbrev pub is_bad_node : Plan → ℕ → ℕ → Bool
is_bad_node plan root n =
    let x = node_at plan.nodes n in
    let inputs = inputs_of x in
    list_any (nat_le n) inputs || repeats inputs
    || list_any (is_read_below plan.nodes root n) inputs || is_void plan.frames x

-- ---- UnknownColumn

abbrev pub expr_columns : NamedFormula → List (List ℕ)
expr_columns e = columns_in e.formula

abbrev pub existing_of : RenamePair → List ℕ
existing_of pair = pair.existing

abbrev pub function_names : FunctionIR → List (List ℕ)
function_names (function.Unpivot on index variable value) = on ++ index
function_names (function.Rename pairs) = map existing_of pairs

abbrev pub unknown_scanned : List Field → Option (List (List ℕ)) → Option (List ℕ)
unknown_scanned schema None = None
unknown_scanned schema (Some names) = first_unknown schema names

-- the first name read in a node, in the order of its members, that its input lacks
abbrev pub unknown_in : List Table → (ℕ → List Field) → Node → Option (List ℕ)
unknown_in frames schema (node.DataFrameScan frame columns) =
    unknown_scanned (frame_at frames frame).schema columns
unknown_in frames schema (node.Filter input predicate) =
    first_unknown (schema input) (columns_in predicate)
unknown_in frames schema (node.SimpleProjection input columns) =
    first_unknown (schema input) columns
unknown_in frames schema (node.Select input exprs) =
    first_unknown (schema input) (flat_map expr_columns exprs)
unknown_in frames schema (node.HStack input exprs) =
    first_unknown (schema input) (flat_map expr_columns exprs)
unknown_in frames schema (node.MapFunction input function) =
    first_unknown (schema input) (function_names function)
unknown_in frames schema (node.Union inputs) = None
unknown_in frames schema (node.Join left right left_on right_on options) =
    or_else (first_unknown (schema left) (flat_map columns_in left_on))
    (first_unknown (schema right) (flat_map columns_in right_on))
unknown_in frames schema (node.Sort input by options) = first_unknown (schema input) by

-- ---- DuplicateName

abbrev pub once_named : FunctionIR → List (List ℕ)
once_named (function.Unpivot on index variable value) = on
once_named (function.Rename pairs) = map existing_of pairs

-- names that a node may name but once
abbrev pub once_names : Node → List (List ℕ)
once_names (node.DataFrameScan frame columns) = []
once_names (node.Filter input predicate) = []
once_names (node.SimpleProjection input columns) = []
once_names (node.Select input exprs) = []
once_names (node.HStack input exprs) = map expr_name exprs
once_names (node.MapFunction input function) = once_named function
once_names (node.Union inputs) = []
once_names (node.Join left right left_on right_on options) = []
once_names (node.Sort input by options) = []

-- the first output name that stands twice, else the first of those that a node may name but once
abbrev pub duplicate_in : List Table → (ℕ → List Field) → Node → Option (List ℕ)
duplicate_in frames schema x =
    or_else (first_repeated (names_of (node_schema frames schema x)))
    (first_repeated (once_names x))

-- ---- TypeMismatch

abbrev pub has_no_type : List Field → Formula → Bool
has_no_type schema formula = is_none (type_of formula schema)

abbrev pub is_named_untyped : List Field → NamedFormula → Bool
is_named_untyped schema e = has_no_type schema e.formula

abbrev pub eq_types : Option DataType → Option DataType → Bool
eq_types (Some a) (Some b) = eq_dtype a b
eq_types _ _ = false

-- key pairs, taken in turn as far as both lists go, of which one differs in type
abbrev pub keys_differ : List Field → List Field → List Formula → List Formula → Bool
keys_differ left right (l ∷ left_on) (r ∷ right_on) =
    not (eq_types (type_of l left) (type_of r right)) || keys_differ left right left_on right_on
keys_differ left right _ _ = false

-- keys without a type, or of different types
abbrev pub keys_mistyped : List Field → List Field → List Formula → List Formula → Bool
keys_mistyped left right left_on right_on =
    list_any (has_no_type left) left_on || list_any (has_no_type right) right_on
    || keys_differ left right left_on right_on

abbrev pub eq_field : Field → Field → Bool
eq_field a b = bytes_eq a.name b.name && eq_dtype a.dtype b.dtype

abbrev pub inputs_differ : (ℕ → List Field) → List ℕ → Bool
inputs_differ schema [] = false
inputs_differ schema (input ∷ inputs) =
    list_any (λ i. not (pointwise eq_field (schema input) (schema i))) inputs

abbrev pub on_differ : List Field → List (List ℕ) → Bool
on_differ schema [] = false
on_differ schema (name ∷ names) =
    list_any (λ n. not (eq_types (type_of_column name schema) (type_of_column n schema))) names

abbrev pub is_mistyped_function : List Field → FunctionIR → Bool
is_mistyped_function schema (function.Unpivot on index variable value) = on_differ schema on
is_mistyped_function schema (function.Rename pairs) = false

abbrev pub is_mistyped : (ℕ → List Field) → Node → Bool
is_mistyped schema (node.DataFrameScan frame columns) = false
is_mistyped schema (node.Filter input predicate) =
    not (eq_types (type_of predicate (schema input)) (Some dtype.Boolean))
is_mistyped schema (node.SimpleProjection input columns) = false
is_mistyped schema (node.Select input exprs) = list_any (is_named_untyped (schema input)) exprs
is_mistyped schema (node.HStack input exprs) = list_any (is_named_untyped (schema input)) exprs
is_mistyped schema (node.MapFunction input function) = is_mistyped_function (schema input) function
is_mistyped schema (node.Union inputs) = inputs_differ schema inputs
is_mistyped schema (node.Join left right left_on right_on options) =
    keys_mistyped (schema left) (schema right) left_on right_on
is_mistyped schema (node.Sort input by options) = false

-- ---- BadJoin

abbrev pub is_column : Formula → Bool
is_column (Column name) = true
is_column _ = false

abbrev pub repeats_name : List (List ℕ) → Bool
repeats_name names = not (is_none (first_repeated names))

-- counts of keys that a kind of join may not have
abbrev pub bad_counts : JoinType → ℕ → ℕ → Bool
bad_counts how.Inner left right = (left == 0) || not (left == right)
bad_counts how.Left left right = (left == 0) || not (left == right)
bad_counts how.Full left right = (left == 0) || not (left == right)
bad_counts how.Cross left right = not ((left == 0) && (right == 0))
bad_counts how.Semi left right = (left == 0) || not (left == right)
bad_counts how.Anti left right = (left == 0) || not (left == right)

-- the keys of one side of a join that coalesces: plain columns, each once
abbrev pub are_plain : List Formula → Bool
are_plain on = list_all is_column on && not (repeats_name (column_names on))

abbrev pub is_bad_join : Node → Bool
is_bad_join (node.DataFrameScan frame columns) = false
is_bad_join (node.Filter input predicate) = false
is_bad_join (node.SimpleProjection input columns) = false
is_bad_join (node.Select input exprs) = false
is_bad_join (node.HStack input exprs) = false
is_bad_join (node.MapFunction input function) = false
is_bad_join (node.Union inputs) = false
is_bad_join (node.Join left right left_on right_on options) =
    bad_counts options.how (length left_on) (length right_on)
    || (coalesces options.how options.coalesce && not (are_plain left_on && are_plain right_on))
is_bad_join (node.Sort input by options) = false

-- ---- BadSort

-- one flag, or as many as keys
abbrev pub are_flags : ℕ → List Bool → Bool
are_flags keys flags = (length flags == 1) || (length flags == keys)

abbrev pub is_negative : Option PlanSlice → Bool
is_negative None = false
is_negative (Some slice) = elim slice.offset [ pos n ↦ false | negsuc n ↦ true ]

abbrev pub is_bad_sort : Node → Bool
is_bad_sort (node.DataFrameScan frame columns) = false
is_bad_sort (node.Filter input predicate) = false
is_bad_sort (node.SimpleProjection input columns) = false
is_bad_sort (node.Select input exprs) = false
is_bad_sort (node.HStack input exprs) = false
is_bad_sort (node.MapFunction input function) = false
is_bad_sort (node.Union inputs) = false
is_bad_sort (node.Join left right left_on right_on options) = false
is_bad_sort (node.Sort input by options) =
    is_empty by || repeats_name by || not (are_flags (length by) options.descending)
    || not (are_flags (length by) options.nulls_last) || is_negative options.slice

-- ---- the fault of a node, and of a plan

abbrev pub told : Bool → PipeError → Option PipeError
told holds e = if holds then Some e else None

abbrev pub told_name : (List ℕ → PipeError) → Option (List ℕ) → Option PipeError
told_name e None = None
told_name e (Some name) = Some (e name)

-- the least error at a node
abbrev pub fault_at : Plan → ℕ → ℕ → Option PipeError
fault_at plan root n =
    let x = node_at plan.nodes n in
    let schema = schemas_to plan n in
    or_else (told (is_bad_node plan root n) (error.BadNode n))
    (or_else (told_name (error.UnknownColumn n) (unknown_in plan.frames schema x))
    (or_else (told_name (error.DuplicateName n) (duplicate_in plan.frames schema x))
    (or_else (told (is_mistyped schema x) (error.TypeMismatch n))
    (or_else (told (is_bad_join x) (error.BadJoin n))
    (told (is_bad_sort x) (error.BadSort n))))))

-- the fault of a node if it is under the root
abbrev pub fault_under : Plan → ℕ → ℕ → Option PipeError
fault_under plan root n = if is_under plan.nodes root n then fault_at plan root n else None

-- the fault of the least of some nodes under the root that has one
abbrev pub first_fault : Plan → ℕ → List ℕ → Option PipeError
first_fault plan root [] = None
first_fault plan root (n ∷ ns) = or_else (fault_under plan root n) (first_fault plan root ns)

-- the fault of a plan: BadNode of a root that the plan doesn't have, else that of the least node
abbrev pub plan_fault : Plan → ℕ → Option PipeError
plan_fault plan root =
    let nodes = length plan.nodes in
    if nat_lt root nodes then first_fault plan root (range_with_len 0 nodes)
    else Some (error.BadNode root)

-- how many nodes a plan may have
abbrev pub most_nodes : ℕ
most_nodes = 4096

-- a plan that may be run
pub record IsWellFormed (plan : Plan) (root : ℕ) : Type 0 where
  pub few : length plan.nodes ≤ most_nodes
  pub faultless : plan_fault plan root ≡ None
