-- How the rows of a node are wished to lie in the parts of a plan, and what that asks of its inputs
-- (relational algebra: which operators commute with a union of disjoint parts).
use Rattle.std.specs.Prelude.{ℕ, List, [], ◌∷◌, ◌++◌, Bool, ◌&&◌, if◌then◌else◌, Option, Some, None, map}
use Rattle.std.specs.List.{list_all}
use Rattle.std.specs.Str.{bytes_eq}
use Rattle.std.specs.Cmp.Lexicographic.{pointwise}
use Rattle.pipe_schema.specs.Schema.{has_name, names_of}
use Rattle.pipe_schema.specs.declared.field.Field.{Field}
use Rattle.pipe_expr.specs.Formula.{Formula, NamedFormula}
use Rattle.pipe_expr.specs.Projections.{expr_named}
use Rattle.pipe_expr.specs.Joins.{column_names}
use Rattle.pipe_expr.specs.declared.join_words.FunctionIR.{FunctionIR}
use Rattle.pipe_expr.specs.declared.join_words.FunctionIR.TheVariants as function
use Rattle.pipe_expr.specs.declared.join_words.JoinType.{JoinType}
use Rattle.pipe_expr.specs.declared.join_words.JoinType.TheVariants as how
use Rattle.pipe_plan.specs.Node.{Node}
use Rattle.pipe_plan.specs.Node as node
use Rattle.pipe_plan.specs.Faults.{is_column}
use Rattle.pipe_plan.specs.declared.ir.PlanSlice.{PlanSlice}
use Rattle.pipe_rules.specs.Placing.{column_of, plain_column, old_name}
use Rattle.pipe_parts.specs.declared.wish.Wish.{Wish}
use Rattle.pipe_parts.specs.declared.wish.Wish.TheVariants.{Split, Key, Whole}

-- ---- columns of a key, below a node

abbrev pub name_if : Bool → List ℕ → Option (List ℕ)
name_if there name = if there then Some name else None

-- under no new expression's name, the input's own column
abbrev pub stacked_below : List ℕ → Option NamedFormula → Option (List ℕ)
stacked_below name None = Some name
stacked_below name (Some e) = column_of e.formula

abbrev pub function_below : List Field → FunctionIR → List ℕ → Option (List ℕ)
function_below input (function.Unpivot on index variable value) name =
    name_if (has_name index name) name
function_below input (function.Rename pairs) name = Some (old_name pairs input name)

-- The column of a node's first input that stands under a name of the node's output, if a plain
-- column does. Under `d`: `k` below a Rename of k to d, `k` below a Select of d = col k, `d` below an
-- HStack of other columns, none below a Select of d = k + 1.
abbrev pub column_below : List Field → Node → List ℕ → Option (List ℕ)
column_below input (node.DataFrameScan frame columns) name = None
column_below input (node.Filter below predicate) name = Some name
column_below input (node.SimpleProjection below columns) name = Some name
column_below input (node.Select below exprs) name = plain_column exprs name
column_below input (node.HStack below exprs) name = stacked_below name (expr_named exprs name)
column_below input (node.MapFunction below function) name = function_below input function name
column_below input (node.Union inputs) name = Some name
column_below input (node.Join left right left_on right_on options) name =
    name_if (has_name (names_of input) name) name
column_below input (node.Sort below by options) name = Some name

abbrev pub name_before : Option (List ℕ) → Option (List (List ℕ)) → Option (List (List ℕ))
name_before None names = None
name_before (Some name) None = None
name_before (Some name) (Some names) = Some (name ∷ names)

-- the columns below some columns, where each is plain there
abbrev pub columns_below : List Field → Node → List (List ℕ) → Option (List (List ℕ))
columns_below input x [] = Some []
columns_below input x (name ∷ names) =
    name_before (column_below input x name) (columns_below input x names)

-- ---- one input

abbrev pub key_by : ℕ → Option (List (List ℕ)) → List Wish
key_by key None = []
key_by key (Some columns) = Key key columns ∷ []

-- What the first input is asked where the node's rows are its rows, one by one: the same, a key by the
-- columns below; nothing can be asked where a column of the key isn't plain below.
abbrev pub wishes_below : List Field → Node → Wish → List Wish
wishes_below input x Split = Split ∷ []
wishes_below input x (Key key columns) = key_by key (columns_below input x columns)
wishes_below input x Whole = Whole ∷ []

abbrev pub alone : Wish → List Wish
alone wish = wish ∷ []

-- ---- several inputs

abbrev pub alike : Wish → List ℕ → List Wish
alike wish [] = []
alike wish (n ∷ ns) = wish ∷ alike wish ns

-- ---- joins

-- the left side as wished, and the whole right side with each part of it
abbrev pub beside_whole : Wish → List Wish
beside_whole wish = wish ∷ Whole ∷ []

abbrev pub same_names : List (List ℕ) → List (List ℕ) → Bool
same_names a b = pointwise bytes_eq a b

-- both sides cut by the join's keys, where all of these are plain columns: rows that match lie in
-- one part
abbrev pub by_key : ℕ → List Formula → List Formula → List (List Wish)
by_key key left_on right_on =
    if list_all is_column left_on && list_all is_column right_on
    then (Key key (column_names left_on) ∷ Key key (column_names right_on) ∷ []) ∷ [] else []

abbrev pub split_ways : JoinType → List (List Wish) → List (List Wish)
split_ways how.Inner keyed = (Split ∷ Whole ∷ []) ∷ (Whole ∷ Split ∷ []) ∷ keyed
split_ways how.Left keyed = (Split ∷ Whole ∷ []) ∷ keyed
split_ways how.Full keyed = keyed
split_ways how.Cross keyed = (Split ∷ Whole ∷ []) ∷ (Whole ∷ Split ∷ []) ∷ []
split_ways how.Semi keyed = (Split ∷ Whole ∷ []) ∷ keyed
split_ways how.Anti keyed = (Split ∷ Whole ∷ []) ∷ keyed

-- both sides by a key that comes from above, where its columns are the join's left keys
abbrev pub keyed_on : ℕ → List (List ℕ) → List Formula → List Formula → List (List Wish)
keyed_on key columns left_on right_on =
    if same_names columns (column_names left_on) then by_key key left_on right_on else []

abbrev pub key_ways : JoinType → (left keyed : List (List Wish)) → List (List Wish)
key_ways how.Inner left keyed = left ++ keyed
key_ways how.Left left keyed = left ++ keyed
key_ways how.Full left keyed = []
key_ways how.Cross left keyed = left
key_ways how.Semi left keyed = left ++ keyed
key_ways how.Anti left keyed = left ++ keyed

-- An inner join of orders and customers on customer = id, wished Split: orders Split beside all
-- customers, or all orders beside customers Split, or both by the keys. A full join: by the keys alone.
abbrev pub join_ways : JoinType → ℕ → List Formula → List Formula → List Wish → Wish → List (List Wish)
join_ways how n left_on right_on below Split = split_ways how (by_key n left_on right_on)
join_ways how n left_on right_on below (Key key columns) =
    key_ways how (map beside_whole below) (keyed_on key columns left_on right_on)
join_ways how n left_on right_on below Whole = (Whole ∷ Whole ∷ []) ∷ []

-- ---- sorts

-- a slice is taken of all rows, so all have to be there
abbrev pub slice_ways : Option PlanSlice → Wish → List (List Wish)
slice_ways None wish = alone wish ∷ []
slice_ways (Some slice) Split = []
slice_ways (Some slice) (Key key columns) = []
slice_ways (Some slice) Whole = alone Whole ∷ []

-- ---- a node

-- The ways in which node n can be had as wished, over the schema of its first input: each way is a
-- wish for each input, in order. A scan asks nothing. A filter wished Split: one way, Split. A sort
-- with a slice wished Split: no way.
abbrev pub ways : List Field → ℕ → Node → Wish → List (List Wish)
ways input n (node.DataFrameScan frame columns) wish = [] ∷ []
ways input n (node.Filter below predicate) wish =
    map alone (wishes_below input (node.Filter below predicate) wish)
ways input n (node.SimpleProjection below columns) wish =
    map alone (wishes_below input (node.SimpleProjection below columns) wish)
ways input n (node.Select below exprs) wish =
    map alone (wishes_below input (node.Select below exprs) wish)
ways input n (node.HStack below exprs) wish =
    map alone (wishes_below input (node.HStack below exprs) wish)
ways input n (node.MapFunction below function) wish =
    map alone (wishes_below input (node.MapFunction below function) wish)
ways input n (node.Union inputs) wish = alike wish inputs ∷ []
ways input n (node.Join left right left_on right_on options) wish =
    let below = wishes_below input (node.Join left right left_on right_on options) wish in
    join_ways options.how n left_on right_on below wish
ways input n (node.Sort below by options) wish = slice_ways options.slice wish
