-- The members of objects and the items of arrays, and what may stand at each.
use Rattle.std.specs.Prelude.{◌≡◌, ◌⊎◌, ℕ, zero, suc, List, [], ◌∷◌, map, codes, Bool, true, false, Option, Some, None, option_map, option_and_then, if◌then◌else◌}
use Rattle.std.specs.Borrow.{Bor}
use Rattle.std.specs.Option.{option_map_or, option_or}
use Rattle.std.specs.Str.{bytes_eq}
use Rattle.serde_json.specs.Data.{Data}
use Rattle.serde_json.specs.Find.{get}
use Rattle.pipe_schema.specs.declared.data_type.DataType.{DataType}
use Rattle.pipe_schema.specs.declared.data_type.DataType.TheVariants as dtype
use Rattle.pipe_job.specs.Shape.{text_in, type_named}
use Rattle.pipe_why_text.specs.declared.want.Foreign.TheVariants as foreign
use Rattle.pipe_why_text.specs.declared.want.Want.{Want}
use Rattle.pipe_why_text.specs.declared.want.Want.TheVariants as want

-- what may stand at the member of a name
abbrev pub want_in : List (List ℕ × Want) → List ℕ → Option Want
want_in [] name = None
want_in (m ∷ ms) name = if bytes_eq name m.0 then Some m.1 else want_in ms name

-- members of the code
abbrev pub plain : Bor (List ℕ) × Want → List ℕ × Want
plain m = (m.0.now, m.1)

abbrev pub members_in : List (Bor (List ℕ) × Want) → List (List ℕ × Want)
members_in ms = map plain ms

-- the table has the member
abbrev pub HasMember : List (List ℕ × Want) → List ℕ × Want → Type 0
HasMember [] m = ⊥
HasMember (n ∷ ns) m = (n ≡ m) ⊎ HasMember ns m

-- ---- objects

-- the frames, the plan and the numbers of a run
abbrev job_table : List (List ℕ × Want)
job_table =
    (codes "version", want.Version) ∷ (codes "workers", want.Whole32) ∷ (codes "chunk_rows", want.Whole32) ∷ (codes "row_limit", want.Whole32)
    ∷ (codes "frames", want.Frames) ∷ (codes "plan", want.Nodes) ∷ (codes "root", want.Whole32) ∷ []

abbrev reconciliation_table : List (List ℕ × Want)
reconciliation_table =
    (codes "version", want.Version) ∷ (codes "workers", want.Whole32) ∷ (codes "chunk_rows", want.Whole32) ∷ (codes "row_limit", want.Whole32)
    ∷ (codes "frames", want.Foreign foreign.TwoFrames) ∷ (codes "on", want.Texts) ∷ (codes "join_nulls", want.Truth) ∷ []

abbrev replay_table : List (List ℕ × Want)
replay_table =
    (codes "version", want.Version) ∷ (codes "row_limit", want.Whole32) ∷ (codes "frames", want.Foreign foreign.TwoFrames)
    ∷ (codes "join", want.Foreign foreign.KeptJoin) ∷ (codes "edits", want.Foreign foreign.Edits) ∷ []

-- the members of a join behind those that name its inputs
abbrev join_table : List (List ℕ × Want)
join_table =
    (codes "left_on", want.Exprs) ∷ (codes "right_on", want.Exprs) ∷ (codes "how", want.How) ∷ (codes "join_nulls", want.Truth)
    ∷ (codes "coalesce", want.Coalesce) ∷ (codes "suffix", want.Text) ∷ (codes "rows_left", want.Hint) ∷ (codes "rows_right", want.Hint) ∷ []

-- the members of an object that is no node and no expression, none of what is no object
abbrev pub object_table : Want → List (List ℕ × Want)
object_table want.Job = job_table
object_table (want.Foreign foreign.Reconciliation) = reconciliation_table
object_table (want.Foreign foreign.Replay) = replay_table
object_table (want.Foreign foreign.KeptJoin) =
    (codes "node", want.Foreign foreign.JoinWord) ∷ (codes "left", want.Foreign foreign.LeftTable) ∷ (codes "right", want.Foreign foreign.RightTable) ∷ join_table
object_table want.Frame = (codes "columns", want.Columns) ∷ []
object_table want.Column = (codes "name", want.Text) ∷ (codes "type", want.Type) ∷ (codes "values", want.Cells dtype.Int64) ∷ []
object_table want.Literal = (codes "type", want.Type) ∷ (codes "value", want.Cell dtype.Int64) ∷ []
object_table want.NamedExpr = (codes "name", want.Text) ∷ (codes "expr", want.Expr) ∷ []
object_table want.Pair = (codes "existing", want.Text) ∷ (codes "new", want.Text) ∷ []
object_table w = []

-- the members of a node that name its kind and its input, and more
abbrev over_input : List (List ℕ × Want) → List (List ℕ × Want)
over_input more = (codes "node", want.Kind) ∷ (codes "input", want.Whole32) ∷ more

-- the members of a node of a kind, the word of the kind alone where it is none
abbrev pub node_table : List ℕ → List (List ℕ × Want)
node_table kind =
    if bytes_eq kind (codes "DataFrameScan") then (codes "node", want.Kind) ∷ (codes "frame", want.Whole32) ∷ (codes "columns", want.MaybeTexts) ∷ []
    else if bytes_eq kind (codes "Filter") then over_input ((codes "predicate", want.Expr) ∷ [])
    else if bytes_eq kind (codes "SimpleProjection") then over_input ((codes "columns", want.Texts) ∷ [])
    else if bytes_eq kind (codes "Select") then over_input ((codes "exprs", want.NamedExprs) ∷ [])
    else if bytes_eq kind (codes "HStack") then over_input ((codes "exprs", want.NamedExprs) ∷ [])
    else if bytes_eq kind (codes "Unpivot") then over_input ((codes "on", want.Texts) ∷ (codes "index", want.Texts) ∷ (codes "variable", want.Text) ∷ (codes "value", want.Text) ∷ [])
    else if bytes_eq kind (codes "Rename") then over_input ((codes "pairs", want.Pairs) ∷ [])
    else if bytes_eq kind (codes "Union") then (codes "node", want.Kind) ∷ (codes "inputs", want.Numbers) ∷ []
    else if bytes_eq kind (codes "Join") then (codes "node", want.Kind) ∷ (codes "left", want.Whole32) ∷ (codes "right", want.Whole32) ∷ join_table
    else if bytes_eq kind (codes "Sort")
    then over_input ((codes "by", want.Texts) ∷ (codes "descending", want.Truths) ∷ (codes "nulls_last", want.Truths) ∷ (codes "slice", want.Slice) ∷ [])
    else (codes "node", want.Kind) ∷ []

-- the one member of an expression
abbrev pub form_table : List (List ℕ × Want)
form_table =
    (codes "col", want.Text) ∷ (codes "lit", want.Literal) ∷ (codes "not", want.Expr) ∷ (codes "is_null", want.Expr) ∷ (codes "is_not_null", want.Expr)
    ∷ (codes "add", want.Sides) ∷ (codes "sub", want.Sides) ∷ (codes "mul", want.Sides) ∷ (codes "eq", want.Sides) ∷ (codes "not_eq", want.Sides)
    ∷ (codes "lt", want.Sides) ∷ (codes "lt_eq", want.Sides) ∷ (codes "gt", want.Sides) ∷ (codes "gt_eq", want.Sides) ∷ (codes "and", want.Sides)
    ∷ (codes "or", want.Sides) ∷ []

-- the members that an object may have of which something is wanted, by the word of its kind where it is a node
abbrev pub table_of : Want → List ℕ → List (List ℕ × Want)
table_of want.Node kind = node_table kind
table_of want.Expr kind = form_table
table_of w kind = object_table w

abbrev pub members_of : Want → Data → List (List ℕ × Want)
members_of w d = table_of w (text_in (get (codes "node") d))

-- the type that an object tells
abbrev pub type_of : Data → Option DataType
type_of d = type_named (text_in (get (codes "type") d))

-- what may stand at a member beside which this type is told: cells of that type, and nothing of cells where none is told
abbrev pub beside : Option DataType → Want → Option Want
beside t (want.Cells u) = option_map want.Cells t
beside t (want.Cell u) = option_map want.Cell t
beside t w = Some w

-- what may stand at the member of a name, where such a member may be there
abbrev pub member_wanted : Want → Data → List ℕ → Option Want
member_wanted w d name = option_and_then (beside (type_of d)) (want_in (members_of w d) name)

-- ---- arrays

-- what each item of a list may be, none of what is no list
abbrev pub list_item : Want → Option Want
list_item want.Frames = Some want.Frame
list_item want.Columns = Some want.Column
list_item (want.Cells t) = Some (want.Cell t)
list_item want.Nodes = Some want.Node
list_item want.Texts = Some want.Text
list_item want.MaybeTexts = Some want.Text
list_item want.Truths = Some want.Truth
list_item want.Numbers = Some want.Whole32
list_item want.Exprs = Some want.Expr
list_item want.NamedExprs = Some want.NamedExpr
list_item want.Pairs = Some want.Pair
list_item (want.Foreign foreign.Edits) = Some (want.Foreign foreign.Edit)
list_item w = None

-- what the two items of an array of two may be, none of what is no such array
abbrev pub couple_items : Want → Option (Want × Want)
couple_items want.Sides = Some (want.Expr, want.Expr)
couple_items (want.Foreign foreign.TwoFrames) = Some (want.Frame, want.Frame)
couple_items want.Hint = Some (want.MaybeWhole64, want.Whole64)
couple_items want.Slice = Some (want.Signed64, want.Whole64)
couple_items w = None

abbrev pub couple_at : ℕ → Want × Want → Option Want
couple_at zero p = Some p.0
couple_at (suc zero) p = Some p.1
couple_at (suc (suc i)) p = None

-- whether an edit is wanted
abbrev pub is_edit : Want → Bool
is_edit (want.Foreign foreign.Edit) = true
is_edit w = false

-- what the three parts of an edit may be
abbrev pub edit_part : ℕ → Option Want
edit_part zero = Some (want.Foreign foreign.Side)
edit_part (suc zero) = Some (want.Foreign foreign.Word)
edit_part (suc (suc zero)) = Some (want.Foreign foreign.Row)
edit_part (suc (suc (suc i))) = None

-- what may stand at an item of what is no array of two
abbrev pub plain_item : Want → ℕ → Option Want
plain_item w i = option_or (list_item w) (if is_edit w then edit_part i else None)

-- what may stand at an item
abbrev pub item_wanted : Want → ℕ → Option Want
item_wanted w i = option_map_or (couple_at i) (couple_items w) (plain_item w i)
