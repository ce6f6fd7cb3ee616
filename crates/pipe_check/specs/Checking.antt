-- What the check of a plan keeps while it goes upwards.
use Rattle.std.specs.Prelude.{◌≡◌, ℕ, ◌∷◌, ◌==◌, zero, suc, List, [], Bool, false, ◌&&◌, ◌||◌, nat_le, Option, slice_index_or}
use Rattle.std.specs.List.{list_any}
use Rattle.pipe_frame.specs.Frame.{Table}
use Rattle.pipe_schema.specs.declared.field.Field.{Field}
use Rattle.pipe_plan.specs.Node.{Node}
use Rattle.pipe_plan.specs.Node as node
use Rattle.pipe_plan.specs.Under.{inputs_of, is_under}
use Rattle.pipe_plan.specs.Schemas.{frame_at, node_schema}
use Rattle.pipe_plan.specs.Faults.{is_empty, repeats, is_void, or_else, told, told_name, unknown_in, duplicate_in, is_mistyped, is_bad_join, is_bad_sort}
use Rattle.pipe_plan.specs.declared.error.PipeError.{PipeError}
use Rattle.pipe_plan.specs.declared.error.PipeError.TheVariants as error
use Rattle.pipe_check.specs.Kept.{kept_schema}

-- the schema that is kept for a node, none for one that isn't under the root
abbrev pub Kept : Type 0
Kept = Option (List Field)

-- whether a node is marked
abbrev pub is_marked : List Bool → ℕ → Bool
is_marked marks n = slice_index_or marks n false

-- whether a node is marked, or under a marked node that is smaller than k
abbrev pub is_found : List Node → List Bool → ℕ → ℕ → Bool
is_found nodes marks n zero = is_marked marks n
is_found nodes marks n (suc k) =
    is_found nodes marks n k || (is_marked marks k && is_under nodes k n)

-- whether an input isn't smaller than its node, stands twice, or is marked as read
abbrev pub is_misread : List Bool → ℕ → List ℕ → Bool
is_misread read n inputs =
    list_any (nat_le n) inputs || repeats inputs || list_any (is_marked read) inputs

-- some nodes have schemas with a column
abbrev pub AreFull : (ℕ → List Field) → List ℕ → Type 0
AreFull schema [] = Unit {0}
AreFull schema (n ∷ ns) = (is_empty (schema n) ≡ false) × AreFull schema ns

-- the frame of a scan has a column
abbrev pub IsFrameFull : List Table → Node → Type 0
IsFrameFull frames (node.DataFrameScan frame columns) =
    is_empty (frame_at frames frame).schema ≡ false
IsFrameFull frames (node.Filter input predicate) = Unit {0}
IsFrameFull frames (node.SimpleProjection input columns) = Unit {0}
IsFrameFull frames (node.Select input exprs) = Unit {0}
IsFrameFull frames (node.HStack input exprs) = Unit {0}
IsFrameFull frames (node.MapFunction input function) = Unit {0}
IsFrameFull frames (node.Union inputs) = Unit {0}
IsFrameFull frames (node.Join left right left_on right_on options) = Unit {0}
IsFrameFull frames (node.Sort input by options) = Unit {0}

-- the least error at a node, whether it is a bad node being known
abbrev pub fault_with : Bool → List Table → (ℕ → List Field) → ℕ → Node → Option PipeError
fault_with bad frames schema n x =
    or_else (told bad (error.BadNode n))
    (or_else (told_name (error.UnknownColumn n) (unknown_in frames schema x))
    (or_else (told_name (error.DuplicateName n) (duplicate_in frames schema x))
    (or_else (told (is_mistyped schema x) (error.TypeMismatch n))
    (or_else (told (is_bad_join x) (error.BadJoin n))
    (told (is_bad_sort x) (error.BadSort n))))))

-- whether a node is a bad one, by the marks of the inputs that smaller nodes read
abbrev pub is_bad_by : List Bool → List Table → ℕ → Node → Bool
is_bad_by read frames n x = is_misread read n (inputs_of x) || is_void frames x

-- the least error at a node, by the marks of what was read and the schemas that are kept
abbrev pub fault_by : List Bool → List Table → List Kept → ℕ → Node → Option PipeError
fault_by read frames schemas n x =
    fault_with (is_bad_by read frames n x) frames (kept_schema schemas) n x

-- the output schema of a node, over the schemas that are kept
abbrev pub made_schema : List Table → List Kept → Node → List Field
made_schema frames schemas x = node_schema frames (kept_schema schemas) x

-- whether an input is marked as read once a node has read its inputs
abbrev pub is_read_after : List Bool → List ℕ → ℕ → Bool
is_read_after read inputs i = is_marked read i || list_any (λ m. m == i) inputs

-- the same where the node is under the root, and what was marked where it isn't
abbrev pub is_read_under : Bool → List Bool → List ℕ → ℕ → Bool
is_read_under under read inputs i = is_marked read i || (under && list_any (λ m. m == i) inputs)

-- the inputs of a node have columns, where the node isn't a bad one
abbrev pub AreInputsFull : List Bool → List Table → (ℕ → List Field) → ℕ → Node → Type 0
AreInputsFull read frames schema n x =
    is_bad_by read frames n x ≡ false → AreFull schema (inputs_of x)

-- the marks are those of before, and of what a node reads that is under the root
abbrev pub AreRead : Bool → List Bool → List Bool → Node → Type 0
AreRead under old new x = (i : ℕ) → is_marked new i ≡ is_read_under under old (inputs_of x) i
