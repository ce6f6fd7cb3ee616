-- Schemas have a column, and so has the output of a node that isn't void.
use Rattle.std.proofs.Common.{◌≡◌, ℕ, Bool, true, false, List, [], ◌∷◌, ◌++◌, Option, Some, None, map, cond, length, refl}
use Rattle.std.specs.Prelude.{◌||◌, nat_le, option_map}
use Rattle.pipe_frame.specs.Frame.{Table}
use Rattle.pipe_schema.specs.Schema.{IsSchema, first_repeated, names_of}
use Rattle.pipe_schema.specs.declared.error.FrameError.TheVariants as fault
use Rattle.pipe_schema.specs.declared.field.Field.{Field}
use Rattle.pipe_expr.specs.Joins.{makes_pairs}
use Rattle.pipe_expr.specs.declared.join_words.FunctionIR.{FunctionIR}
use Rattle.pipe_expr.specs.declared.join_words.FunctionIR.TheVariants as function
use Rattle.pipe_expr.specs.Projections.{function_fields}
use Rattle.pipe_plan.specs.Node.{Node}
use Rattle.pipe_plan.specs.Node as node
use Rattle.pipe_plan.specs.Under.{inputs_of}
use Rattle.pipe_plan.specs.Schemas.{node_schema}
use Rattle.pipe_plan.specs.Faults.{is_empty, is_void}
use Rattle.pipe_check.specs.Checking.{AreFull, IsFrameFull, is_misread, is_bad_by}

pub schema_full : (fields : List Field) → IsSchema fields → is_empty fields ≡ false
schema_full [] good = cc
schema_full (x ∷ xs) good = refl

map-full : {A B : Type 0} (f : A → B) (xs : List A) → is_empty xs ≡ false → is_empty (map f xs) ≡ false
map-full f [] e = cc
map-full f (x ∷ xs) e = refl

append-full : {A : Type 0} (xs ys : List A) → is_empty xs ≡ false → is_empty (xs ++ ys) ≡ false
append-full [] ys e = cc
append-full (x ∷ xs) ys e = refl

append-full-right : {A : Type 0} (xs : List A) (y : A) (ys : List A) → is_empty (xs ++ y ∷ ys) ≡ false
append-full-right [] y ys = refl
append-full-right (x ∷ xs) y ys = refl

function-full : (f : FunctionIR) (schema : List Field) → is_empty schema ≡ false → is_empty (function_fields f schema) ≡ false
function-full (function.Unpivot on index variable value) schema full = append-full-right _ _ _
function-full (function.Rename pairs) schema full = map-full _ schema full

no-or-right : (a b : Bool) → (a || b) ≡ false → b ≡ false
no-or-right true b e = cc
no-or-right false b e = e

pub node_full : (frames : List Table) (s : ℕ → List Field) (x : Node) → is_void frames x ≡ false → IsFrameFull frames x → AreFull s (inputs_of x) → is_empty (node_schema frames s x) ≡ false
node_full frames s (node.DataFrameScan frame None) void f a = f
node_full frames s (node.DataFrameScan frame (Some names)) void f a = map-full _ names (no-or-right (nat_le (length frames) frame) (is_empty names) void)
node_full frames s (node.Filter input predicate) void f a = a.0
node_full frames s (node.SimpleProjection input columns) void f a = map-full _ columns void
node_full frames s (node.Select input exprs) void f a = map-full _ exprs void
node_full frames s (node.HStack input exprs) void f a = append-full _ _ (map-full _ (s input) a.0)
node_full frames s (node.MapFunction input function) void f a = function-full function (s input) a.0
node_full frames s (node.Union []) void f a = cc
node_full frames s (node.Union (x ∷ xs)) void f a = a.0
node_full frames s (node.Join left right left_on right_on options) void f a =
    let split : (b : Bool) (more : List Field) → is_empty (cond b (s left ++ more) (s left)) ≡ false = elim [
      | true ↦ λ more. append-full (s left) more a.0
      | false ↦ λ more. a.0
    ] in split (makes_pairs options.how) _
node_full frames s (node.Sort input by options) void f a = a.0

pub node_full_by : (read : List Bool) (frames : List Table) (s : ℕ → List Field) (n : ℕ) (x : Node) → is_bad_by read frames n x ≡ false → IsFrameFull frames x → (is_bad_by read frames n x ≡ false → AreFull s (inputs_of x)) → is_empty (node_schema frames s x) ≡ false
node_full_by read frames s n x good f a = node_full frames s x (no-or-right (is_misread read n (inputs_of x)) (is_void frames x) good) f (a good)

pub ruleset full_rules = (schema_full)

-- no name of a schema stands twice
pub schema_once : (fields : List Field) → IsSchema fields → first_repeated (names_of fields) ≡ None
schema_once [] good = cc
schema_once (x ∷ xs) good =
    let split : (o : Option (List ℕ)) → option_map fault.DuplicateName o ≡ None → o ≡ None = elim [
      | Some name ↦ λ h. cc
      | None ↦ λ h. refl
    ] in split (first_repeated (names_of (x ∷ xs))) good

pub ruleset schema_rules = (schema_once)
