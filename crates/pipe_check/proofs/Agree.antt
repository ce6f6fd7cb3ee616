-- A node's schema and faults rest on the schemas of its inputs alone.
use Rattle.std.proofs.Common.{◌≡◌, ℕ, Bool, true, eqb, not, List, [], ◌∷◌, Some, refl, ap, ◌∙◌}
use Rattle.std.specs.Prelude.{◌||◌}
use Rattle.std.specs.List.{list_any, flat_map}
use Rattle.std.specs.Cmp.Lexicographic.{pointwise}
use Rattle.pipe_frame.specs.Frame.{Table}
use Rattle.pipe_schema.specs.Schema.{names_of, first_unknown, first_repeated}
use Rattle.pipe_schema.specs.declared.data_type.DataType.TheVariants as dtype
use Rattle.pipe_schema.specs.declared.field.Field.{Field}
use Rattle.pipe_expr.specs.Types.{type_of, columns_in}
use Rattle.pipe_expr.specs.Joins.{join_fields}
use Rattle.pipe_expr.specs.Projections.{fields_named, select_fields, hstack_fields, function_fields}
use Rattle.pipe_plan.specs.Node.{Node}
use Rattle.pipe_plan.specs.Node as node
use Rattle.pipe_plan.specs.Under.{inputs_of}
use Rattle.pipe_plan.specs.Schemas.{node_schema, join_over}
use Rattle.pipe_plan.specs.Faults.{or_else, eq_field, eq_types, unknown_in, duplicate_in, once_names, is_mistyped, is_mistyped_function, keys_mistyped, is_named_untyped, expr_columns, function_names}
use Rattle.pipe_check.specs.Checking.{fault_with}
use Rattle.pipe_check.proofs.Walks.{member, itself}
use Rattle.std.proofs.Math.Bool.{or-true}

-- the same schemas at some nodes
abbrev pub Agree : (s t : ℕ → List Field) → List ℕ → Type 0
Agree s t [] = Unit {0}
Agree s t (x ∷ xs) = (s x ≡ t x) × Agree s t xs

pub agree-members : (s t : ℕ → List Field) (xs : List ℕ) → ((i : ℕ) → member i xs ≡ true → s i ≡ t i) → Agree s t xs
agree-members s t [] f = tt
agree-members s t (x ∷ xs) f =
    (f x (let e = itself x in rw e refl), agree-members s t xs (λ i m. f i (ap (λ b. eqb x i || b) m ∙ or-true (eqb x i))))

pub schema-agree : (frames : List Table) (s t : ℕ → List Field) (x : Node) → Agree s t (inputs_of x) → node_schema frames s x ≡ node_schema frames t x
schema-agree frames s t (node.DataFrameScan frame columns) a = refl
schema-agree frames s t (node.Filter input predicate) a = a.0
schema-agree frames s t (node.SimpleProjection input columns) a = ap (λ f. fields_named f columns) a.0
schema-agree frames s t (node.Select input exprs) a = ap (λ f. select_fields f exprs) a.0
schema-agree frames s t (node.HStack input exprs) a = ap (λ f. hstack_fields f exprs) a.0
schema-agree frames s t (node.MapFunction input function) a = ap (function_fields function) a.0
schema-agree frames s t (node.Union []) a = refl
schema-agree frames s t (node.Union (x ∷ xs)) a = a.0
schema-agree frames s t (node.Join left right left_on right_on options) a =
    ap (λ f. join_fields (join_over f (s right) left_on right_on options)) a.0
    ∙ ap (λ f. join_fields (join_over (t left) f left_on right_on options)) a.1.0
schema-agree frames s t (node.Sort input by options) a = a.0

unknown-agree : (frames : List Table) (s t : ℕ → List Field) (x : Node) → Agree s t (inputs_of x) → unknown_in frames s x ≡ unknown_in frames t x
unknown-agree frames s t (node.DataFrameScan frame columns) a = refl
unknown-agree frames s t (node.Filter input predicate) a = ap (λ f. first_unknown f (columns_in predicate)) a.0
unknown-agree frames s t (node.SimpleProjection input columns) a = ap (λ f. first_unknown f columns) a.0
unknown-agree frames s t (node.Select input exprs) a = ap (λ f. first_unknown f (flat_map expr_columns exprs)) a.0
unknown-agree frames s t (node.HStack input exprs) a = ap (λ f. first_unknown f (flat_map expr_columns exprs)) a.0
unknown-agree frames s t (node.MapFunction input function) a = ap (λ f. first_unknown f (function_names function)) a.0
unknown-agree frames s t (node.Union inputs) a = refl
unknown-agree frames s t (node.Join left right left_on right_on options) a =
    ap (λ f. or_else (first_unknown f (flat_map columns_in left_on)) (first_unknown (s right) (flat_map columns_in right_on))) a.0
    ∙ ap (λ f. or_else (first_unknown (t left) (flat_map columns_in left_on)) (first_unknown f (flat_map columns_in right_on))) a.1.0
unknown-agree frames s t (node.Sort input by options) a = ap (λ f. first_unknown f by) a.0

any-agree : (g : List Field → Bool) (s t : ℕ → List Field) (xs : List ℕ) → Agree s t xs → list_any (λ i. g (s i)) xs ≡ list_any (λ i. g (t i)) xs
any-agree g s t [] a = refl
any-agree g s t (x ∷ xs) a = ap (λ f. g f || list_any (λ i. g (s i)) xs) a.0 ∙ ap (λ b. g (t x) || b) (any-agree g s t xs a.1)

typed-agree : (s t : ℕ → List Field) (x : Node) → Agree s t (inputs_of x) → is_mistyped s x ≡ is_mistyped t x
typed-agree s t (node.DataFrameScan frame columns) a = refl
typed-agree s t (node.Filter input predicate) a = ap (λ f. not (eq_types (type_of predicate f) (Some dtype.Boolean))) a.0
typed-agree s t (node.SimpleProjection input columns) a = refl
typed-agree s t (node.Select input exprs) a = ap (λ f. list_any (is_named_untyped f) exprs) a.0
typed-agree s t (node.HStack input exprs) a = ap (λ f. list_any (is_named_untyped f) exprs) a.0
typed-agree s t (node.MapFunction input function) a = ap (λ f. is_mistyped_function f function) a.0
typed-agree s t (node.Union []) a = refl
typed-agree s t (node.Union (x ∷ xs)) a =
    ap (λ f. list_any (λ i. not (pointwise eq_field f (s i))) xs) a.0
    ∙ any-agree (λ f. not (pointwise eq_field (t x) f)) s t xs a.1
typed-agree s t (node.Join left right left_on right_on options) a =
    ap (λ f. keys_mistyped f (s right) left_on right_on) a.0 ∙ ap (λ f. keys_mistyped (t left) f left_on right_on) a.1.0
typed-agree s t (node.Sort input by options) a = refl

duplicate-agree : (frames : List Table) (s t : ℕ → List Field) (x : Node) → Agree s t (inputs_of x) → duplicate_in frames s x ≡ duplicate_in frames t x
duplicate-agree frames s t x a = ap (λ f. or_else (first_repeated (names_of f)) (first_repeated (once_names x))) (schema-agree frames s t x a)

pub fault-agree : (bad : Bool) (frames : List Table) (s t : ℕ → List Field) (n : ℕ) (x : Node) → Agree s t (inputs_of x) → fault_with bad frames s n x ≡ fault_with bad frames t n x
fault-agree bad frames s t n x a =
    let u = unknown-agree frames s t x a in
    let d = duplicate-agree frames s t x a in
    let m = typed-agree s t x a in
    rw (u, d, m) refl
