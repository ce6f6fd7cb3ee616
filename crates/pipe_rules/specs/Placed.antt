-- The rows of a node with a conjunct where it goes.
use Rattle.std.specs.Prelude.{◌≡◌, ℕ, List, [], ◌∷◌, Bool, true, false, ◌==◌, if◌then◌else◌, None}
use Rattle.std.specs.List.{list_any}
use Rattle.pipe_frame.specs.Frame.{Table}
use Rattle.pipe_schema.specs.Rows.{Row}
use Rattle.pipe_schema.specs.Schema.{names_of, first_repeated}
use Rattle.pipe_schema.specs.declared.field.Field.{Field}
use Rattle.pipe_expr.specs.Formula.{Formula}
use Rattle.pipe_expr.specs.Types.{type_of}
use Rattle.pipe_expr.specs.Projections.{filter_rows}
use Rattle.pipe_plan.specs.Node.{Node}
use Rattle.pipe_plan.specs.Under.{inputs_of}
use Rattle.pipe_plan.specs.Schemas.{node_schema}
use Rattle.pipe_plan.specs.PlanRows.{node_rows}
use Rattle.pipe_plan.specs.Faults.{repeats, unknown_in, is_mistyped}
use Rattle.pipe_events.specs.Fits.{FitRows}
use Rattle.pipe_rules.specs.Placing.{Placing, Above, OnInputs, OnLeft, OnRight, placing}

-- the rows of one input filtered, and those of all others as they are
abbrev pub filtered_at : ℕ → Formula → (ℕ → List Field) → (ℕ → List Row) → ℕ → List Row
filtered_at k conjunct schema rows i =
    if i == k then filter_rows conjunct (schema i) (rows i) else rows i

-- the rows of each input filtered
abbrev pub filtered_all : Formula → (ℕ → List Field) → (ℕ → List Row) → ℕ → List Row
filtered_all conjunct schema rows i = filter_rows conjunct (schema i) (rows i)

abbrev pub first_input : List ℕ → ℕ
first_input [] = 0
first_input (n ∷ ns) = n

abbrev pub second_input : List ℕ → ℕ
second_input [] = 0
second_input (n ∷ ns) = first_input ns

-- where a conjunct of a filter on a node goes, over the schemas of nodes
abbrev pub placing_at : (ℕ → List Field) → Node → Formula → Placing
placing_at schema x conjunct =
    let inputs = inputs_of x in
    placing (schema (first_input inputs)) (schema (second_input inputs)) x conjunct

-- the rows of a node, where a conjunct stands above it, or on inputs of it
abbrev pub rows_placed :
    List Table → (ℕ → List Field) → (ℕ → List Row) → Node → Placing → List Row
rows_placed frames schema rows x (Above conjunct) =
    filter_rows conjunct (node_schema frames schema x) (node_rows frames schema rows x)
rows_placed frames schema rows x (OnInputs conjunct) =
    node_rows frames schema (filtered_all conjunct schema rows) x
rows_placed frames schema rows x (OnLeft conjunct) =
    node_rows frames schema (filtered_at (first_input (inputs_of x)) conjunct schema rows) x
rows_placed frames schema rows x (OnRight conjunct) =
    node_rows frames schema (filtered_at (second_input (inputs_of x)) conjunct schema rows) x

-- whether a number is an input of a node
abbrev pub is_input : Node → ℕ → Bool
is_input x i = list_any (λ m. m == i) (inputs_of x)

-- a node has types, knows what it reads and has no input twice, and the rows of its inputs fit their
-- schemas, in which no name stands twice
pub record IsReady
    (frames : List Table) (schema : ℕ → List Field) (rows : ℕ → List Row) (x : Node) : Type 0 where
  pub known : unknown_in frames schema x ≡ None
  pub typed : is_mistyped schema x ≡ false
  pub apart : repeats (inputs_of x) ≡ false
  pub fit : (i : ℕ) → is_input x i ≡ true → FitRows (schema i) (rows i)
  pub once : (i : ℕ) → is_input x i ≡ true → first_repeated (names_of (schema i)) ≡ None

-- the formula that is placed has the type of the conjunct, over the schema where it stands
abbrev pub HasTypeOf :
    List Table → (ℕ → List Field) → Node → Formula → Placing → Type 0
HasTypeOf frames schema x conjunct (Above below) = below ≡ conjunct
HasTypeOf frames schema x conjunct (OnInputs below) =
    (i : ℕ) → is_input x i ≡ true
    → type_of below (schema i) ≡ type_of conjunct (node_schema frames schema x)
HasTypeOf frames schema x conjunct (OnLeft below) =
    type_of below (schema (first_input (inputs_of x)))
    ≡ type_of conjunct (node_schema frames schema x)
HasTypeOf frames schema x conjunct (OnRight below) =
    type_of below (schema (second_input (inputs_of x)))
    ≡ type_of conjunct (node_schema frames schema x)
