-- Rows that fit a schema: each cell is null or of its column's type.
use Rattle.std.specs.Prelude.{◌≡◌, ℕ, ◌<◌, List, [], ◌∷◌, true, length, None}
use Rattle.std.specs.List.{AllByRecursion}
use Rattle.pipe_schema.specs.Cell.{fits_dtype}
use Rattle.pipe_schema.specs.Rows.{Row}
use Rattle.pipe_schema.specs.declared.field.Field.{Field}
use Rattle.pipe_plan.specs.Node as node
use Rattle.pipe_plan.specs.Plan.{Plan}
use Rattle.pipe_plan.specs.Under.{node_at, is_under}
use Rattle.pipe_plan.specs.Schemas.{frame_at, schemas_to, schema_of}
use Rattle.pipe_plan.specs.PlanRows.{rows_of}
use Rattle.pipe_plan.specs.Faults.{plan_fault}
use Rattle.pipe_plan.specs.declared.ir.SortOptions.{SortOptions}
use Rattle.pipe_events.specs.PlanStages.{SortsAlike, sorted_slice}

-- a row has one cell for each field, and each cell may stand in its column
abbrev pub FitsRow : List Field → Row → Type 0
FitsRow [] [] = Unit {0}
FitsRow [] (c ∷ row) = ⊥
FitsRow (field ∷ fields) [] = ⊥
FitsRow (field ∷ fields) (c ∷ row) = (fits_dtype field.dtype c ≡ true) × FitsRow fields row

abbrev pub FitRows : List Field → List Row → Type 0
FitRows fields rows = AllByRecursion (FitsRow fields) rows

-- the rows of each frame of a plan fit its schema
abbrev pub FramesFit : Plan → Type 0
FramesFit plan =
    (i : ℕ) → FitRows (frame_at plan.frames i).schema (frame_at plan.frames i).rows

-- In a plan without a fault the rows of each node fit its schema
abbrev pub RowsFitSchemas : Type 0
RowsFitSchemas =
    (plan : Plan) (root : ℕ) → plan_fault plan root ≡ None → FramesFit plan →
    (n : ℕ) → is_under plan.nodes root n ≡ true → FitRows (schema_of plan n) (rows_of plan n)

-- In a plan without a fault each sort gives one list for all lists of the rows of its input
abbrev pub SortsGiveOneList : Type 0
SortsGiveOneList =
    (plan : Plan) (root : ℕ) → plan_fault plan root ≡ None → FramesFit plan →
    (k input : ℕ) (by : List (List ℕ)) (options : SortOptions) → k < length plan.nodes →
    is_under plan.nodes root k ≡ true → node_at plan.nodes k ≡ node.Sort input by options →
    SortsAlike (sorted_slice (schemas_to plan k input) by options) (rows_of plan input)
