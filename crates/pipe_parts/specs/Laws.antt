-- The laws of plans in parts.
use Rattle.std.specs.Prelude.{◌≡◌, ℕ, List, true}
use Rattle.std.specs.List.{AllByRecursion}
use Rattle.pipe_schema.specs.Rows.{Row, Same}
use Rattle.pipe_schema.specs.Schema.{has_name, names_of}
use Rattle.pipe_schema.specs.declared.field.Field.{Field}
use Rattle.pipe_plan.specs.Node as node
use Rattle.pipe_plan.specs.Plan.{Plan}
use Rattle.pipe_plan.specs.Under.{node_at, is_under}
use Rattle.pipe_plan.specs.Schemas.{schema_of}
use Rattle.pipe_plan.specs.PlanRows.{rows_of}
use Rattle.pipe_plan.specs.Faults.{IsWellFormed}
use Rattle.pipe_plan.specs.declared.ir.SortOptions.{SortOptions}
use Rattle.pipe_events.specs.Fits.{FramesFit}
use Rattle.pipe_parts.specs.declared.wish.Wish.{Wish}
use Rattle.pipe_parts.specs.declared.wish.Wish.TheVariants.{Split, Key, Whole}
use Rattle.pipe_parts.specs.Choices.{Choice, IsIn, choices_of}
use Rattle.pipe_parts.specs.Parts.{Parted, together, LieAs, IsCut, parts_root, gather_plan}

-- the rows of a node in each part
abbrev pub part_rows : Parted → ℕ → ℕ → List Row
part_rows parted n p = rows_of (parted.plan p) n

abbrev pub HasColumn : List Field → List ℕ → Type 0
HasColumn schema name = has_name (names_of schema) name ≡ true

-- the columns of a wish's key are a schema's
abbrev pub HasKey : List Field → Wish → Type 0
HasKey schema Split = Unit {0}
HasKey schema (Key key columns) = AllByRecursion (HasColumn schema) columns
HasKey schema Whole = Unit {0}

-- In a plan that may be run, cut by a choice that the rules allow for a node as wished, the node's rows
-- lie in the parts as wished
abbrev pub NodesLieAsWished : Type 0
NodesLieAsWished =
    (plan : Plan) (root : ℕ) → IsWellFormed plan root → FramesFit plan →
    (n : ℕ) → is_under plan.nodes root n ≡ true →
    (wish : Wish) → HasKey (schema_of plan n) wish →
    (choice : Choice) → IsIn choice (choices_of plan n wish) →
    (parted : Parted) → IsCut plan parted choice →
    LieAs parted wish (schema_of plan n) (rows_of plan n) (part_rows parted n)

-- The rows of all parts together are the plan's rows, each as often (below a sort at the root)
abbrev pub PartsHaveTheRows : Type 0
PartsHaveTheRows =
    (plan : Plan) (root : ℕ) → IsWellFormed plan root → FramesFit plan →
    let n = parts_root plan root in
    (choice : Choice) → IsIn choice (choices_of plan n Split) →
    (parted : Parted) → IsCut plan parted choice →
    Same (together parted.count (part_rows parted n)) (rows_of plan n)

-- Where the root is a sort, the plan that gathers gives the plan's list over any rows that are the same
-- as those below the sort
abbrev pub GatherGivesTheList : Type 0
GatherGivesTheList =
    (plan : Plan) (root : ℕ) → IsWellFormed plan root → FramesFit plan →
    (input : ℕ) (by : List (List ℕ)) (options : SortOptions) →
    node_at plan.nodes root ≡ node.Sort input by options →
    (rows : List Row) → Same rows (rows_of plan (parts_root plan root)) →
    rows_of (gather_plan plan root rows) 1 ≡ rows_of plan root
