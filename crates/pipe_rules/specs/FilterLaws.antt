-- The laws of conjuncts.
use Rattle.std.specs.Prelude.{◌≡◌, ℕ, List, Some, None}
use Rattle.std.specs.List.{AllByRecursion}
use Rattle.pipe_frame.specs.Frame.{Table}
use Rattle.pipe_schema.specs.Rows.{Row}
use Rattle.pipe_schema.specs.Schema.{first_unknown}
use Rattle.pipe_schema.specs.declared.data_type.DataType.TheVariants as dtype
use Rattle.pipe_schema.specs.declared.field.Field.{Field}
use Rattle.pipe_expr.specs.Formula.{Formula}
use Rattle.pipe_expr.specs.Types.{columns_in, type_of}
use Rattle.pipe_expr.specs.Projections.{filter_rows}
use Rattle.pipe_plan.specs.Node.{Node}
use Rattle.pipe_plan.specs.Schemas.{node_schema}
use Rattle.pipe_plan.specs.PlanRows.{node_rows}
use Rattle.pipe_rules.specs.Conjuncts.{conjuncts_of, filter_each}
use Rattle.pipe_rules.specs.Placed.{placing_at, rows_placed, IsReady, HasTypeOf}
use Rattle.pipe_rules.specs.Parted.{parted, rows_below}

-- a filter keeps the rows at which each of its conjuncts is true
abbrev pub ConjunctsFilter : Type 0
ConjunctsFilter =
    (predicate : Formula) (schema : List Field) (rows : List Row) →
    filter_rows predicate schema rows ≡ filter_each (conjuncts_of predicate) schema rows

-- a filter on a node keeps the rows that the node gives with the conjunct where it goes
abbrev pub FiltersGoDown : Type 0
FiltersGoDown =
    (frames : List Table) (schema : ℕ → List Field) (rows : ℕ → List Row) (x : Node)
    (conjunct : Formula) → IsReady frames schema rows x
    → first_unknown (node_schema frames schema x) (columns_in conjunct) ≡ None
    → filter_rows conjunct (node_schema frames schema x) (node_rows frames schema rows x)
    ≡ rows_placed frames schema rows x (placing_at schema x conjunct)

-- a conjunct has the same type where it goes
abbrev pub TypesGoDown : Type 0
TypesGoDown =
    (frames : List Table) (schema : ℕ → List Field) (rows : ℕ → List Row) (x : Node)
    (conjunct : Formula) → IsReady frames schema rows x
    → first_unknown (node_schema frames schema x) (columns_in conjunct) ≡ None
    → HasTypeOf frames schema x conjunct (placing_at schema x conjunct)

-- each name that a conjunct reads is known
abbrev pub IsKnown : List Field → Formula → Type 0
IsKnown schema conjunct = first_unknown schema (columns_in conjunct) ≡ None

-- a conjunct is a truth value
abbrev pub IsPredicate : List Field → Formula → Type 0
IsPredicate schema conjunct = type_of conjunct schema ≡ Some dtype.Boolean

-- the rows of a node under some conjuncts are those of the node with each conjunct where it goes
abbrev pub PartsGoDown : Type 0
PartsGoDown =
    (frames : List Table) (schema : ℕ → List Field) (x : Node) (conjuncts : List Formula)
    (rows : ℕ → List Row) → IsReady frames schema rows x
    → AllByRecursion (IsKnown (node_schema frames schema x)) conjuncts
    → filter_each conjuncts (node_schema frames schema x) (node_rows frames schema rows x)
    ≡ filter_each (parted schema x conjuncts).above (node_schema frames schema x)
    (node_rows frames schema (rows_below schema x (parted schema x conjuncts) rows) x)
