-- The law of needed columns.
use Rattle.std.specs.Prelude.{◌≡◌, ℕ, List, true, map}
use Rattle.std.specs.List.{AllByRecursion}
use Rattle.pipe_frame.specs.Frame.{Table}
use Rattle.pipe_schema.specs.Rows.{Row, Same}
use Rattle.pipe_schema.specs.Schema.{has_name, names_of}
use Rattle.pipe_schema.specs.declared.field.Field.{Field}
use Rattle.pipe_expr.specs.Types.{type_of_column}
use Rattle.pipe_expr.specs.Projections.{row_named}
use Rattle.pipe_plan.specs.Node.{Node}
use Rattle.pipe_plan.specs.Schemas.{node_schema}
use Rattle.pipe_plan.specs.PlanRows.{node_rows}
use Rattle.pipe_rules.specs.Placed.{is_input, IsReady}
use Rattle.pipe_rules.specs.Needs.{Names, need}
use Rattle.pipe_rules.specs.Narrowed.{narrow_schema, narrow_rows, narrow_node}

-- what is kept of each input includes what the node needs of it
abbrev pub AreMet : (ℕ → List Field) → Node → Names → (ℕ → Names) → Type 0
AreMet schema x needed keep =
    (i : ℕ) (name : List ℕ) → is_input x i ≡ true → has_name (names_of (schema i)) name ≡ true
    → need schema x needed i name ≡ true → keep i name ≡ true

-- a needed name that a schema has
pub record IsWanted (needed : Names) (schema : List Field) (name : List ℕ) : Type 0 where
  pub wanted : needed name ≡ true
  pub there : has_name (names_of schema) name ≡ true

-- a name has the same type in two schemas
abbrev pub HasSameType : List Field → List Field → List ℕ → Type 0
HasSameType schema other name = type_of_column name other ≡ type_of_column name schema

-- two lists of rows over two schemas are the same as far as some names go, and so are their types
pub record AreSameAt
    (names : List (List ℕ)) (schema : List Field) (rows : List Row) (other : List Field)
    (others : List Row) : Type 0 where
  pub types : AllByRecursion (HasSameType schema other) names
  pub same : Same (map (row_named other names) others) (map (row_named schema names) rows)

-- a node over narrower inputs gives the same, as far as the needed names go
abbrev pub NeedsServe : Type 0
NeedsServe =
    (frames : List Table) (schema : ℕ → List Field) (rows : ℕ → List Row) (x : Node)
    (needed : Names) (keep : ℕ → Names) (names : List (List ℕ)) → IsReady frames schema rows x
    → AreMet schema x needed keep
    → AllByRecursion (IsWanted needed (node_schema frames schema x)) names
    → let t = narrow_schema keep schema in let y = narrow_node frames t needed x in
    AreSameAt names (node_schema frames schema x) (node_rows frames schema rows x)
    (node_schema frames t y) (node_rows frames t (narrow_rows keep schema rows) y)
