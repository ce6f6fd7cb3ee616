-- The sources of branches.
use Rattle.std.specs.Prelude.{◌≡◌, ℕ, ◌<◌, ◌^◌, List, [], ◌∷◌, true, length}
use Rattle.std.specs.List.{AllByRecursion}
use Rattle.pipe_schema.specs.declared.field.Field.{Field}
use Rattle.pipe_ops.specs.Batches.{Left}
use Rattle.pipe_source.specs.Endings.{source_rows}
use Rattle.pipe_source.specs.Law.{all_rows}
use Rattle.pipe_source.specs.Supplies.{left_of, source_text}
use Rattle.pipe_source.specs.Supply.{Supply}
use Rattle.pipe_source.specs.declared.phys_source.PhysSource.{PhysSource}
use Rattle.pipe_plan.specs.Node.{Node}
use Rattle.pipe_plan.specs.Node as node
use Rattle.pipe_plan.specs.Under.{node_at}
use Rattle.pipe_driver.specs.Branches.{is_scan_at}
use Rattle.pipe_driver.specs.Texts.{node_word}
use Rattle.pipe_check.specs.Checked.{Checked}
use Rattle.pipe_convert.specs.Converted.{IsSourceOf, schema_in}
use Rattle.pipe_convert.specs.Nodes.{IsUnder, nodes_in, rows_in}

-- a frame of a schema, of which nothing was taken
pub record IsWhole (schema : List Field) (left : Left) : Type 0 where
  pub whole : left.from ≡ 0
  pub schema_is : left.schema ≡ schema

abbrev pub AreWhole : List Field → List Left → Type 0
AreWhole schema lefts = AllByRecursion (IsWhole schema) lefts

-- frames have so few rows together that the numbers of their chunks never end
abbrev pub HasFewRows : List Left → Type 0
HasFewRows lefts = length (all_rows lefts) < 2 ^ 62

-- ---- unions of scans alone

pub record IsScanUnder (plan : Checked) (n : ℕ) : Type 0 where
  pub under : IsUnder plan n
  pub scan : is_scan_at (nodes_in plan) n ≡ true

abbrev pub AreScans : Checked → List ℕ → Type 0
AreScans plan ns = AllByRecursion (IsScanUnder plan) ns

-- what is left of the sources of scans, of which nothing was taken
abbrev pub AreScansOf : Checked → List ℕ → List Left → Type 0
AreScansOf plan [] [] = Unit {0}
AreScansOf plan [] (left ∷ lefts) = ⊥
AreScansOf plan (n ∷ ns) [] = ⊥
AreScansOf plan (n ∷ ns) (left ∷ lefts) = IsSourceOf plan n left × AreScansOf plan ns lefts

abbrev pub IsUnionOf : Checked → List ℕ → Supply → Type 0
IsUnionOf plan inputs supply = AreScansOf plan inputs supply.left

-- ---- the source of a node

-- the nodes whose rows are taken where a leg begins at a node: its own, or those of a union's inputs
abbrev pub taken_at : Node → (n : ℕ) → List ℕ
taken_at (node.DataFrameScan frame columns) n = n ∷ []
taken_at (node.Filter input predicate) n = n ∷ []
taken_at (node.SimpleProjection input columns) n = n ∷ []
taken_at (node.Select input exprs) n = n ∷ []
taken_at (node.HStack input exprs) n = n ∷ []
taken_at (node.MapFunction input function) n = n ∷ []
taken_at (node.Union inputs) n = inputs
taken_at (node.Join left right left_on right_on options) n = n ∷ []
taken_at (node.Sort input by options) n = n ∷ []

-- a source is that of a node: nothing was taken, and its rows, their schema and its text are the
-- node's; it has a frame, and not too many rows; frame by frame these are the rows of scans
pub record IsSourceAt (plan : Checked) (n : ℕ) (source : PhysSource) : Type 0 where
  pub whole : AreWhole (schema_in plan n) (left_of source)
  pub some : left_of source ≡ [] → ⊥
  pub few : HasFewRows (left_of source)
  pub rows : source_rows source ≡ rows_in plan n
  pub text : source_text source ≡ node_word (node_at (nodes_in plan) n)
  pub scans : AreScansOf plan (taken_at (node_at (nodes_in plan) n) n) (left_of source)
