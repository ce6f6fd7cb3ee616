-- A plan in parts: a plan for each part, over its share of the rows, and the plan that gathers theirs.
use Rattle.std.specs.Prelude.{◌≡◌, ℕ, zero, suc, ◌<◌, List, [], ◌∷◌, ◌++◌, None, map}
use Rattle.std.specs.List.{AllByRecursion}
use Rattle.pipe_frame.specs.Frame.{Table}
use Rattle.pipe_schema.specs.Rows.{Row, Same}
use Rattle.pipe_schema.specs.declared.any_value.AnyValue.{AnyValue}
use Rattle.pipe_schema.specs.declared.field.Field.{Field}
use Rattle.pipe_expr.specs.Projections.{row_named}
use Rattle.pipe_plan.specs.Node.{Node}
use Rattle.pipe_plan.specs.Node as node
use Rattle.pipe_plan.specs.Plan.{Plan}
use Rattle.pipe_plan.specs.Under.{node_at}
use Rattle.pipe_plan.specs.Schemas.{frame_at, schema_of}
use Rattle.pipe_parts.specs.declared.wish.Wish.{Wish}
use Rattle.pipe_parts.specs.declared.wish.Wish.TheVariants.{Split, Key, Whole}
use Rattle.pipe_parts.specs.Choices.{Choice}
use Rattle.pipe_parts.specs.declared.wish.ScanCut.{ScanCut}

-- a number of parts, the plan of each, and for each key the part of each list of values
pub record Parted : Type 0 where
  pub count : ℕ
  pub plan : ℕ → Plan
  pub place : (key : ℕ) → List AnyValue → ℕ

-- what the parts have, one part after another
abbrev pub together : {X : Type 0} → ℕ → (ℕ → List X) → List X
together zero part = []
together (suc n) part = together n part ++ part n

-- ---- rows in parts

-- a row lies in the part of its values
abbrev pub IsPlaced : (List AnyValue → ℕ) → List Field → List (List ℕ) → ℕ → Row → Type 0
IsPlaced place schema columns p row = place (row_named schema columns row) ≡ p

-- rows are cut by a key
pub record AreKeyed
    (count : ℕ) (place : List AnyValue → ℕ) (columns : List (List ℕ)) (schema : List Field)
    (rows : List Row) (part : ℕ → List Row) : Type 0 where
  pub all : Same (together count part) rows
  pub placed : (p : ℕ) → p < count → AllByRecursion (IsPlaced place schema columns p) (part p)

-- Rows lie in parts as wished. With two parts, and place n = n modulo 2: the rows 1 2 2 of a column n
-- lie as Key in 2 2 and 1, as Split also in 2 1 and 2, as Whole in 1 2 2 and 1 2 2.
abbrev pub LieAs : Parted → Wish → List Field → List Row → (ℕ → List Row) → Type 0
LieAs parted Split schema rows part = Same (together parted.count part) rows
LieAs parted (Key key columns) schema rows part =
    AreKeyed parted.count (parted.place key) columns schema rows part
LieAs parted Whole schema rows part = (p : ℕ) → p < parted.count → Same (part p) rows

-- ---- plans in parts

-- a node whatever frame it scans
abbrev pub unframed : Node → Node
unframed (node.DataFrameScan frame columns) = node.DataFrameScan 0 columns
unframed (node.Filter input predicate) = node.Filter input predicate
unframed (node.SimpleProjection input columns) = node.SimpleProjection input columns
unframed (node.Select input exprs) = node.Select input exprs
unframed (node.HStack input exprs) = node.HStack input exprs
unframed (node.MapFunction input function) = node.MapFunction input function
unframed (node.Union inputs) = node.Union inputs
unframed (node.Join left right left_on right_on options) =
    node.Join left right left_on right_on options
unframed (node.Sort input by options) = node.Sort input by options

abbrev pub frame_in : Node → ℕ
frame_in (node.DataFrameScan frame columns) = frame
frame_in (node.Filter input predicate) = 0
frame_in (node.SimpleProjection input columns) = 0
frame_in (node.Select input exprs) = 0
frame_in (node.HStack input exprs) = 0
frame_in (node.MapFunction input function) = 0
frame_in (node.Union inputs) = 0
frame_in (node.Join left right left_on right_on options) = 0
frame_in (node.Sort input by options) = 0

-- the frame that a scan of a plan reads
abbrev pub scanned : Plan → ℕ → Table
scanned plan scan = frame_at plan.frames (frame_in (node_at plan.nodes scan))

-- the rows that a scan reads in each part
abbrev pub scanned_rows : Parted → ℕ → ℕ → List Row
scanned_rows parted scan p = (scanned (parted.plan p) scan).rows

-- a scan's frame is cut: each part has its columns, and its rows lie in the parts as told
pub record IsScanCut (plan : Plan) (parted : Parted) (one : ScanCut) : Type 0 where
  pub columns : (p : ℕ) → p < parted.count →
      (scanned (parted.plan p) one.scan).schema ≡ (scanned plan one.scan).schema
  pub rows : LieAs parted one.cut (scanned plan one.scan).schema (scanned plan one.scan).rows
      (scanned_rows parted one.scan)

-- A plan is cut by a choice: each part has its nodes, whose scans may read other frames (a frame that
-- two scans read is cut for each by itself), and each scan is cut as chosen.
pub record IsCut (plan : Plan) (parted : Parted) (choice : Choice) : Type 0 where
  pub nodes : (p : ℕ) → p < parted.count →
      map unframed (parted.plan p).nodes ≡ map unframed plan.nodes
  pub scans : AllByRecursion (IsScanCut plan parted) choice

-- ---- the root

-- a sort at the root is taken off
abbrev pub below_sort : Node → ℕ → ℕ
below_sort (node.DataFrameScan frame columns) root = root
below_sort (node.Filter input predicate) root = root
below_sort (node.SimpleProjection input columns) root = root
below_sort (node.Select input exprs) root = root
below_sort (node.HStack input exprs) root = root
below_sort (node.MapFunction input function) root = root
below_sort (node.Union inputs) root = root
below_sort (node.Join left right left_on right_on options) root = root
below_sort (node.Sort input by options) root = input

-- the node whose rows the parts give: the root, or the input of a sort at the root
abbrev pub parts_root : Plan → ℕ → ℕ
parts_root plan root = below_sort (node_at plan.nodes root) root

-- a scan, and on it the sort that was taken off
abbrev pub gather_nodes : Node → List Node
gather_nodes (node.DataFrameScan frame columns) = []
gather_nodes (node.Filter input predicate) = []
gather_nodes (node.SimpleProjection input columns) = []
gather_nodes (node.Select input exprs) = []
gather_nodes (node.HStack input exprs) = []
gather_nodes (node.MapFunction input function) = []
gather_nodes (node.Union inputs) = []
gather_nodes (node.Join left right left_on right_on options) = []
gather_nodes (node.Sort input by options) =
    node.DataFrameScan 0 None ∷ node.Sort 0 by options ∷ []

-- The plan that gathers what the parts give, where the root is a sort: of rows 2 and 3 1 from two
-- parts, under a sort by that column with the slice [0,2], its rows are 1 2.
abbrev pub gather_plan : Plan → ℕ → List Row → Plan
gather_plan plan root rows = record {
  nodes = gather_nodes (node_at plan.nodes root);
  frames = record { schema = schema_of plan (parts_root plan root); rows = rows } ∷ [];
}
