-- The shape of a plan: which of its nodes begin branches, hand rows on, or take them into a sink.
use Rattle.std.specs.Prelude.{ℕ, List, [], ◌∷◌, ◌++◌, Bool, true, false, if◌then◌else◌, length}
use Rattle.std.specs.List.{flat_map, list_all}
use Rattle.pipe_plan.specs.Walk.{walk}
use Rattle.pipe_plan.specs.Node.{Node}
use Rattle.pipe_plan.specs.Node as node
use Rattle.pipe_plan.specs.Under.{node_at}
use Rattle.pipe_driver.specs.Branches.{is_scan_at, built_side, probed_side}

-- A scan begins a branch, and a union of scans alone does. Filters, projections and functions hand
-- on each row, other unions the rows of their inputs. A join takes the rows of one side into a
-- sink, and those of the other go through it. A sort takes the rows of its input into a sink
pub data Kind : Type 0 where
  Begins : Kind
  Each : (input : ℕ) → Kind
  Unites : (inputs : List ℕ) → Kind
  Joins : (built probed : ℕ) → Kind
  Sorts : (input : ℕ) → Kind

abbrev pub union_kind : Bool → List ℕ → Kind
union_kind is_source inputs = if is_source then Begins else Unites inputs

abbrev pub kind_of : List Node → Node → Kind
kind_of nodes (node.DataFrameScan frame columns) = Begins
kind_of nodes (node.Filter input predicate) = Each input
kind_of nodes (node.SimpleProjection input columns) = Each input
kind_of nodes (node.Select input exprs) = Each input
kind_of nodes (node.HStack input exprs) = Each input
kind_of nodes (node.MapFunction input function) = Each input
kind_of nodes (node.Union inputs) = union_kind (list_all (is_scan_at nodes) inputs) inputs
kind_of nodes (node.Join left right left_on right_on options) =
    Joins (built_side left right options) (probed_side left right options)
kind_of nodes (node.Sort input by options) = Sorts input

abbrev pub kind_at : List Node → ℕ → Kind
kind_at nodes n = kind_of nodes (node_at nodes n)

abbrev pub is_joining : Kind → Bool
is_joining Begins = false
is_joining (Each input) = false
is_joining (Unites inputs) = false
is_joining (Joins built probed) = true
is_joining (Sorts input) = false

abbrev pub is_sorting : Kind → Bool
is_sorting Begins = false
is_sorting (Each input) = false
is_sorting (Unites inputs) = false
is_sorting (Joins built probed) = false
is_sorting (Sorts input) = true

-- the node on the probe side of a join
abbrev pub probed_of : Kind → ℕ
probed_of Begins = 0
probed_of (Each input) = 0
probed_of (Unites inputs) = 0
probed_of (Joins built probed) = probed
probed_of (Sorts input) = 0

-- the node below a sink
abbrev pub below_sink : Kind → ℕ
below_sink Begins = 0
below_sink (Each input) = 0
below_sink (Unites inputs) = 0
below_sink (Joins built probed) = built
below_sink (Sorts input) = input

-- ---- the sources and the joins under a node

-- where branches, or parts of them behind sorts, begin
abbrev pub sources_by : (ℕ → List ℕ) → ℕ → Kind → List ℕ
sources_by below n Begins = n ∷ []
sources_by below n (Each input) = below input
sources_by below n (Unites inputs) = flat_map below inputs
sources_by below n (Joins built probed) = below built ++ below probed
sources_by below n (Sorts input) = n ∷ below input

abbrev pub joins_by : (ℕ → List ℕ) → ℕ → Kind → List ℕ
joins_by below n Begins = []
joins_by below n (Each input) = below input
joins_by below n (Unites inputs) = flat_map below inputs
joins_by below n (Joins built probed) = below built ++ n ∷ below probed
joins_by below n (Sorts input) = below input

abbrev pub sources_at : List Node → (ℕ → List ℕ) → ℕ → List ℕ
sources_at nodes below n = sources_by below n (kind_at nodes n)

abbrev pub joins_at : List Node → (ℕ → List ℕ) → ℕ → List ℕ
joins_at nodes below n = joins_by below n (kind_at nodes n)

-- the sources of a node's rows: scans, unions of scans alone, sorts
abbrev pub sources_of : List Node → ℕ → List ℕ
sources_of nodes n = walk [] (sources_at nodes) (length nodes) n

-- the joins under a node
abbrev pub joins_of : List Node → ℕ → List ℕ
joins_of nodes n = walk [] (joins_at nodes) (length nodes) n
