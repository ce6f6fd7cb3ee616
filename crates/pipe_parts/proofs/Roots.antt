-- The root of a plan in parts, and the plan that gathers.
use Rattle.std.proofs.Common.{◌≡◌, ℕ, ◌<◌, true, List, [], ◌∷◌, refl, ap, sym, subst, ◌∙◌}
use Rattle.pipe_schema.specs.Rows.{Row, Same}
use Rattle.pipe_schema.specs.declared.field.Field.{Field}
use Rattle.pipe_rows.specs.SortOrder.{sorted}
use Rattle.pipe_plan.specs.Node.{Node}
use Rattle.pipe_plan.specs.Node as node
use Rattle.pipe_plan.specs.Plan.{Plan}
use Rattle.pipe_plan.specs.Under.{node_at, is_under}
use Rattle.pipe_plan.specs.Schemas.{schemas_to, schema_of}
use Rattle.pipe_plan.specs.PlanRows.{node_rows, rows_of, slice_rows, sort_keys}
use Rattle.pipe_plan.specs.Faults.{IsWellFormed}
use Rattle.pipe_plan.specs.declared.ir.SortOptions.{SortOptions}
use Rattle.pipe_check.proofs.Walks.{member, itself, schema-below, under-self}
use Rattle.pipe_check.proofs.WellFormed.{root_there}
use Rattle.pipe_events.proofs.Plans.{sorts_sure}
use Rattle.pipe_parts.proofs.Granted.{Granted, granted}
use Rattle.pipe_parts.specs.declared.wish.Wish.TheVariants.{Split}
use Rattle.pipe_parts.specs.Parts.{below_sort, parts_root, gather_nodes}
use Rattle.pipe_parts.specs.Laws.{PartsHaveTheRows, GatherGivesTheList}
use Rattle.pipe_parts.proofs.Plans.{rows-granted, nodes-lie}

alone-member : (i : ℕ) → member i (i ∷ []) ≡ true
alone-member i = let e = itself i in rw e refl

module _ (plan : Plan) (root : ℕ) (good : IsWellFormed plan root) where
  root-under : is_under plan.nodes root root ≡ true
  root-under = under-self plan.nodes root (root_there plan root good.faultless)

  below-under : (x : Node) → Granted plan root root x → is_under plan.nodes root (below_sort x root) ≡ true
  below-under (node.DataFrameScan frame columns) g = root-under
  below-under (node.Filter input predicate) g = root-under
  below-under (node.SimpleProjection input columns) g = root-under
  below-under (node.Select input exprs) g = root-under
  below-under (node.HStack input exprs) g = root-under
  below-under (node.MapFunction input function) g = root-under
  below-under (node.Union inputs) g = root-under
  below-under (node.Join left right left_on right_on options) g = root-under
  below-under (node.Sort input by options) g = (g.fed input (alone-member input)).1

  pub parts-under : is_under plan.nodes root (parts_root plan root) ≡ true
  parts-under = below-under (node_at plan.nodes root) (granted plan root root good root-under)

pub parts-have : PartsHaveTheRows
parts-have plan root good fits choice h parted cut =
    nodes-lie plan root good fits (parts_root plan root) (parts-under plan root good) Split tt choice h parted cut

-- a scan of one frame, sorted
gather-rows : (fields : List Field) (rows : List Row) (by : List (List ℕ)) (options : SortOptions) (input : ℕ) → rows_of (record { nodes = gather_nodes (node.Sort input by options); frames = record { schema = fields; rows = rows } ∷ [] }) 1 ≡ slice_rows options.slice (sorted (sort_keys fields by options) rows)
gather-rows fields rows by options input = refl

pub gather-gives : GatherGivesTheList
gather-gives plan root good fits input by options at rows same =
    let n = parts_root plan root in
    let is : n ≡ input = ap (λ x. below_sort x root) at in
    let under = root-under plan root good in
    let g = granted plan root root good under in
    let low : Granted plan root root (node.Sort input by options) = subst (Granted plan root root) at g in
    let below : input < root = (low.fed input (alone-member input)).0 in
    let schema : schemas_to plan root input ≡ schema_of plan input = schema-below plan root input below g.there in
    let list : List Field → List Row → List Row = λ fields l. slice_rows options.slice (sorted (sort_keys fields by options) l) in
    let alike = sorts_sure plan root good.faultless fits root input by options g.there under at rows (subst (λ i. Same rows (rows_of plan i)) is same) in
    ap (λ x. rows_of (record { nodes = gather_nodes x; frames = record { schema = schema_of plan n; rows = rows } ∷ [] }) 1) at
    ∙ gather-rows (schema_of plan n) rows by options input
    ∙ ap (λ i. list (schema_of plan i) rows) is
    ∙ sym (ap (λ f. list f rows) schema)
    ∙ alike
    ∙ ap (λ f. list f (rows_of plan input)) schema
    ∙ sym (rows-granted plan root root good under ∙ ap (node_rows plan.frames (schema_of plan) (rows_of plan)) at)
