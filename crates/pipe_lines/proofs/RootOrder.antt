-- The order of the root's rows, where the root is a sort: its sink is due these rows, and the leg into
-- that begins at the root.
use Rattle.std.proofs.Common.{◌≡◌, ℕ, ◌<◌, Bool, true, false, cond, ◌==◌, List, [], ◌∷◌, length, Option, Some, None, refl, ap, sym, subst, ◌∙◌}
use Rattle.std.specs.Prelude.{codes}
use Rattle.pipe_schema.specs.Rows.{Row}
use Rattle.pipe_plan.specs.Faults.{IsWellFormed}
use Rattle.pipe_plan.specs.Node.{Node}
use Rattle.pipe_plan.specs.Node as node
use Rattle.pipe_plan.specs.PlanRows.{rows_of}
use Rattle.pipe_plan.specs.Under.{is_under, node_at}
use Rattle.pipe_source.specs.Endings.{source_rows}
use Rattle.pipe_source.specs.Supplies.{source_text}
use Rattle.pipe_source.specs.declared.phys_source.PhysSource.{PhysSource}
use Rattle.pipe_source.specs.declared.phys_source.PhysSource.TheVariants.{Frame, Union, ReProject}
use Rattle.pipe_driver.specs.declared.branch.SinkAt.{SinkAt}
use Rattle.pipe_driver.specs.declared.branch.SinkAt.TheVariants as at
use Rattle.pipe_driver.specs.Texts.{node_word}
use Rattle.pipe_driver.specs.Shape.{below_sink, is_sorting, kind_at, kind_of}
use Rattle.pipe_driver.proofs.Tests.{and-both, eq-true}
use Rattle.pipe_run.specs.declared.stage.Stage.{Stage}
use Rattle.pipe_slots.specs.declared.phys_operator.PhysOperator.{PhysOperator}
use Rattle.pipe_check.specs.Checked.{Checked}
use Rattle.pipe_convert.specs.Nodes.{IsUnder, plan_in, nodes_in, rows_in, meaning_in}
use Rattle.pipe_convert.specs.Sources.{IsSourceAt}
use Rattle.pipe_convert.specs.Steps.{GoesAlong, GoesThrough, IsGiven, last_of}
use Rattle.pipe_engine.proofs.Wholes.{nil_right}
use Rattle.pipe_engine.specs.Engine.{IsFrameOf}
use Rattle.pipe_engine.specs.Stands.{BeginsInOrder, IsInOrder, KeepsOrder, Settings}
use Rattle.pipe_lines.specs.Made.{AreStagesAt, Specs, lets_through, order_in, sorts_rows}
use Rattle.pipe_lines.proofs.SpecAt.{lets, sorts_there}

-- ---- what the root's sink is due

in_order_where : (b : Bool) (due rows : List Row) → rows ≡ due → IsInOrder (cond b (Some due) None) rows
in_order_where true due rows e = e
in_order_where false due rows e = tt

pub due_in_order : (plan : Checked) → IsInOrder (order_in plan) ((meaning_in plan).below (length (nodes_in plan)))
due_in_order plan =
    let size = length (nodes_in plan) in
    let rows = rows_of (plan_in plan) in
    in_order_where (sorts_rows (node_at (nodes_in plan) plan.root)) (rows plan.root) ((meaning_in plan).below size)
    (ap (λ b. cond b (rows plan.root) (rows (below_sink (kind_at (nodes_in plan) size)))) (eq-true size size refl))

order_where : (b : Bool) (due rows : List Row) → b ≡ true → IsInOrder (cond b (Some due) None) rows → rows ≡ due
order_where true due rows is order = order
order_where false due rows is order = cc

-- rows in the root's order are the root's, where that is a sort
pub order_is : (plan : Checked) (order : Option (List Row)) (rows : List Row) → order ≡ order_in plan → sorts_rows (node_at (nodes_in plan) plan.root) ≡ true → IsInOrder order rows → rows ≡ rows_in plan plan.root
order_is plan order rows is sort has =
    let P : Option (List Row) → Type 0 = λ o. IsInOrder o rows in
    order_where (sorts_rows (node_at (nodes_in plan) plan.root)) (rows_in plan plan.root) rows sort (subst P is has)

-- ---- where the leg into the root's sink begins

not_through : (x : Node) → lets_through x ≡ true → sorts_rows x ≡ true → ⊥
not_through (node.DataFrameScan frame columns) lets sort = let z : false ≡ true = sort in cc
not_through (node.Filter input predicate) lets sort = let z : false ≡ true = sort in cc
not_through (node.SimpleProjection input columns) lets sort = let z : false ≡ true = sort in cc
not_through (node.Select input exprs) lets sort = let z : false ≡ true = sort in cc
not_through (node.HStack input exprs) lets sort = let z : false ≡ true = sort in cc
not_through (node.MapFunction input function) lets sort = let z : false ≡ true = sort in cc
not_through (node.Union inputs) lets sort = let z : false ≡ true = sort in cc
not_through (node.Join left right left_on right_on options) lets sort = let z : false ≡ true = sort in cc
not_through (node.Sort input by options) lets sort = let z : false ≡ true = lets in cc

sorting : (nodes : List Node) (x : Node) → sorts_rows x ≡ true → is_sorting (kind_of nodes x) ≡ true
sorting nodes (node.DataFrameScan frame columns) sort = let z : false ≡ true = sort in cc
sorting nodes (node.Filter input predicate) sort = let z : false ≡ true = sort in cc
sorting nodes (node.SimpleProjection input columns) sort = let z : false ≡ true = sort in cc
sorting nodes (node.Select input exprs) sort = let z : false ≡ true = sort in cc
sorting nodes (node.HStack input exprs) sort = let z : false ≡ true = sort in cc
sorting nodes (node.MapFunction input function) sort = let z : false ≡ true = sort in cc
sorting nodes (node.Union inputs) sort = let z : false ≡ true = sort in cc
sorting nodes (node.Join left right left_on right_on options) sort = let z : false ≡ true = sort in cc
sorting nodes (node.Sort input by options) sort = refl

is_sort_there : (plan : Checked) (n : ℕ) → IsUnder plan n → sorts_rows (node_at (nodes_in plan) n) ≡ true → (meaning_in plan).is_sort n ≡ true
is_sort_there plan n under sort = and-both (is_under (nodes_in plan) plan.root n) (is_sorting (kind_at (nodes_in plan) n)) under (sorting (nodes_in plan) (node_at (nodes_in plan) n) sort)

-- no rows go through a sort
ends_elsewhere : (plan : Checked) (given n : ℕ) (ns : List ℕ) → IsWellFormed (plan_in plan) plan.root → GoesAlong plan given (n ∷ ns) → last_of n ns ≡ plan.root → sorts_rows (node_at (nodes_in plan) plan.root) ≡ true → ⊥
ends_elsewhere plan given n [] good along last sort = not_through (node_at (nodes_in plan) n) (lets plan n given good along.0) (ap (λ k. sorts_rows (node_at (nodes_in plan) k)) last ∙ sort)
ends_elsewhere plan given n (k ∷ ns) good along last sort = ends_elsewhere plan n k ns good along.1 last sort

no_stages : {H : Type 0} (plan : Checked) (specs : Specs) (start : ℕ) (stages : List (Stage (PhysOperator H))) → AreStagesAt plan specs start stages [] → stages ≡ []
no_stages plan specs start [] are = refl
no_stages plan specs start (stage ∷ stages) are = absurd are

begins_where : {H : Type 0} (plan : Checked) (specs : Specs) (start : ℕ) (ops : List ℕ) (stages : List (Stage (PhysOperator H))) (b : Bool) → sorts_rows (node_at (nodes_in plan) plan.root) ≡ b → IsWellFormed (plan_in plan) plan.root → IsUnder plan start → GoesAlong plan start ops → last_of start ops ≡ plan.root → AreStagesAt plan specs start stages ops
    → BeginsInOrder (meaning_in plan) start stages (cond b (Some (rows_in plan plan.root)) None)
begins_where plan specs start ops stages false is good under along last are = tt
begins_where plan specs start [] stages true is good under along last are = (
  is_sort_there plan start under (ap (λ k. sorts_rows (node_at (nodes_in plan) k)) last ∙ is),
  no_stages plan specs start stages are,
  ap (rows_of (plan_in plan)) last,
)
begins_where plan specs start (n ∷ ns) stages true is good under along last are = absurd (ends_elsewhere plan start n ns good along last is)

-- a leg into the root's sink begins at the root, where that is a sort
pub keeps_order : {H : Type 0} (plan : Checked) (specs : Specs) (x : Settings H) (start : ℕ) (ops : List ℕ) (stages : List (Stage (PhysOperator H))) (a : SinkAt) → x.order ≡ order_in plan → IsWellFormed (plan_in plan) plan.root → IsUnder plan start → GoesAlong plan start ops → IsGiven plan a (last_of start ops) → AreStagesAt plan specs start stages ops
    → KeepsOrder x (meaning_in plan) start stages a
keeps_order {H = H} plan specs x start ops stages at.Ordered order good under along given are =
    let P : Option (List Row) → Type 0 = BeginsInOrder (meaning_in plan) start stages in
    subst P (sym order) (begins_where plan specs start ops stages (sorts_rows (node_at (nodes_in plan) plan.root)) refl good under along given are)
keeps_order plan specs x start ops stages (at.Sort n) order good under along given are = tt
keeps_order plan specs x start ops stages (at.Build n) order good under along given are = tt

-- ---- the sources of branches

-- a sort is the source of no branch but by its frame
no_union : (x : Node) → sorts_rows x ≡ true → codes "union" ≡ node_word x → ⊥
no_union (node.DataFrameScan frame columns) sort word = let z : false ≡ true = sort in cc
no_union (node.Filter input predicate) sort word = let z : false ≡ true = sort in cc
no_union (node.SimpleProjection input columns) sort word = let z : false ≡ true = sort in cc
no_union (node.Select input exprs) sort word = let z : false ≡ true = sort in cc
no_union (node.HStack input exprs) sort word = let z : false ≡ true = sort in cc
no_union (node.MapFunction input function) sort word = let z : false ≡ true = sort in cc
no_union (node.Union inputs) sort word = let z : false ≡ true = sort in cc
no_union (node.Join left right left_on right_on options) sort word = let z : false ≡ true = sort in cc
no_union (node.Sort input by options) sort word = let z : codes "union" ≡ codes "sort" = word in cc

no_reproject : (x : Node) → sorts_rows x ≡ true → codes "re-project-source" ≡ node_word x → ⊥
no_reproject (node.DataFrameScan frame columns) sort word = let z : false ≡ true = sort in cc
no_reproject (node.Filter input predicate) sort word = let z : false ≡ true = sort in cc
no_reproject (node.SimpleProjection input columns) sort word = let z : false ≡ true = sort in cc
no_reproject (node.Select input exprs) sort word = let z : false ≡ true = sort in cc
no_reproject (node.HStack input exprs) sort word = let z : false ≡ true = sort in cc
no_reproject (node.MapFunction input function) sort word = let z : false ≡ true = sort in cc
no_reproject (node.Union inputs) sort word = let z : false ≡ true = sort in cc
no_reproject (node.Join left right left_on right_on options) sort word = let z : false ≡ true = sort in cc
no_reproject (node.Sort input by options) sort word = let z : codes "re-project-source" ≡ codes "sort" = word in cc

frame_where : (plan : Checked) (n : ℕ) (source : PhysSource) → sorts_rows (node_at (nodes_in plan) n) ≡ true → source_text source ≡ node_word (node_at (nodes_in plan) n) → source_rows source ≡ rows_in plan n → IsFrameOf (rows_in plan n) source
frame_where plan n (Frame left) sort text rows = sym (nil_right left.rows) ∙ rows
frame_where plan n (Union supply) sort text rows = no_union (node_at (nodes_in plan) n) sort text
frame_where plan n (ReProject supply) sort text rows = no_reproject (node_at (nodes_in plan) n) sort text

pub source_order : (plan : Checked) (n : ℕ) (source : PhysSource) → IsSourceAt plan n source → (meaning_in plan).is_sort n ≡ true → IsFrameOf (rows_in plan n) source
source_order plan n source is sort = frame_where plan n source (sorts_there plan n sort) is.text is.rows
