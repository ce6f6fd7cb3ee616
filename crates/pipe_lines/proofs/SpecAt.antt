-- A join's settings and a sink, found by their numbers; what rows go through, and what sorts them.
use Rattle.std.proofs.Common.{◌≡◌, ◌⊎◌, inl, inr, ℕ, zero, suc, arith, ◌<◌, true, false, List, [], ◌∷◌, length, get_or, Option, Some, None, refl, ap, sym, subst, ◌∙◌}
use Rattle.std.specs.Prelude.{slice_index_or}
use Rattle.std.specs.declared.alloc.Global.{Global}
use Rattle.std.specs.declared.sync.Arc.{Arc}
use Rattle.pipe_plan.specs.Faults.{IsWellFormed}
use Rattle.pipe_plan.specs.Node.{Node}
use Rattle.pipe_plan.specs.Node as node
use Rattle.pipe_plan.specs.Under.{node_at}
use Rattle.pipe_driver.specs.Chains.{goes_through}
use Rattle.pipe_expr.specs.declared.join_words.JoinType.{JoinType}
use Rattle.pipe_expr.specs.declared.join_words.JoinType.TheVariants as how
use Rattle.pipe_table.specs.declared.spec.JoinSpec.{JoinSpec}
use Rattle.pipe_check.specs.Checked.{Checked}
use Rattle.pipe_convert.proofs.Granted.{granted}
use Rattle.pipe_convert.specs.Joins.{AreSpecs, IsSpecOf, IsSomeSpecOf, spec_at, spec_or_none}
use Rattle.pipe_convert.specs.Nodes.{IsUnder, plan_in, nodes_in, meaning_in}
use Rattle.pipe_convert.specs.Steps.{GoesThrough, stage_in}
use Rattle.pipe_convert.proofs.JoinNodes.{not_sorting, union_not_sorting, same_at, some_spec, spec_of_some}
use Rattle.pipe_driver.specs.declared.branch.SinkAt.{SinkAt}
use Rattle.pipe_driver.specs.Legs.{sink_node}
use Rattle.pipe_slots.specs.declared.phys_sink.PhysSink.{PhysSink}
use Rattle.pipe_convert.specs.Steps.{IsThere}
use Rattle.pipe_lines.specs.Layouts.{IsLayout}
use Rattle.pipe_lines.specs.Made.{Specs, lets_through, sorts_rows, sink_at, IsSomeSinkAt}
use Rattle.pipe_lines.specs.declared.layout.Layout.{Layout}

-- ---- a join's settings

settled : (plan : Checked) (specs : Specs) (n : ℕ) (found : Option (Arc JoinSpec Global)) → AreSpecs plan specs → (meaning_in plan).is_join n ≡ true → found ≡ slice_index_or specs n None → IsSomeSpecOf plan n found × (spec_or_none found ≡ spec_at specs n)
settled plan specs n found are join same = (rw same (are.each n join), ap spec_or_none same)

-- a join has settings
pub spec_some : (plan : Checked) (specs : Specs) (n : ℕ) (found : Option (Arc JoinSpec Global)) → AreSpecs plan specs → (meaning_in plan).is_join n ≡ true → found ≡ slice_index_or specs n None → found ≡ None → ⊥
spec_some plan specs n found are join same none = some_spec plan n found (settled plan specs n found are join same).0 none

-- and they are its own
pub spec_is : (plan : Checked) (specs : Specs) (n : ℕ) (found : Option (Arc JoinSpec Global)) (arc : Arc JoinSpec Global) → AreSpecs plan specs → (meaning_in plan).is_join n ≡ true → found ≡ slice_index_or specs n None → found ≡ Some arc → IsSpecOf plan n arc.value × (arc.value ≡ spec_at specs n)
spec_is plan specs n found arc are join same is = spec_of_some plan specs n found arc is (settled plan specs n found are join same)

-- a join whose kind is another than that of all pairs has keys
pub not_cross : (h : JoinType) → (h ≡ how.Inner) ⊎ ((h ≡ how.Left) ⊎ ((h ≡ how.Full) ⊎ ((h ≡ how.Semi) ⊎ (h ≡ how.Anti)))) → h ≡ how.Cross → ⊥
not_cross h (inl e) cross = let f : how.Inner ≡ how.Cross = sym e ∙ cross in cc
not_cross h (inr (inl e)) cross = let f : how.Left ≡ how.Cross = sym e ∙ cross in cc
not_cross h (inr (inr (inl e))) cross = let f : how.Full ≡ how.Cross = sym e ∙ cross in cc
not_cross h (inr (inr (inr (inl e)))) cross = let f : how.Semi ≡ how.Cross = sym e ∙ cross in cc
not_cross h (inr (inr (inr (inr e)))) cross = let f : how.Anti ≡ how.Cross = sym e ∙ cross in cc

-- ---- what sorts rows

sorts_at : (plan : Checked) (n : ℕ) → (meaning_in plan).is_sort n ≡ true → (x : Node) → node_at (nodes_in plan) n ≡ x → sorts_rows x ≡ true
sorts_at plan n sort (node.DataFrameScan frame columns) is = absurd (not_sorting plan n (node.DataFrameScan frame columns) is refl sort)
sorts_at plan n sort (node.Filter input predicate) is = absurd (not_sorting plan n (node.Filter input predicate) is refl sort)
sorts_at plan n sort (node.SimpleProjection input columns) is = absurd (not_sorting plan n (node.SimpleProjection input columns) is refl sort)
sorts_at plan n sort (node.Select input exprs) is = absurd (not_sorting plan n (node.Select input exprs) is refl sort)
sorts_at plan n sort (node.HStack input exprs) is = absurd (not_sorting plan n (node.HStack input exprs) is refl sort)
sorts_at plan n sort (node.MapFunction input function) is = absurd (not_sorting plan n (node.MapFunction input function) is refl sort)
sorts_at plan n sort (node.Union inputs) is = absurd (not_sorting plan n (node.Union inputs) is (union_not_sorting plan inputs) sort)
sorts_at plan n sort (node.Join left right left_on right_on options) is = absurd (not_sorting plan n (node.Join left right left_on right_on options) is refl sort)
sorts_at plan n sort (node.Sort input by options) is = refl

pub sorts_there : (plan : Checked) (n : ℕ) → (meaning_in plan).is_sort n ≡ true → sorts_rows (node_at (nodes_in plan) n) ≡ true
sorts_there plan n sort = sorts_at plan n sort (node_at (nodes_in plan) n) refl

-- ---- where rows go

lets_at : (plan : Checked) (n given : ℕ) → IsWellFormed (plan_in plan) plan.root → IsUnder plan n → goes_through (stage_in plan n) given ≡ true → (x : Node) → node_at (nodes_in plan) n ≡ x → lets_through x ≡ true
lets_at plan n given good under through (node.DataFrameScan frame columns) is =
    let g = granted (plan_in plan) plan.root n (node.DataFrameScan frame columns) good under is in
    let t = sym (ap (λ s. goes_through s given) g.staged) ∙ through in cc
lets_at plan n given good under through (node.Filter input predicate) is = refl
lets_at plan n given good under through (node.SimpleProjection input columns) is = refl
lets_at plan n given good under through (node.Select input exprs) is = refl
lets_at plan n given good under through (node.HStack input exprs) is = refl
lets_at plan n given good under through (node.MapFunction input function) is = refl
lets_at plan n given good under through (node.Union inputs) is = refl
lets_at plan n given good under through (node.Join left right left_on right_on options) is = refl
lets_at plan n given good under through (node.Sort input by options) is =
    let g = granted (plan_in plan) plan.root n (node.Sort input by options) good under is in
    let t = sym (ap (λ s. goes_through s given) g.staged) ∙ through in cc

pub lets : (plan : Checked) (n given : ℕ) → IsWellFormed (plan_in plan) plan.root → GoesThrough plan given n → lets_through (node_at (nodes_in plan) n) ≡ true
lets plan n given good goes = lets_at plan n given good goes.under goes.through (node_at (nodes_in plan) n) refl

-- ---- a sink

module _ {H : Type 0} (plan : Checked) (layout : Layout H) (a : SinkAt) (place : ℕ) where
  some_there : (o : Option (PhysSink H)) → IsSomeSinkAt plan layout.specs.items layout.hasher layout.parts a o → o ≡ None → ⊥
  some_there None is none = is
  some_there (Some k) is none = cc

  listed : (xs : List (Option (PhysSink H))) (n : ℕ) → (slice_index_or xs n None ≡ None → ⊥) → n < length xs
  listed [] n some = absurd (some refl)
  listed (x ∷ xs) zero some = omega arith
  listed (x ∷ xs) (suc n) some = let l = listed xs n some in omega arith

  -- each place has a sink
  pub sink_there_at : IsLayout plan layout → IsThere (meaning_in plan) a → place ≡ sink_node (length (nodes_in plan)) a → place < length layout.sinks.items
  sink_there_at is there e = let l = listed layout.sinks.items (sink_node (length (nodes_in plan)) a) (some_there (sink_at plan layout.sinks.items a) (is.sinks.each a there)) in omega arith

  pub sink_found : (found : Option (PhysSink H)) → IsLayout plan layout → IsThere (meaning_in plan) a → place ≡ sink_node (length (nodes_in plan)) a → found ≡ get_or layout.sinks.items place found → found ≡ sink_at plan layout.sinks.items a
  sink_found found is there e same = same ∙ same_at layout.sinks.items place found None (sink_there_at is there e) ∙ ap (λ n. slice_index_or layout.sinks.items n None) e

  pub sink_some : (found : Option (PhysSink H)) → IsLayout plan layout → IsThere (meaning_in plan) a → place ≡ sink_node (length (nodes_in plan)) a → found ≡ get_or layout.sinks.items place found → found ≡ None → ⊥
  sink_some found is there e same none = some_there (sink_at plan layout.sinks.items a) (is.sinks.each a there) (sym (sink_found found is there e same) ∙ none)
