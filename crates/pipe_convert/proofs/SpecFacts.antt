-- The spec of a join means what the node means.
use Rattle.std.proofs.Common.{◌≡◌, ℕ, ◌<◌, Bool, true, false, cond, ◌==◌, List, length, ap, sym, ◌∙◌, arith}
use Rattle.pipe_schema.specs.Rows.{Row}
use Rattle.pipe_schema.specs.declared.field.Field.{Field}
use Rattle.pipe_expr.specs.Formula.{Formula}
use Rattle.pipe_expr.specs.Joins.{Join, join_fields}
use Rattle.pipe_expr.specs.Shares.{probe_share, built_share}
use Rattle.pipe_plan.specs.Faults.{IsWellFormed}
use Rattle.pipe_plan.specs.Node as node
use Rattle.pipe_plan.specs.PlanRows.{rows_of}
use Rattle.pipe_plan.specs.Schemas.{schema_of, join_over}
use Rattle.pipe_plan.specs.Swap.{swaps}
use Rattle.pipe_plan.specs.declared.ir.JoinOptions.{JoinOptions}
use Rattle.pipe_driver.specs.Branches.{built_side, probed_side}
use Rattle.pipe_driver.specs.Texts.{build_word, build_word_of}
use Rattle.pipe_events.specs.Stages.{JoinStage, Joined, through, flushes, flushes_by}
use Rattle.pipe_events.specs.PlanStages.{stage_at, join_stage}
use Rattle.pipe_table.specs.Spec.{IsSpec, settings_of}
use Rattle.pipe_table.specs.declared.spec.JoinSpec.{JoinSpec}
use Rattle.pipe_check.specs.Checked.{Checked}
use Rattle.pipe_convert.specs.Converted.{IsNode, schema_in}
use Rattle.pipe_convert.proofs.Granted.{granted}
use Rattle.pipe_driver.specs.Meaning.{join_own}
use Rattle.pipe_driver.specs.Shape.{Joins, kind_of, kind_at, below_sink, probed_of}
use Rattle.pipe_driver.proofs.Tests.{eq-false}
use Rattle.pipe_convert.specs.Nodes.{plan_in, nodes_in, meaning_in}
use Rattle.pipe_convert.specs.Joins.{IsSpecOf, built_in}

-- a side's schema by the side that is built
by_side : (schema : ℕ → List Field) (s t : Bool) → s ≡ t → (l r : ℕ) (ls rs : List Field) → ls ≡ schema l → rs ≡ schema r → cond s ls rs ≡ schema (cond t l r)
by_side schema s true e l r ls rs le re = ap (λ b. cond b ls rs) e ∙ le
by_side schema s false e l r ls rs le re = ap (λ b. cond b ls rs) e ∙ re

module _ (plan : Checked) (n left right : ℕ) (left_on right_on : List Formula) (options : JoinOptions) (good : IsWellFormed (plan_in plan) plan.root) (at_n : IsNode plan n (node.Join left right left_on right_on options)) where
  abbrev built : ℕ
  built = built_side left right options

  abbrev probed : ℕ
  probed = probed_side left right options

  abbrev rows : ℕ → List Row
  rows = rows_of (plan_in plan)

  pub kind_is : kind_at (nodes_in plan) n ≡ Joins built probed
  kind_is = ap (kind_of (nodes_in plan)) at_n.is

  abbrev stage : JoinStage
  stage = join_stage (schema_of (plan_in plan)) left right left_on right_on options

  pub staged : stage_at (plan_in plan) plan.root n ≡ Joined stage
  staged = (granted (plan_in plan) plan.root n (node.Join left right left_on right_on options) good at_n.under at_n.is).staged

  pub low : n < length (nodes_in plan)
  low = (granted (plan_in plan) plan.root n (node.Join left right left_on right_on options) good at_n.under at_n.is).there

  pub below_is : (meaning_in plan).below n ≡ rows built
  below_is =
      let other : (n == length (nodes_in plan)) ≡ false = eq-false n (length (nodes_in plan)) (λ e. (let lt = low in omega arith)) in
      ap (λ b. cond b (rows plan.root) (rows (below_sink (kind_at (nodes_in plan) n)))) other ∙ ap (λ k. rows (below_sink k)) kind_is

  pub probed_is : (meaning_in plan).probed n ≡ probed
  probed_is = ap probed_of kind_is

  pub built_is : built_in plan n ≡ built
  built_is = ap below_sink kind_is

  pub spec_is : (spec : JoinSpec) → IsSpec spec → settings_of spec ≡ join_over (schema_in plan left) (schema_in plan right) left_on right_on options → spec.swapped ≡ swaps options → IsSpecOf plan n spec
  spec_is spec sound same side =
      let p = plan_in plan in
      let join : Join = join_over (schema_in plan left) (schema_in plan right) left_on right_on options in
      let made = (granted p plan.root n (node.Join left right left_on right_on options) good at_n.under at_n.is).made in
      let lefts : spec.left_schema ≡ schema_in plan left = ap (λ j. j.left) same in
      let rights : spec.right_schema ≡ schema_in plan right = ap (λ j. j.right) same in
      record {
        good = sound;
        word = ap (λ j. build_word_of j.how) same ∙ sym (ap build_word at_n.is);
        probed = by_side (schema_in plan) spec.swapped (swaps options) side left right spec.left_schema spec.right_schema lefts rights ∙ ap (schema_in plan) (sym probed_is);
        built = by_side (schema_in plan) spec.swapped (swaps options) side right left spec.right_schema spec.left_schema rights lefts ∙ ap (schema_in plan) (sym built_is);
        output = ap join_fields same ∙ sym made;
        each = ap (through rows) staged
            ∙ ap (λ s. probe_share join s (rows built)) (sym side)
            ∙ ap (λ j. probe_share j spec.swapped (rows built)) (sym same)
            ∙ ap (probe_share (settings_of spec) spec.swapped) (sym below_is);
        own = ap (join_own rows) staged
            ∙ ap (λ s. built_share join s (rows probed) (rows built)) (sym side)
            ∙ ap (λ j. built_share j spec.swapped (rows probed) (rows built)) (sym same)
            ∙ ap (λ k. built_share (settings_of spec) spec.swapped (rows k) (rows built)) (sym probed_is)
            ∙ ap (built_share (settings_of spec) spec.swapped (rows ((meaning_in plan).probed n))) (sym below_is);
        flushing = λ j e. (
            let f : Joined j ≡ Joined stage = sym e ∙ staged in
            let g : j ≡ stage = cc in
            ap flushes g ∙ ap (λ k. flushes_by k (swaps options)) (sym (ap (λ i. i.how) same)) ∙ ap (flushes_by spec.how) (sym side));
      }
