-- A join's spec stands for the join in a run.
use Rattle.std.proofs.Common.{◌≡◌, ℕ, Bool, true, false, cond, List, refl, ap, sym, subst, ◌∙◌}
use Rattle.pipe_schema.specs.declared.field.Field.{Field}
use Rattle.pipe_expr.specs.Joins.{join_fields, makes_pairs, pair_fields}
use Rattle.pipe_expr.specs.declared.join_words.JoinType.{JoinType}
use Rattle.pipe_expr.specs.declared.join_words.JoinType.TheVariants as how
use Rattle.pipe_table.specs.Spec.{settings_of, built_schema, probed_schema, fits_side}
use Rattle.pipe_table.specs.declared.spec.JoinSpec.{JoinSpec}
use Rattle.pipe_probe.specs.Probed.{keeps_probed}
use Rattle.pipe_slots.specs.Kinds.{kind_of}
use Rattle.pipe_slots.specs.JoinWords.{takes_join, output_join}
use Rattle.pipe_driver.specs.declared.branch.SinkAt.{SinkAt}
use Rattle.pipe_slots.specs.Sinks.{SinkSetting}
use Rattle.pipe_engine.specs.Stands.{IsJoinOf}
use Rattle.pipe_check.specs.Checked.{Checked}
use Rattle.pipe_convert.specs.Joins.{IsSpecOf, spec_at}
use Rattle.pipe_lines.specs.Made.{Specs, settings_with}
use Rattle.pipe_convert.specs.Nodes.{meaning_in}

takes_by : (spec : JoinSpec) (s : List Field) (h : JoinType) (w : Bool) → spec.how ≡ h → spec.swapped ≡ w → fits_side h w ≡ true → s ≡ probed_schema spec → takes_join (kind_of h w) spec s
takes_by spec s how.Inner w e f fits same = (ap (λ k. keeps_probed k spec.swapped) e, same)
takes_by spec s how.Left w e f fits same = (ap (λ k. keeps_probed k spec.swapped) e ∙ f ∙ fits, same)
takes_by spec s how.Full w e f fits same = same
takes_by spec s how.Cross w e f fits same = (e, same)
takes_by spec s how.Semi true e f fits same = (ap (λ k. keeps_probed k spec.swapped) e ∙ f, same)
takes_by spec s how.Semi false e f fits same = same
takes_by spec s how.Anti true e f fits same = (ap (λ k. keeps_probed k spec.swapped) e ∙ f, same)
takes_by spec s how.Anti false e f fits same = same

left_kept : (spec : JoinSpec) (h : JoinType) → spec.how ≡ h → makes_pairs h ≡ false → spec.swapped ≡ false → built_schema spec ≡ join_fields (settings_of spec)
left_kept spec h e none f =
    ap (λ b. cond b spec.right_schema spec.left_schema) f
    ∙ sym (ap (λ b. cond b (pair_fields (settings_of spec)) spec.left_schema) (ap makes_pairs e ∙ none))

output_by : (spec : JoinSpec) (h : JoinType) (w : Bool) → spec.how ≡ h → spec.swapped ≡ w → output_join (kind_of h w) spec ≡ join_fields (settings_of spec)
output_by spec how.Inner w e f = refl
output_by spec how.Left w e f = refl
output_by spec how.Full w e f = refl
output_by spec how.Cross w e f = refl
output_by spec how.Semi true e f = refl
output_by spec how.Semi false e f = left_kept spec how.Semi e refl f
output_by spec how.Anti true e f = refl
output_by spec how.Anti false e f = left_kept spec how.Anti e refl f

pub join_stands : {H : Type 0} (plan : Checked) (specs : Specs) (n : ℕ) (sinks : SinkAt → SinkSetting H) (hasher : H) (parts : ℕ) → (meaning_in plan).is_join n ≡ true → IsSpecOf plan n (spec_at specs n) → IsJoinOf (settings_with plan specs sinks hasher parts) (meaning_in plan) n
join_stands plan specs n sinks hasher parts join is =
    let spec = spec_at specs n in
    record {
      is_join = join;
      good = is.good;
      takes = takes_by spec _ spec.how spec.swapped refl refl is.good.side (sym is.probed);
      output = output_by spec spec.how spec.swapped refl refl ∙ is.output;
      each = is.each;
      own = is.own;
    }
