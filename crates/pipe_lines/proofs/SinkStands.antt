-- The sinks that are made stand for their places in a run.
use Rattle.std.proofs.Common.{◌≡◌, ℕ, Bool, true, false, cond, ◌==◌, List, [], refl, ap, sym, subst, ◌∙◌}
use Rattle.pipe_schema.specs.Rows.{Row, Same}
use Rattle.pipe_schema.specs.declared.field.Field.{Field}
use Rattle.pipe_expr.specs.declared.join_words.JoinType.{JoinType}
use Rattle.pipe_expr.specs.declared.join_words.JoinType.TheVariants as how
use Rattle.pipe_plan.specs.Faults.{IsWellFormed}
use Rattle.pipe_plan.specs.Node as node
use Rattle.pipe_plan.specs.PlanRows.{rows_of}
use Rattle.pipe_plan.specs.declared.ir.SortOptions.{SortOptions}
use Rattle.pipe_driver.specs.declared.branch.SinkAt.TheVariants as at
use Rattle.pipe_driver.specs.Texts.{build_word_of}
use Rattle.pipe_events.specs.Worlds.{ends}
use Rattle.pipe_sort.specs.SortKeys.{Sorting, sort_rows}
use Rattle.pipe_source.specs.Ordered.{Ordered}
use Rattle.pipe_table.specs.Kept.{BuildRows}
use Rattle.pipe_table.specs.Spec.{built_schema, settings_of}
use Rattle.pipe_table.specs.declared.spec.JoinSpec.{JoinSpec}
use Rattle.pipe_probe.specs.Cross.{CrossRows}
use Rattle.pipe_check.specs.Checked.{Checked}
use Rattle.pipe_convert.specs.Converted.{IsNode, schema_in}
use Rattle.pipe_convert.specs.Converted as convert
use Rattle.pipe_driver.proofs.Tests.{eq-is}
use Rattle.pipe_slots.specs.declared.phys_sink.PhysSink.TheVariants.{Ordered as OfRoot, Sort as OfSort, Build as OfBuild, Cross as OfCross}
use Rattle.pipe_convert.specs.Joins.{IsSpecOf, spec_at, built_in}
use Rattle.pipe_lines.specs.Made.{Specs, IsSinkAt}
use Rattle.pipe_convert.specs.Nodes.{plan_in, nodes_in, rows_in, meaning_in}
use Rattle.pipe_convert.specs.Steps.{EndsIn, stage_in}
use Rattle.pipe_convert.proofs.JoinNodes.{join_node, sorts}
use Rattle.pipe_lines.proofs.JoinStands.{join_stands}
use Rattle.pipe_convert.proofs.NodeRows.{sort_rows as rows_sorted}
use Rattle.pipe_lines.proofs.RootOrder.{due_in_order}
use Rattle.pipe_lines.proofs.SortRows.{below_sort}
use Rattle.pipe_convert.proofs.SpecFacts.{staged, built_is}

-- ---- the root

pub root_sink : {H : Type 0} (plan : Checked) (specs : Specs) (hasher : H) (parts : ℕ) (k : Ordered) → k.schema ≡ schema_in plan plan.root → k.chunks ≡ [] → IsSinkAt plan specs hasher parts at.Ordered (OfRoot k)
root_sink plan specs hasher parts k schema none = record {
  schema = λ given g. schema ∙ ap (schema_in plan) (sym g);
  ends = λ sinks. due_in_order plan;
  empty = rw none refl;
  text = refl;
}

-- ---- sorts

pub sort_stands : {H : Type 0} (plan : Checked) (specs : Specs) (hasher : H) (parts n input : ℕ) (by : List (List ℕ)) (options : SortOptions) (k : Sorting) → IsWellFormed (plan_in plan) plan.root → IsNode plan n (node.Sort input by options) → convert.IsSinkOf plan n input k → IsSinkAt plan specs hasher parts (at.Sort n) (OfSort k)
sort_stands plan specs hasher parts n input by options k good at_n is =
    let p = plan_in plan in
    let sorted : rows_of p n ≡ sort_rows k.settings.keys k.settings.slice (rows_of p input) = rows_sorted p plan.root n good at_n.under (node.Sort input by options) input (sort_rows k.settings.keys k.settings.slice) at_n.is refl is.sorts in
    let below = below_sort plan n input by options good at_n in
    record {
      schema = λ given g. is.takes_input ∙ ap (schema_in plan) (eq-is input given (sym (ap (λ s. ends s given) is.sorts) ∙ g.ends_there));
      ends = λ sinks. (
        sorts plan n input by options at_n,
        is.gives_output,
        λ held rows same closed. (closed ((meaning_in plan).below n) same ∙ ap (sort_rows k.settings.keys k.settings.slice) below ∙ sym sorted),
      );
      empty = is.empty;
      text = refl;
    }

-- ---- the sides of joins that are built

build_given : (plan : Checked) (specs : Specs) (n given : ℕ) → IsWellFormed (plan_in plan) plan.root → (meaning_in plan).is_join n ≡ true → IsSpecOf plan n (spec_at specs n) → EndsIn plan given n → built_schema (spec_at specs n) ≡ schema_in plan given
build_given plan specs n given good join is g =
    let x = join_node plan n join in
    let stage = staged plan n x.left x.right x.left_on x.right_on x.options good x.at_n in
    is.built ∙ ap (schema_in plan) (built_is plan n x.left x.right x.left_on x.right_on x.options good x.at_n ∙ eq-is _ given (sym (ap (λ s. ends s given) stage) ∙ g.ends_there))

-- the word of the build sink, by the kind of join
word_other : (h : JoinType) → (h ≡ how.Cross → ⊥) → build_word_of h ≡ build_word_of how.Inner
word_other how.Inner no_cross = refl
word_other how.Left no_cross = refl
word_other how.Full no_cross = refl
word_other how.Cross no_cross = absurd (no_cross refl)
word_other how.Semi no_cross = refl
word_other how.Anti no_cross = refl

pub build_stands : {H : Type 0} (plan : Checked) (specs : Specs) (hasher : H) (parts n : ℕ) (k : BuildRows H) → IsWellFormed (plan_in plan) plan.root → (meaning_in plan).is_join n ≡ true → IsSpecOf plan n (spec_at specs n)
    → k ≡ record { spec = spec_at specs n; node = n; parts = parts; hasher = hasher; chunks = []; empty = false } → ((spec_at specs n).how ≡ how.Cross → ⊥) → IsSinkAt plan specs hasher parts (at.Build n) (OfBuild k)
build_stands plan specs hasher parts n k good join is made no_cross =
    record {
      schema = λ given g. ap (λ b. built_schema b.spec) made ∙ build_given plan specs n given good join is g;
      ends = λ sinks. (ap (λ b. b.spec) made, ap (λ b. b.parts) made, ap (λ b. b.hasher) made, no_cross, join_stands plan specs n sinks hasher parts join is);
      empty = rw made refl;
      text = sym (word_other (spec_at specs n).how no_cross) ∙ is.word;
    }

pub cross_stands : {H : Type 0} (plan : Checked) (specs : Specs) (hasher : H) (parts n : ℕ) (k : CrossRows) → IsWellFormed (plan_in plan) plan.root → (meaning_in plan).is_join n ≡ true → IsSpecOf plan n (spec_at specs n)
    → k.schema ≡ built_schema (spec_at specs n) → k.rows ≡ [] → (spec_at specs n).how ≡ how.Cross → IsSinkAt plan specs hasher parts (at.Build n) (OfCross k)
cross_stands plan specs hasher parts n k good join is schema none cross =
    record {
      schema = λ given g. schema ∙ build_given plan specs n given good join is g;
      ends = λ sinks. (schema, cross, join_stands plan specs n sinks hasher parts join is);
      empty = none;
      text = sym (ap build_word_of cross) ∙ is.word;
    }
