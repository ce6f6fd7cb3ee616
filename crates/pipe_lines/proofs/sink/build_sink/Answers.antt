use Rattle.std.proofs.Common.{◌≡◌, [], false, refl, ap, sym, subst, ◌∙◌}
use Rattle.pipe_expr.specs.declared.join_words.JoinType.TheVariants as how
use Rattle.pipe_table.specs.Spec.{built_schema}
use Rattle.pipe_table.specs.declared.spec.JoinSpec.{JoinSpec}
use Rattle.pipe_convert.specs.Joins.{IsSpecOf, spec_at}
use Rattle.pipe_convert.proofs.JoinNodes.{spec_there}
use Rattle.pipe_lines.proofs.SinkStands.{build_stands, cross_stands}
use Rattle.pipe_lines.proofs.SpecAt.{not_cross, spec_some, spec_is}
use Rattle.pipe_lines.proofs.sink.build_sink.Goals as goal

pub settings_of-requires : goal.settings_of-requires
settings_of-requires g c = spec_there c.args.plan.now c.args.specs.now c.args.n c.known_well_formed.ensures c.requires.specs c.requires.join

pub unreachable-requires : goal.unreachable-requires
unreachable-requires g c = spec_some c.args.plan.now c.args.specs.now c.args.n c.settings_of.result.now c.requires.specs c.requires.join c.settings_of.ensures c.in_default.is

pub new-requires-in-Inner : goal.new-requires-in-Inner
new-requires-in-Inner g c =
    let is = spec_is c.args.plan.now c.args.specs.now c.args.n c.settings_of.result.now c.in-Some.spec c.requires.specs c.requires.join c.settings_of.ensures c.in-Some.is in
    record { good = rw c.in_ok-clone-in-Inner.ensures.cases is.0.good; parts = c.requires.parts }

pub returns-in_ok-schema-in-Cross : goal.returns-in_ok-schema-in-Cross
returns-in_ok-schema-in-Cross g c =
    let plan = c.args.plan.now in
    let specs = c.args.specs.now in
    let n = c.args.n in
    let is = spec_is plan specs n c.settings_of.result.now c.in-Some.spec c.requires.specs c.requires.join c.settings_of.ensures c.in-Some.is in
    let P : JoinSpec → Type 0 = IsSpecOf plan n in
    let own : IsSpecOf plan n (spec_at specs n) = subst P is.1 is.0 in
    let cross : (spec_at specs n).how ≡ how.Cross = sym (ap (λ (s : JoinSpec). s.how) (c.deref.ensures ∙ is.1)) ∙ c.in-Cross.is in
    rw c.new.ensures (cross_stands plan specs c.args.hasher c.args.parts n (record { schema = c.in_ok-schema-in-Cross.schema; node = n; rows = [] }) c.known_well_formed.ensures c.requires.join own
    (c.in_ok-schema-in-Cross.ensures ∙ c.built_schema.ensures ∙ ap built_schema (c.deref-in-Cross.ensures ∙ is.1)) refl cross)

pub returns-in_ok-build-in-Inner : goal.returns-in_ok-build-in-Inner
returns-in_ok-build-in-Inner g c =
    let plan = c.args.plan.now in
    let specs = c.args.specs.now in
    let n = c.args.n in
    let is = spec_is plan specs n c.settings_of.result.now c.in-Some.spec c.requires.specs c.requires.join c.settings_of.ensures c.in-Some.is in
    let P : JoinSpec → Type 0 = IsSpecOf plan n in
    let own : IsSpecOf plan n (spec_at specs n) = subst P is.1 is.0 in
    let keyed : (spec_at specs n).how ≡ how.Cross → ⊥ = λ cross. not_cross c.deref.result.now.how c.in-Inner.is (ap (λ (s : JoinSpec). s.how) (c.deref.ensures ∙ is.1) ∙ cross) in
    rw (c.in_ok-build-in-Inner.ensures, c.in_ok-clone-in-Inner.ensures.cases, is.1) (build_stands plan specs c.args.hasher c.args.parts n (record { spec = spec_at specs n; node = n; parts = c.args.parts; hasher = c.args.hasher; chunks = []; empty = false }) c.known_well_formed.ensures c.requires.join own refl keyed)
