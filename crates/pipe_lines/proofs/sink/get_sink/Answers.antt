use Rattle.std.proofs.Common.{[], refl, ap, sym, subst, ◌∙◌}
use Rattle.std.specs.Prelude.{IfOk}
use Rattle.pipe_driver.specs.declared.branch.SinkAt.{SinkAt}
use Rattle.pipe_convert.specs.Converted.{schema_in}
use Rattle.pipe_slots.specs.declared.phys_sink.PhysSink.TheVariants.{Ordered as OfRoot, Sort as OfSort}
use Rattle.pipe_convert.proofs.JoinNodes.{under_sort}
use Rattle.pipe_lines.specs.Made.{IsSinkAt, sorts_rows}
use Rattle.pipe_lines.proofs.SinkStands.{root_sink, sort_stands}
use Rattle.pipe_lines.proofs.SpecAt.{sorts_there}
use Rattle.pipe_lines.proofs.sink.get_sink.Goals as goal

pub schema-requires : goal.schema-requires
schema-requires g c = rw c.root-root.ensures.root c.root-root.ensures.under

pub numbered-requires : goal.numbered-requires
numbered-requires g c = under_sort c.args.plan.now c.in-Sort.n (rw c.in-Sort.is at c.requires.there)

pub sort_at-requires-clause-under : goal.sort_at-requires-clause-under
sort_at-requires-clause-under g c = under_sort c.args.plan.now c.in-Sort.n (rw c.in-Sort.is at c.requires.there)

pub sort_at-requires-clause-is : goal.sort_at-requires-clause-is
sort_at-requires-clause-is g c = c.numbered.ensures

pub sort_at-requires-clause-sorts : goal.sort_at-requires-clause-sorts
sort_at-requires-clause-sorts g c = ap sorts_rows c.numbered.ensures ∙ sorts_there c.args.plan.now c.in-Sort.n (rw c.in-Sort.is at c.requires.there)

pub build_sink-requires-clause-specs : goal.build_sink-requires-clause-specs
build_sink-requires-clause-specs g c = λ κs lives. c.requires.specs

pub build_sink-requires-clause-join : goal.build_sink-requires-clause-join
build_sink-requires-clause-join g c = λ κs lives. (rw c.in-Build.is at c.requires.there)

pub build_sink-requires-clause-parts : goal.build_sink-requires-clause-parts
build_sink-requires-clause-parts g c = λ κs lives. c.requires.parts

pub returns-in_ok-schema-in-Ordered : goal.returns-in_ok-schema-in-Ordered
returns-in_ok-schema-in-Ordered g c =
    let plan = c.args.plan.now in
    let Q : SinkAt → Type 0 = λ a. IsSinkAt plan c.args.specs.now c.args.hasher c.args.parts a (OfRoot (record { schema = c.in_ok-schema-in-Ordered.schema; chunks = [] })) in
    rw c.new.ensures (subst Q (sym c.in-Ordered.is) (root_sink plan c.args.specs.now c.args.hasher c.args.parts (record { schema = c.in_ok-schema-in-Ordered.schema; chunks = [] }) (c.in_ok-schema-in-Ordered.ensures ∙ c.schema.ensures ∙ ap (schema_in plan) c.root-root.ensures.root) refl))

pub returns-in_ok-sort_at-in-Sort : goal.returns-in_ok-sort_at-in-Sort
returns-in_ok-sort_at-in-Sort g c =
    let plan = c.args.plan.now in
    let made = c.in_ok-sort_at-in-Sort.ensures in
    let Q : SinkAt → Type 0 = λ a. IsSinkAt plan c.args.specs.now c.args.hasher c.args.parts a (OfSort c.in_ok-sort_at-in-Sort.field-0) in
    subst Q (sym c.in-Sort.is) (sort_stands plan c.args.specs.now c.args.hasher c.args.parts c.in-Sort.n made.input made.by made.options c.in_ok-sort_at-in-Sort.field-0 c.root-root.ensures.good made.at_n made.is)

pub returns-in-Build : goal.returns-in-Build
returns-in-Build g c =
    let Q : SinkAt → Type 0 = λ a. IfOk c.build_sink.result (IsSinkAt c.args.plan.now c.args.specs.now c.args.hasher c.args.parts a) in
    subst Q (sym c.in-Build.is) c.build_sink.ensures
