use Rattle.std.proofs.Common.{◌≡◌, ℕ, length, ap, sym, subst, ◌∙◌}
use Rattle.pipe_source.specs.Supplies.{left_of}
use Rattle.pipe_plan.specs.Under.{node_at}
use Rattle.pipe_convert.specs.Nodes.{nodes_in}
use Rattle.pipe_convert.specs.Sources.{taken_at}
use Rattle.pipe_lines.specs.Lines.{AreEnds}
use Rattle.pipe_lines.proofs.CutFacts.{begins_first, legs_cut}
use Rattle.pipe_lines.proofs.LineFacts.{line_is, rest_first}
use Rattle.pipe_lines.proofs.PartFacts.{through_from, all_there, as_many_operators, as_many_sinks, as_many_scans, made_for_all, end_within}
use Rattle.pipe_lines.proofs.pipeline.create_pipeline.Goals as goal

pub get_source-requires-clause-under : goal.get_source-requires-clause-under
get_source-requires-clause-under g c = c.requires.branch.under

pub get_source-requires-clause-begins : goal.get_source-requires-clause-begins
get_source-requires-clause-begins g c = c.requires.branch.begins

pub pipe_nodes-requires : goal.pipe_nodes-requires
pipe_nodes-requires g c = c.requires.branch.under

pub create_operators-requires-clause-specs : goal.create_operators-requires-clause-specs
create_operators-requires-clause-specs g c = λ κs lives. (rw c.as_slice-specs.ensures.value c.requires.layout.specs)

pub create_operators-requires-clause-workers : goal.create_operators-requires-clause-workers
create_operators-requires-clause-workers g c = λ κs lives. c.requires.workers

pub create_operators-requires-clause-through : goal.create_operators-requires-clause-through
create_operators-requires-clause-through g c = λ κs lives. (
    let plan = c.args.plan.now in
    let branch = c.args.branch.now in
    rw c.as_slice.ensures (through_from plan c.known_well_formed.ensures branch.source branch.operators 0 branch.sinks (rest_first plan branch c.requires.branch) c.requires.ends))

pub create_sinks-requires-clause-layout : goal.create_sinks-requires-clause-layout
create_sinks-requires-clause-layout g c = λ κs lives. c.requires.layout

pub create_sinks-requires-clause-there : goal.create_sinks-requires-clause-there
create_sinks-requires-clause-there g c = λ κs lives. (
    let plan = c.args.plan.now in
    let branch = c.args.branch.now in
    rw c.as_slice-2.ensures (all_there plan c.known_well_formed.ensures branch.source branch.operators 0 branch.sinks (rest_first plan branch c.requires.branch)))

pub new-requires-clause-made : goal.new-requires-clause-made
new-requires-clause-made g c = λ κs lives. (
    let layout = c.args.layout.now in
    let made = rw c.as_slice-2.ensures at c.in_ok-sinks.ensures in
    made_for_all c.args.plan.now layout.specs.items layout.sinks.items layout.hasher layout.parts c.args.workers c.args.branch.now.sinks c.in_ok-sinks.sinks.items made)

pub new-requires-clause-ends : goal.new-requires-clause-ends
new-requires-clause-ends g c = λ κs lives. (
    let layout = c.args.layout.now in
    let branch = c.args.branch.now in
    let made = rw c.as_slice-2.ensures at c.in_ok-sinks.ensures in
    let are = rw (c.as_slice-specs.ensures.value, c.as_slice.ensures) at c.in_ok-operators.ensures in
    let many = as_many_operators c.args.plan.now layout.specs.items branch.operators c.in_ok-operators.operators.items are in
    let E : ℕ → Type 0 = λ n. AreEnds n 0 branch.sinks in
    end_within c.args.plan.now layout.specs.items layout.sinks.items layout.hasher layout.parts c.args.workers (length c.in_ok-operators.operators.items) 0 branch.sinks c.in_ok-sinks.sinks.items made (subst E many c.requires.ends))

pub new-requires-clause-operators : goal.new-requires-clause-operators
new-requires-clause-operators g c = λ κs lives. (
    let layout = c.args.layout.now in
    let are = rw (c.as_slice-specs.ensures.value, c.as_slice.ensures) at c.in_ok-operators.ensures in
    ap length c.in_ok-nodes.ensures.operators ∙ as_many_operators c.args.plan.now layout.specs.items c.args.branch.now.operators c.in_ok-operators.operators.items are)

pub new-requires-clause-sinks : goal.new-requires-clause-sinks
new-requires-clause-sinks g c = λ κs lives. (
    let layout = c.args.layout.now in
    let made = rw c.as_slice-2.ensures at c.in_ok-sinks.ensures in
    ap length c.in_ok-nodes.ensures.sinks ∙ as_many_sinks c.args.plan.now layout.specs.items layout.sinks.items layout.hasher layout.parts c.args.workers c.args.branch.now.sinks c.in_ok-sinks.sinks.items made)

pub new-requires-clause-scans : goal.new-requires-clause-scans
new-requires-clause-scans g c = λ κs lives. (
    let plan = c.args.plan.now in
    let n = c.args.branch.now.source in
    ap length c.in_ok-nodes.ensures.scans ∙ as_many_scans plan (taken_at (node_at (nodes_in plan) n) n) (left_of c.in_ok-source.source) c.in_ok-source.ensures.scans)

pub returns-clause-line : goal.returns-clause-line
returns-clause-line g c =
    let plan = c.args.plan.now in
    let layout = c.args.layout.now in
    let branch = c.args.branch.now in
    let nodes = c.in_ok-nodes.ensures in
    let line = c.in_ok-line.ensures in
    let made = rw c.as_slice-2.ensures at c.in_ok-sinks.ensures in
    let are = rw (c.as_slice-specs.ensures.value, c.as_slice.ensures) at c.in_ok-operators.ensures in
    let cut = rw (nodes.operators, nodes.sinks) at line.legs in
    let begins = begins_first plan c.known_well_formed.ensures branch.source _ _ branch.sinks nodes.source nodes.scans in
    line_is plan layout.specs.items layout.sinks.items layout.hasher layout.parts branch c.in_ok-line.line.way c.in_ok-source.source (line.start ∙ nodes.source) line.source c.in_ok-source.ensures
    (legs_cut plan layout.specs.items layout.sinks.items layout.hasher layout.parts c.args.workers c.known_well_formed.ensures branch.source branch.operators 0 _ _ c.in_ok-operators.operators.items branch.sinks c.in_ok-sinks.sinks.items c.in_ok-line.line.way.legs.items
    (rest_first plan branch c.requires.branch) are made begins cut)
