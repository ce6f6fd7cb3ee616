use Rattle.std.proofs.Common.{◌≤◌, ◌^◌, ◌∙◌, arith}
use Rattle.pipe_lines.proofs.Stand.{run_stands}
use Rattle.pipe_lines.proofs.run.create_run.Goals as goal

pub new-requires-clause-some : goal.new-requires-clause-some
new-requires-clause-some g c = λ κs lives. (let some = c.args.context.workers_in.0 in omega arith)

pub new-requires-clause-few : goal.new-requires-clause-few
new-requires-clause-few g c = λ κs lives. (let few = c.args.context.workers_in.1 in omega arith)

pub create_pipelines-requires-clause-layout : goal.create_pipelines-requires-clause-layout
create_pipelines-requires-clause-layout g c = λ κs lives. c.in_ok-layout.ensures.is

pub create_pipelines-requires-clause-workers : goal.create_pipelines-requires-clause-workers
create_pipelines-requires-clause-workers g c = λ κs lives. (let some = c.args.context.workers_in.0 in omega arith)

pub returns : goal.returns
returns g c =
    let counts = c.in_ok-counts.ensures in
    let layout = c.in_ok-layout.ensures in
    let slots = c.in_ok-slots.ensures in
    let made = c.in_ok-pipelines.ensures in
    let nodes = c.node_count.ensures in
    run_stands g.H.KeyHasher.hash_of c.args.plan.now c.in_ok-layout.layout c.args.context _ _ _ _ c.known_well_formed.ensures layout.is layout.parts (c.as_slice-all.ensures ∙ c.in_ok-branches.ensures) made.lines made.workers
    (record { long = slots.slots ∙ nodes; seated = slots.seats ∙ nodes; made_for = slots.workers; empty = slots.empty; given = slots.given ∙ nodes; none = slots.no_rows })
    (record { many = counts.many; each = counts.sinks })
