use Rattle.std.proofs.Common.{rules, ◌≡◌, ◌≤◌, ◌^◌, length, refl, arith}
use Rattle.pipe_engine.proofs.Leaving.{left_between}
use Rattle.pipe_engine.proofs.Lending.{assembled}
use Rattle.pipe_engine.proofs.assembling.assemble_run.Goals as goal

pub partition_count-parts-requires : goal.partition_count-parts-requires
partition_count-parts-requires g c = (let many = c.args.context.workers_in.1 in omega arith)

pub returns-clause-stand : goal.returns-clause-stand
returns-clause-stand g c = λ hash_of x ask lent. (
    let engine = c.in_ok-runner.ensures in
    let many : c.in-Ok.nodes ≡ length c.args.slots.slots.items = search rules in
    assembled hash_of x ask c.args.context c.args.slots c.args.counts c.args.lines.now _ c.in-Ok.nodes _
    lent many engine.context engine.nodes engine.parts c.partition_count-parts.ensures engine.shares engine.idle engine.none_open engine.places
    c.new-parked.ensures.items refl c.in_ok-probers.ensures)

pub returns-clause-left : goal.returns-clause-left
returns-clause-left g c = λ hash_of x ask left. (
    let engine = c.in_ok-runner.ensures in
    let many : c.in-Ok.nodes ≡ length c.args.slots.slots.items = search rules in
    left_between hash_of x ask c.args.context c.args.slots c.args.counts c.args.lines.now _ c.in-Ok.nodes _
    left many engine.context engine.nodes engine.parts c.partition_count-parts.ensures engine.shares engine.idle engine.none_open engine.places
    c.new-parked.ensures.items refl c.in_ok-probers.ensures)
