use Rattle.std.proofs.Common.{arith}
use Rattle.pipe_lines.proofs.LegFacts.{split_of}
use Rattle.pipe_lines.proofs.SpecAt.{sink_there_at, sink_some, sink_found}
use Rattle.pipe_lines.proofs.branch_sinks.leg_sink.Goals as goal

pub index-requires : goal.index-requires
index-requires g c = (let there = sink_there_at c.args.plan.now c.args.layout.now c.args.at c.sink_place-place.result c.requires.layout c.requires.there c.sink_place-place.ensures in omega arith)

pub unreachable-requires : goal.unreachable-requires
unreachable-requires g c = sink_some c.args.plan.now c.args.layout.now c.args.at c.sink_place-place.result c.index.result.now c.requires.layout c.requires.there c.sink_place-place.ensures c.index.ensures c.in_default.is

pub returns : goal.returns
returns g c =
    let layout = c.args.layout.now in
    let split = c.in_ok-split.ensures in
    split_of c.args.plan.now layout.specs.items layout.sinks.items layout.hasher layout.parts c.args.at c.index.result.now c.in-Some.sink c.in_ok-split.field-0 c.requires.layout.sinks c.requires.there
    (sink_found c.args.plan.now layout c.args.at c.sink_place-place.result c.index.result.now c.requires.layout c.requires.there c.sink_place-place.ensures c.index.ensures) c.in-Some.is split.setting split.schema split.empty split.text
