use Rattle.std.proofs.Common.{◌≡◌, length, ap, sym, ◌∙◌, arith}
use Rattle.pipe_convert.specs.Nodes.{nodes_in}
use Rattle.pipe_convert.proofs.JoinNodes.{sized_next}
use Rattle.pipe_lines.proofs.SinkLists.{sinks_next}
use Rattle.pipe_lines.proofs.sinks.sinks_under.Goals as goal

pub loop-n-init : goal.loop-n-init
loop-n-init g c = record { sized = ap length c.new-sinks.ensures.items; each = λ k lt. absurd (omega arith) }

pub sink_under-requires-clause-under : goal.sink_under-requires-clause-under
sink_under-requires-clause-under g c = λ κs lives. sym (c.requires.marks c.loop-n.n)

pub sink_under-requires-clause-specs : goal.sink_under-requires-clause-specs
sink_under-requires-clause-specs g c = λ κs lives. c.requires.specs

pub sink_under-requires-clause-parts : goal.sink_under-requires-clause-parts
sink_under-requires-clause-parts g c = λ κs lives. c.requires.parts

pub loop-n-preserved : goal.loop-n-preserved
loop-n-preserved g c =
    let known = c.loop-n.invariant in
    let items = c.in_ok-push.ensures.items in
    record {
      sized = sized_next c.loop-n.n c.loop-n.sinks.items _ _ items known.sized;
      each = sinks_next c.args.plan.now c.args.specs.now c.args.hasher c.args.parts c.loop-n.n c.loop-n.sinks.items _ _ items known.sized c.in_ok-sink_under.ensures known.each;
    }

pub returns : goal.returns
returns g c =
    let known = c.loop-n.invariant in
    let all : c.loop-n.n ≡ length (nodes_in c.args.plan.now) = omega (arith, c.loop-n-test.false, c.loop-n.auto.n-end, c.node_count-nodes.ensures) in
    record {
      sized = known.sized ∙ all;
      each = λ k lt. known.each k (omega (arith, all, lt));
    }
