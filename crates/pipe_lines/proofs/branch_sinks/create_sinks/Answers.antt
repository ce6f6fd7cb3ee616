use Rattle.std.proofs.Common.{◌≡◌, ◌+◌, List, [], drop, get_or, sym, subst, arith}
use Rattle.std.proofs.lemmas.List.{drop_more, drop_all}
use Rattle.std.specs.List.{AllByRecursion}
use Rattle.pipe_driver.specs.declared.branch.SinkAt.TheVariants as at
use Rattle.pipe_driver.specs.declared.branch.SinkNode.{SinkNode}
use Rattle.pipe_lines.specs.Made.{IsSinkSplit}
use Rattle.pipe_lines.specs.Parts.{IsSinkThere}
use Rattle.pipe_lines.proofs.PartFacts.{SinksBehind, sinks_first, sinks_next, sinks_done}
use Rattle.pipe_lines.proofs.branch_sinks.create_sinks.Goals as goal

-- an element that is none
abbrev no_sink : SinkNode
no_sink = record { offset = 0; at = at.Ordered; count = 0 }

pub loop-sink-init : goal.loop-sink-init
loop-sink-init g c =
    let layout = c.args.layout.now in
    record {
      there = c.requires.there;
      behind = sinks_first c.args.plan.now layout.specs.items layout.sinks.items layout.hasher layout.parts c.args.workers c.args.sinks.now _ c.new-made.ensures.items;
    }

pub leg_sink-requires-clause-layout : goal.leg_sink-requires-clause-layout
leg_sink-requires-clause-layout g c = λ κs lives. c.requires.layout

pub leg_sink-requires-clause-there : goal.leg_sink-requires-clause-there
leg_sink-requires-clause-there g c = λ κs lives. (
    let i = c.loop-sink.sink-index in
    let A : List SinkNode → Type 0 = AllByRecursion (IsSinkThere c.args.plan.now) in
    (subst A (drop_more c.args.sinks.now i no_sink c.loop-sink-test.true) c.loop-sink.invariant.there).0)

pub loop-sink-preserved : goal.loop-sink-preserved
loop-sink-preserved g c =
    let plan = c.args.plan.now in
    let layout = c.args.layout.now in
    let ks = c.args.sinks.now in
    let i = c.loop-sink.sink-index in
    let k = get_or ks i no_sink in
    let more = drop_more ks i no_sink c.loop-sink-test.true in
    let known = c.loop-sink.invariant in
    let new = c.in_ok-new.ensures in
    let A : List SinkNode → Type 0 = AllByRecursion (IsSinkThere plan) in
    let B : List SinkNode → Type 0 = λ rest. SinksBehind plan layout.specs.items layout.sinks.items layout.hasher layout.parts c.args.workers ks rest c.loop-sink.made.items in
    let S : _ → Type 0 = IsSinkSplit plan layout.specs.items layout.sinks.items layout.hasher layout.parts k.at in
    rw c.in_ok-push.ensures.items (record {
      there = (subst A more known.there).1;
      behind = sinks_next plan layout.specs.items layout.sinks.items layout.hasher layout.parts c.args.workers ks k (drop (i + 1) ks) c.loop-sink.made.items _
          (record { split = subst S (sym new.sink) c.in_ok-split.ensures; count = new.count; few = new.few; end = new.end; made_for = new.workers })
          (subst B more known.behind);
    })

pub returns : goal.returns
returns g c =
    let layout = c.args.layout.now in
    let ks = c.args.sinks.now in
    let i = c.loop-sink.sink-index in
    let none : drop i ks ≡ [] = drop_all i ks (omega (arith, c.loop-sink-test.false)) in
    sinks_done c.args.plan.now layout.specs.items layout.sinks.items layout.hasher layout.parts c.args.workers ks (drop i ks) c.loop-sink.made.items none c.loop-sink.invariant.behind
