use Rattle.std.proofs.Common.{◌≡◌, ◌+◌, List, [], ◌∷◌, ℕ, Option, None, drop, get_or, subst, arith}
use Rattle.std.proofs.lemmas.List.{drop_more, drop_all, nil_from_length}
use Rattle.pipe_lines.specs.declared.threaded_sink.ThreadedSink.{ThreadedSink}
use Rattle.pipe_lines.proofs.CutSteps.{AreCutting, legs_first, sinks_some, ahead_there, legs_next, legs_done}
use Rattle.pipe_lines.proofs.cutting.cut_legs.Goals as goal

pub loop-sink_node-init : goal.loop-sink_node-init
loop-sink_node-init g c =
    let os = c.args.operators.items in
    let nodes = c.args.nodes in
    rw (c.from_vec-left.ensures.items, c.from_vec-ends.ensures.items)
    (legs_first os nodes.operators.items nodes.source nodes.scans.items c.args.sinks.items nodes.sinks.items _ c.new-legs.ensures.items c.requires.sinks c.requires.ends)

pub unreachable-requires : goal.unreachable-requires
unreachable-requires g c =
    let os = c.args.operators.items in
    let nodes = c.args.nodes in
    let at = c.loop-sink_node in
    let ps = nodes.sinks.items in
    let i = at.sink_node-index in
    let there = rw c.as_slice-sink_node-items.ensures.value at c.loop-sink_node-test.true in
    let P : List (Option ℕ) → Type 0 = λ rest. AreCutting os nodes.operators.items nodes.source nodes.scans.items c.args.sinks.items ps at.first at.start at.taken.items at.left.items at.ends.items rest at.legs.items in
    sinks_some os nodes.operators.items nodes.source nodes.scans.items c.args.sinks.items ps at.first at.start at.taken.items at.left.items at.ends.items (get_or ps i None) (drop (i + 1) ps) at.legs.items
    (subst P (drop_more ps i None there) at.invariant)
    (nil_from_length at.ends.items (omega (arith, c.in_default.ensures.cases.0)))

pub cut_leg-requires : goal.cut_leg-requires
cut_leg-requires g c =
    let os = c.args.operators.items in
    let nodes = c.args.nodes in
    let at = c.loop-sink_node in
    let ps = nodes.sinks.items in
    let i = at.sink_node-index in
    let S : List (ThreadedSink g.row.H.Denot) → Type 0 = λ ss. AreCutting os nodes.operators.items nodes.source nodes.scans.items c.args.sinks.items ps at.first at.start at.taken.items at.left.items ss (drop i ps) at.legs.items in (
      c.type_bounds.send-H,
      (
        c.type_bounds.sync-H,
        rw (c.operators_between-ahead.ensures, c.as_slice.ensures.value)
            (ahead_there os nodes.operators.items nodes.source nodes.scans.items c.args.sinks.items ps at.first at.start at.taken.items at.left.items c.in-Some.sink c.pop_front.new.self.items (drop i ps) at.legs.items
            c.requires.operators (subst S c.in-Some.ensures.items at.invariant)),
      ),
    )

pub loop-sink_node-preserved : goal.loop-sink_node-preserved
loop-sink_node-preserved g c =
    let os = c.args.operators.items in
    let nodes = c.args.nodes in
    let at = c.loop-sink_node in
    let ps = nodes.sinks.items in
    let i = at.sink_node-index in
    let there = rw c.as_slice-sink_node-items.ensures.value at c.loop-sink_node-test.true in
    let P : List (Option ℕ) → Type 0 = λ rest. AreCutting os nodes.operators.items nodes.source nodes.scans.items c.args.sinks.items ps at.first at.start at.taken.items at.left.items at.ends.items rest at.legs.items in
    let S : List (ThreadedSink g.row.H.Denot) → Type 0 = λ ss. AreCutting os nodes.operators.items nodes.source nodes.scans.items c.args.sinks.items ps at.first at.start at.taken.items at.left.items ss (get_or ps i None ∷ drop (i + 1) ps) at.legs.items in
    let known = subst S c.in-Some.ensures.items (subst P (drop_more ps i None there) at.invariant) in
    let leg = rw (c.operators_between-ahead.ensures, c.as_slice.ensures.value, c.as_slice-sink_node-items.ensures.value) at c.in_ok-cut_leg.ensures.leg in
    let left = rw (c.operators_between-ahead.ensures, c.as_slice.ensures.value) at c.in_ok-cut_leg.ensures.left in
    rw (c.in_ok-push.ensures.items, c.in_ok-taken.ensures, c.next_start-start.ensures, c.as_slice-sink_node-items.ensures.value)
    (legs_next os nodes.operators.items nodes.source nodes.scans.items c.args.sinks.items ps at.first at.start at.taken.items at.left.items c.cut_leg.new.operators.items c.in-Some.sink c.pop_front.new.self.items (get_or ps i None) (drop (i + 1) ps) at.legs.items _
    c.requires.operators known leg left)

pub returns : goal.returns
returns g c =
    let os = c.args.operators.items in
    let nodes = c.args.nodes in
    let at = c.loop-sink_node in
    let ps = nodes.sinks.items in
    let i = at.sink_node-index in
    let over = rw c.as_slice-sink_node-items.ensures.value at c.loop-sink_node-test.false in
    let none : drop i ps ≡ [] = drop_all i ps (omega (arith, over)) in
    legs_done os nodes.operators.items nodes.source nodes.scans.items c.args.sinks.items ps at.first at.start at.taken.items at.left.items at.ends.items (drop i ps) at.legs.items none at.invariant
