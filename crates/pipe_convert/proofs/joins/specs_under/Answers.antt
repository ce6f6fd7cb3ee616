use Rattle.std.proofs.Common.{length, ap, sym, arith}
use Rattle.pipe_convert.proofs.JoinNodes.{sized_next, specs_next, specs_done}
use Rattle.pipe_convert.proofs.joins.specs_under.Goals as goal

pub loop-n-init : goal.loop-n-init
loop-n-init c = record { sized = ap length c.new-specs.ensures.items; each = λ k lt. absurd (omega arith) }

pub spec_under-requires : goal.spec_under-requires
spec_under-requires c = sym (c.requires.marks c.loop-n.n)

pub loop-n-preserved : goal.loop-n-preserved
loop-n-preserved c =
    let known = c.loop-n.invariant in
    let items = c.in_ok-push.ensures.items in
    record {
      sized = sized_next c.loop-n.n c.loop-n.specs.items _ _ items known.sized;
      each = specs_next c.args.plan.now c.loop-n.n c.loop-n.specs.items _ _ items known.sized c.in_ok-spec_under.ensures known.each;
    }

pub returns : goal.returns
returns c =
    specs_done c.args.plan.now c.loop-n.n c.loop-n.specs.items c.known_well_formed.ensures
    (omega (arith, c.loop-n-test.false, c.loop-n.auto.n-end, c.node_count-nodes.ensures)) c.loop-n.invariant.sized c.loop-n.invariant.each
