use Rattle.std.proofs.Common.{◌≡◌, ◌∙◌, ◌+◌, ◌-◌, [], ap, sym, length}
use Rattle.std.specs.List.{range_with_len}
use Rattle.pipe_plan.specs.Node.{node_of}
use Rattle.pipe_plan.specs.Plan.{plan_of}
use Rattle.pipe_plan.specs.Schemas.{schema_at}
use Rattle.pipe_plan.specs.Faults.{or_else, fault_under, first_fault}
use Rattle.pipe_plain.specs.Tables.{at_place}
use Rattle.pipe_plain.proofs.Ranges.{range-next}
use Rattle.pipe_plain.proofs.Walks.{table-walks, schemas-more, node-there}
use Rattle.pipe_plain.proofs.faults.least_fault.Goals as goal

pub fault_under-requires-clause-below : goal.fault_under-requires-clause-below
fault_under-requires-clause-below c = ap (at_place []) (c.as_slice.ensures ∙ c.loop-n.invariant.schemas) ∙ table-walks [] (schema_at (plan_of c.args.arena.now)) c.loop-n.n

pub fault_under-requires-clause-there : goal.fault_under-requires-clause-there
fault_under-requires-clause-there c =
    let nodes = c.as_slice-nodes.ensures in
    node-there c.args.arena.now.nodes c.loop-n.n c.index-nodes-n.result (rw nodes at c.loop-n-test.true) (rw nodes at c.index-nodes-n.is)

pub loop-n-preserved : goal.loop-n-preserved
loop-n-preserved c =
    let arena = c.args.arena.now in
    let plan = plan_of arena in
    let n = c.loop-n.n in
    let nodes = c.as_slice-nodes.ensures in
    let within = rw nodes at c.loop-n-test.true in
    let node = node-there arena.nodes n c.index-nodes-n.result within (rw nodes at c.index-nodes-n.is) in
    let made = rw (c.as_slice-frames.ensures, c.as_slice-in-loop-n.ensures) at c.in_ok-made.ensures in
    let told : c.in_ok-fault.field-0 ≡ fault_under plan c.args.root n = c.in_ok-fault.ensures in
    let passed = sym told ∙ c.in-None.is in
    let later = first_fault plan c.args.root (range_with_len (n + 1) (length arena.nodes - (n + 1))) in
    record {
      schemas = c.in_ok-push.ensures.ok ∙ schemas-more plan n c.loop-n.schemas (node_of c.index-nodes-n.result) c.in_ok-made.made c.loop-n.invariant.schemas node made;
      rest = sym (ap (first_fault plan c.args.root) (range-next n (length arena.nodes) within) ∙ ap (λ f. or_else f later) passed) ∙ c.loop-n.invariant.rest;
    }
