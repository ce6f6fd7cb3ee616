use Rattle.std.proofs.Common.{rules, ◌+◌, ◌<◌, cond, false, List, [], ◌∷◌, Option, None, length, get_or, ap, sym, subst, ◌∙◌, arith, length-append}
use Rattle.std.proofs.lemmas.List.{length-map}
use Rattle.pipe_schema.specs.declared.field.Field.{Field}
use Rattle.pipe_plan.specs.Node.{node_of}
use Rattle.pipe_plan.specs.Plan.{plan_of}
use Rattle.pipe_plan.specs.Faults.{plan_fault}
use Rattle.pipe_plan.specs.declared.error.PipeError.{PipeError}
use Rattle.pipe_check.specs.Checked.{MemoryOr}
use Rattle.pipe_check.specs.Checking.{fault_by}
use Rattle.pipe_check.proofs.Nodes.{node-there}
use Rattle.pipe_check.proofs.Kept.{AreChecked}
use Rattle.pipe_check.proofs.Steps.{IsAt, node-full, node-known, node-passed, node-told}
use Rattle.pipe_check.proofs.check.kept_schemas.Goals as goal

pub checked_schema-requires-clause-full : goal.checked_schema-requires-clause-full
checked_schema-requires-clause-full c = λ reached good.
    let arena = c.args.arena.now in
    let plan = plan_of arena in
    let n = c.loop-n.n in
    let x = node_of c.index-nodes-n.result in
    let under = get_or c.args.under.now n false in
    let nodes = c.as_slice-nodes.ensures in
    let within : n < length arena.nodes = rw nodes at c.loop-n-test.true in
    let many = length-map arena.nodes node_of in
    let is : IsAt plan c.args.root n c.loop-n.schemas c.loop-n.read under x c.as_slice-frames.result.now c.as_slice.result.now = record {
      rooted = omega (arith, many, c.requires.there);
      there = omega (arith, many, within);
      known = c.loop-n.invariant.known;
      decided = c.requires.under n;
      node = node-there arena.nodes n c.index-nodes-n.result within (rw nodes at c.index-nodes-n.is);
      framed = c.as_slice-frames.ensures;
      same = c.as_slice.ensures;
    } in
    node-full plan c.args.root n c.loop-n.schemas c.loop-n.read under x c.as_slice-frames.result.now c.as_slice.result.now is reached good

pub returns-in_err-schema-clause-err : goal.returns-in_err-schema-clause-err
returns-in_err-schema-clause-err c =
    let arena = c.args.arena.now in
    let plan = plan_of arena in
    let n = c.loop-n.n in
    let x = node_of c.index-nodes-n.result in
    let under = get_or c.args.under.now n false in
    let nodes = c.as_slice-nodes.ensures in
    let within : n < length arena.nodes = rw nodes at c.loop-n-test.true in
    let many = length-map arena.nodes node_of in
    let is : IsAt plan c.args.root n c.loop-n.schemas c.loop-n.read under x c.as_slice-frames.result.now c.as_slice.result.now = record {
      rooted = omega (arith, many, c.requires.there);
      there = omega (arith, many, within);
      known = c.loop-n.invariant.known;
      decided = c.requires.under n;
      node = node-there arena.nodes n c.index-nodes-n.result within (rw nodes at c.index-nodes-n.is);
      framed = c.as_slice-frames.ensures;
      same = c.as_slice.ensures;
    } in
    let fault = cond under (fault_by c.loop-n.read c.as_slice-frames.result.now c.as_slice.result.now n x) None in
    let told : (e : PipeError) → MemoryOr fault e → MemoryOr (plan_fault plan c.args.root) e =
    λ e. node-told plan c.args.root n c.loop-n.schemas c.loop-n.read under x c.as_slice-frames.result.now c.as_slice.result.now e is c.loop-n.invariant.rest in
    let here : MemoryOr (plan_fault plan c.args.root) c.in_err-schema.field-0.0 = told c.in_err-schema.field-0.0 c.in_err-schema.ensures.err in
    search (rules, here)

pub loop-n-preserved : goal.loop-n-preserved
loop-n-preserved c =
    let arena = c.args.arena.now in
    let plan = plan_of arena in
    let root = c.args.root in
    let n = c.loop-n.n in
    let x = node_of c.index-nodes-n.result in
    let under = get_or c.args.under.now n false in
    let nodes = c.as_slice-nodes.ensures in
    let within : n < length arena.nodes = rw nodes at c.loop-n-test.true in
    let many = length-map arena.nodes node_of in
    let is : IsAt plan root n c.loop-n.schemas c.loop-n.read under x c.as_slice-frames.result.now c.as_slice.result.now = record {
      rooted = omega (arith, many, c.requires.there);
      there = omega (arith, many, within);
      known = c.loop-n.invariant.known;
      decided = c.requires.under n;
      node = node-there arena.nodes n c.index-nodes-n.result within (rw nodes at c.index-nodes-n.is);
      framed = c.as_slice-frames.ensures;
      same = c.as_slice.ensures;
    } in
    let made = c.in_ok-schema.schema in
    let more = c.checked_schema.new.read in
    let pushed = c.in_ok-push.ensures.ok in
    let known = node-known plan root n c.loop-n.schemas c.loop-n.read under x c.as_slice-frames.result.now c.as_slice.result.now more made is c.loop-n.invariant.many c.in_ok-schema.ensures.ok c.in_ok-schema.ensures.schema c.in_ok-schema.ensures.full c.in_ok-schema.ensures.read in
    let P : List (Option (List Field)) → Type 0 = λ schemas. AreChecked plan root (n + 1) schemas more in
    record {
      sized = omega (arith, c.checked_schema.auto.read, c.loop-n.invariant.sized);
      many = ap length pushed ∙ length-append c.loop-n.schemas (made ∷ []) ∙ ap (λ k. k + 1) c.loop-n.invariant.many;
      known = subst P (sym pushed) known;
      rest = node-passed plan root n c.loop-n.schemas c.loop-n.read under x c.as_slice-frames.result.now c.as_slice.result.now is c.in_ok-schema.ensures.ok c.loop-n.invariant.rest;
    }
