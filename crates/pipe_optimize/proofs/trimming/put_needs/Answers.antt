use Rattle.std.proofs.Common.{◌≡◌, ◌<◌, true, length, get_or, ap, sym, refl, ◌∙◌, arith}
use Rattle.pipe_plan.specs.Node.{node_of}
use Rattle.pipe_check.proofs.Walks.{member}
use Rattle.pipe_rules.specs.Placed.{is_input}
use Rattle.pipe_rules.proofs.Readings.{item-member}
use Rattle.pipe_optimize.specs.Lists.{names_at}
use Rattle.pipe_optimize.specs.Sides.{need_by}
use Rattle.pipe_optimize.specs.Whole.{needs_over}
use Rattle.pipe_optimize.proofs.Passing.{put-begun, put-all}
use Rattle.pipe_optimize.proofs.Whole.{put-set, set-long}
use Rattle.pipe_optimize.proofs.trimming.put_needs.Goals as goal

pub need_of_input-requires-clause-read : goal.need_of_input-requires-clause-read
need_of_input-requires-clause-read c =
    let xs = c.as_slice-input-items.result.now in
    let i = c.loop-input.input-index in
    let same = c.as_slice-input-items.ensures.value ∙ c.in_ok-numbers.ensures in
    ap (member (get_or xs i 0)) (sym same) ∙ item-member xs i 0 c.loop-input-test.true

pub put_need-requires : goal.put_need-requires
put_need-requires c =
    let xs = c.as_slice-input-items.result.now in
    let i = c.loop-input.input-index in
    let x = get_or xs i 0 in
    let same = c.as_slice-input-items.ensures.value ∙ c.in_ok-numbers.ensures in
    let among : is_input (node_of c.args.node.now) x ≡ true = ap (member x) (sym same) ∙ item-member xs i 0 c.loop-input-test.true in
    let lt : x < length c.args.needs.now = c.requires.there x among in
    let long = c.loop-input.invariant.long in
    omega arith

pub loop-input-init : goal.loop-input-init
loop-input-init c = record {
  put = put-begun (need_by (names_at c.args.lists.now) (node_of c.args.node.now) c.args.needed.now) c.as_slice-input-items.result.now (needs_over c.args.lists.now c.args.needs.now);
  long = refl;
}

pub loop-input-preserved : goal.loop-input-preserved
loop-input-preserved c =
    let xs = c.as_slice-input-items.result.now in
    let i = c.loop-input.input-index in
    let x = get_or xs i 0 in
    let same = c.as_slice-input-items.ensures.value ∙ c.in_ok-numbers.ensures in
    let among : is_input (node_of c.args.node.now) x ≡ true = ap (member x) (sym same) ∙ item-member xs i 0 c.loop-input-test.true in
    let lt : x < length c.args.needs.now = c.requires.there x among in
    let long = c.loop-input.invariant.long in
    let f = need_by (names_at c.args.lists.now) (node_of c.args.node.now) c.args.needed.now in record {
      put = put-set c.args.lists.now f xs i c.args.needs.now c.loop-input.needs c.put_need.new.needs c.in_ok-need.need c.loop-input-test.true c.loop-input.invariant.put (omega arith) c.put_need.ensures c.in_ok-need.ensures;
      long = set-long c.loop-input.needs c.put_need.new.needs x (length c.args.needs.now) c.in_ok-need.need c.put_need.ensures long;
    }

pub returns-clause-put : goal.returns-clause-put
returns-clause-put c =
    put-all (need_by (names_at c.args.lists.now) (node_of c.args.node.now) c.args.needed.now) c.as_slice-input-items.result.now _ c.loop-input.input-index (needs_over c.args.lists.now c.args.needs.now) (needs_over c.args.lists.now c.loop-input.needs) c.loop-input.invariant.put (omega (arith, c.loop-input-test.false)) (c.as_slice-input-items.ensures.value ∙ c.in_ok-numbers.ensures)

pub returns-clause-long : goal.returns-clause-long
returns-clause-long c = c.loop-input.invariant.long
