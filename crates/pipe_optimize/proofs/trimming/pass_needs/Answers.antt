use Rattle.std.proofs.Common.{◌≡◌, ◌-◌, suc, length, None, refl, ◌∙◌, arith}
use Rattle.pipe_optimize.specs.Whole.{needs_over}
use Rattle.pipe_optimize.proofs.Passing.{passed-begun, inputs-below}
use Rattle.pipe_optimize.proofs.Whole.{over-long, set-long, outputs-at, passed-down}
use Rattle.pipe_optimize.proofs.trimming.pass_needs.Goals as goal

pub loop-n-init : goal.loop-n-init
loop-n-init c = record {
  within = omega arith;
  long = c.requires.long;
  passed = passed-begun c.args.lists.now c.args.nodes.now c.args.root (length c.args.nodes.now) (needs_over c.args.lists.now c.args.needs.now) refl (over-long c.args.lists.now c.args.needs.now ∙ c.requires.long) c.requires.whole;
}

pub take_need-need-requires : goal.take_need-need-requires
take_need-need-requires c = (let long = c.loop-n.invariant.long in let le = c.loop-n.invariant.within in let lt = c.loop-n-test.true in omega arith)

pub hand_down-requires-clause-whole : goal.hand_down-requires-clause-whole
hand_down-requires-clause-whole c =
    let le = c.loop-n.invariant.within in
    let lt = c.loop-n-test.true in
    outputs-at c.args.lists.now c.args.nodes.now (c.loop-n.n - 1) c.index-nodes-n.result c.names_in.result.now c.requires.outputs (omega arith) c.index-nodes-n.is c.names_in.ensures

pub hand_down-requires-clause-there : goal.hand_down-requires-clause-there
hand_down-requires-clause-there c = λ i own. (
    let n = c.loop-n.n in
    let is : n ≡ suc (n - 1) = omega (arith, c.loop-n-test.true) in
    let below = inputs-below c.args.lists.now c.args.nodes.now c.args.root n (n - 1) (needs_over c.args.lists.now c.loop-n.needs) c.index-nodes-n.result c.requires.tree is c.loop-n.invariant.within c.index-nodes-n.is c.loop-n.invariant.passed i own in
    let over = over-long c.args.lists.now c.loop-n.needs in
    let out = set-long c.loop-n.needs c.take_need-need.new.needs (n - 1) (length c.loop-n.needs) None c.take_need-need.ensures.left refl in
    omega arith)

pub put_need-requires : goal.put_need-requires
put_need-requires c =
    let n = c.loop-n.n in
    let long = c.loop-n.invariant.long in
    let out = set-long c.loop-n.needs c.take_need-need.new.needs (n - 1) (length c.loop-n.needs) None c.take_need-need.ensures.left refl in
    let put = c.in_ok-hand_down.ensures.long in
    let le = c.loop-n.invariant.within in
    let lt = c.loop-n-test.true in
    omega arith

pub loop-n-preserved : goal.loop-n-preserved
loop-n-preserved c =
    let n = c.loop-n.n in
    let is : n ≡ suc (n - 1) = omega (arith, c.loop-n-test.true) in
    let long = c.loop-n.invariant.long in
    let out = set-long c.loop-n.needs c.take_need-need.new.needs (n - 1) (length c.loop-n.needs) None c.take_need-need.ensures.left refl in
    let put = c.in_ok-hand_down.ensures.long in
    record {
      within = omega (arith, c.loop-n.invariant.within);
      long = set-long c.hand_down.new.needs c.put_need.new.needs (n - 1) (length c.args.nodes.now) c.take_need-need.result c.put_need.ensures (put ∙ out ∙ long);
      passed = passed-down c.args.lists.now c.args.nodes.now c.args.root n (n - 1) c.loop-n.needs c.take_need-need.new.needs c.hand_down.new.needs c.put_need.new.needs c.index-nodes-n.result c.take_need-need.result c.names_in.result.now c.requires.tree is c.loop-n.invariant.within c.index-nodes-n.is long c.take_need-need.ensures.taken c.take_need-need.ensures.left c.names_in.ensures c.in_ok-hand_down.ensures.put put c.put_need.ensures c.loop-n.invariant.passed;
    }
