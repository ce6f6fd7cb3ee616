use Rattle.std.proofs.Common.{◌≡◌, ◌+◌, ◌<◌, ◌≤◌, [], ◌∷◌, ◌++◌, false, true, length, set, sym, ap, ◌∙◌, arith}
use Rattle.pipe_driver.specs.declared.above.Step.TheVariants as step
use Rattle.pipe_driver.specs.declared.branch.SinkAt.TheVariants as at
use Rattle.pipe_driver.specs.declared.branch.Branch.{Branch}
use Rattle.pipe_driver.specs.Climbing.{step_at, put_numbered, add_name}
use Rattle.pipe_driver.proofs.BranchClimbs.{up-build, up-sort, up-top, climb-operator, climb-sort, climb-moved}
use Rattle.pipe_driver.proofs.climbing.climb.Goals as goal
use Rattle.pipe_driver.proofs.climbing.climb.Goals.{in-Operator+in_ok-push-in-Operator, in-Sort+in_ok-put_sink-in-Sort+else-is_passed}

pub returns-in-Build-clause-branch : goal.returns-in-Build-clause-branch
returns-in-Build-clause-branch c =
    let l = c.loop-k in
    let lt : l.k < length l.above = let e = l.invariant.sized in omega arith in
    let up = up-build c.args.naming.now c.args.above.now c.args.branch.now.source l.k l.above l.naming l.branch c.in-Build.node l.invariant lt (sym c.get.ensures ∙ c.in-Build.is) in
    c.in_ok-put_sink-in-Build.ensures.sink ∙ up.branch

pub returns-in-Build-clause-named : goal.returns-in-Build-clause-named
returns-in-Build-clause-named c =
    let l = c.loop-k in
    let lt : l.k < length l.above = let e = l.invariant.sized in omega arith in
    let up = up-build c.args.naming.now c.args.above.now c.args.branch.now.source l.k l.above l.naming l.branch c.in-Build.node l.invariant lt (sym c.get.ensures ∙ c.in-Build.is) in
    c.in_ok-put_sink-in-Build.ensures.named ∙ up.named

pub returns-then-is_passed-clause-branch : goal.returns-then-is_passed-clause-branch
returns-then-is_passed-clause-branch c =
    let l = c.loop-k in
    let lt : l.k < length l.above = let e = l.invariant.sized in omega arith in
    let is : step_at l.above l.k ≡ step.Sort c.in-Sort.node true = sym c.get.ensures ∙ c.in-Sort.is ∙ ap (step.Sort c.in-Sort.node) c.if-is_passed.true in
    let up = up-sort c.args.naming.now c.args.above.now c.args.branch.now.source l.k l.above l.naming l.branch c.in-Sort.node l.invariant lt is in
    c.in_ok-put_sink-in-Sort.ensures.sink ∙ up.branch

pub returns-then-is_passed-clause-named : goal.returns-then-is_passed-clause-named
returns-then-is_passed-clause-named c =
    let l = c.loop-k in
    let lt : l.k < length l.above = let e = l.invariant.sized in omega arith in
    let is : step_at l.above l.k ≡ step.Sort c.in-Sort.node true = sym c.get.ensures ∙ c.in-Sort.is ∙ ap (step.Sort c.in-Sort.node) c.if-is_passed.true in
    let up = up-sort c.args.naming.now c.args.above.now c.args.branch.now.source l.k l.above l.naming l.branch c.in-Sort.node l.invariant lt is in
    c.in_ok-put_sink-in-Sort.ensures.named ∙ up.named

pub returns-clause-branch : goal.returns-clause-branch
returns-clause-branch c =
    let l = c.loop-k in
    let ge : length l.above ≤ l.k = let e = l.invariant.sized in omega arith in
    let up = up-top c.args.naming.now c.args.above.now c.args.branch.now.source l.k l.above l.naming l.branch l.invariant ge in
    c.in_ok-put_sink.ensures.sink ∙ up.branch

pub returns-clause-named : goal.returns-clause-named
returns-clause-named c =
    let l = c.loop-k in
    let ge : length l.above ≤ l.k = let e = l.invariant.sized in omega arith in
    let up = up-top c.args.naming.now c.args.above.now c.args.branch.now.source l.k l.above l.naming l.branch l.invariant ge in
    c.in_ok-put_sink.ensures.named ∙ up.named

pub loop-k-preserved : goal.loop-k-preserved
loop-k-preserved c =
    let l = c.loop-k in
    let lt : l.k < length l.above = let e = l.invariant.sized in omega arith in
    let first = c.args.naming.now in
    let steps = c.args.above.now in
    let source = c.args.branch.now.source in
    elim c.match-get.branch [
      | in-Operator+in_ok-push-in-Operator w ↦ (
          let n = w.in-Operator.node in
          let on = climb-operator first steps source l.k l.above l.naming l.branch n l.invariant lt (sym c.get.ensures ∙ w.in-Operator.is) in
          let b = l.branch in
          let more : c.match-get.branch' ≡ record b { operators = b.operators ++ n ∷ [] } =
          w.branch'-is ∙ ap (λ o. let made : Branch = record b { operators = o } in made) w.in_ok-push-in-Operator.ensures.ok in
          climb-moved first steps source (l.k + 1) l.above c.match-get.above l.naming c.match-get.naming (record b { operators = b.operators ++ n ∷ [] }) c.match-get.branch' on w.above-is w.naming-is more)
      | in-Sort+in_ok-put_sink-in-Sort+else-is_passed w ↦ (
          let n = w.in-Sort.node in
          let is : step_at l.above l.k ≡ step.Sort n false = sym c.get.ensures ∙ w.in-Sort.is ∙ ap (step.Sort n) w.if-is_passed.false in
          let on = climb-sort first steps source l.k l.above l.naming l.branch n l.invariant lt is in
          climb-moved first steps source (l.k + 1) (set l.above l.k (step.Sort n true)) c.match-get.above (add_name l.naming (at.Sort n)) c.match-get.naming (put_numbered l.naming.sinks (at.Sort n) l.branch) c.match-get.branch' on
          (w.above-is ∙ w.set.ensures) (w.naming-is ∙ w.in_ok-put_sink-in-Sort.ensures.named) (w.branch'-is ∙ w.in_ok-put_sink-in-Sort.ensures.sink))
    ]
