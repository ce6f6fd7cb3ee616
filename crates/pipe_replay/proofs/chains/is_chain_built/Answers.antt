use Rattle.std.proofs.Common.{◌≡◌, ◌∙◌, ℕ, Bool, true, false, ap, sym, length, arith}
use Rattle.pipe_events.specs.Stages.{reaches}
use Rattle.pipe_events.specs.Decided.{all_below}
use Rattle.pipe_plain.specs.Tables.{at_place}
use Rattle.pipe_world.specs.Staged.{staged}
use Rattle.pipe_world.specs.Shown.{world_of}
use Rattle.pipe_replay.specs.Joins.{join_passes, built_if_reached}
use Rattle.pipe_replay.proofs.Below.{below-stops, below-fewer}
use Rattle.pipe_replay.proofs.Reaching.{marks-reach}
use Rattle.pipe_replay.proofs.chains.is_chain_built.Goals as goal

pub returns-then-not-is_build_closed : goal.returns-then-not-is_build_closed
returns-then-not-is_build_closed c =
    let plan = staged c.args.plan.now in
    let size = (staged c.args.plan.now).size in
    let closed = (world_of c.args.world.now).closed in
    let reached = at_place false c.as_slice-reached.result.now in
    let same : reached ≡ reaches plan c.args.n = ap (at_place false) (c.as_slice-reached.ensures ∙ c.in_ok-marks.ensures) ∙ marks-reach plan c.args.n in
    let stops : all_below (join_passes plan (built_if_reached reached closed)) size ≡ false = below-stops (join_passes plan (built_if_reached reached closed)) c.loop-k.k size (omega (arith, c.loop-k-test.true, c.len-k-end.ensures)) (sym c.is_build_closed.ensures ∙ c.if-not-is_build_closed.true) in
    sym (sym (ap (λ (r : ℕ → Bool). all_below (join_passes plan (built_if_reached r closed)) size) same) ∙ stops)

pub returns : goal.returns
returns c =
    let plan = staged c.args.plan.now in
    let size = (staged c.args.plan.now).size in
    let closed = (world_of c.args.world.now).closed in
    let reached = at_place false c.as_slice-reached.result.now in
    let same : reached ≡ reaches plan c.args.n = ap (at_place false) (c.as_slice-reached.ensures ∙ c.in_ok-marks.ensures) ∙ marks-reach plan c.args.n in
    let all : all_below (join_passes plan (built_if_reached reached closed)) size ≡ true = below-fewer (join_passes plan (built_if_reached reached closed)) c.loop-k.k size c.loop-k.invariant (omega (arith, c.loop-k-test.false, c.len-k-end.ensures)) in
    sym (sym (ap (λ (r : ℕ → Bool). all_below (join_passes plan (built_if_reached r closed)) size) same) ∙ all)
