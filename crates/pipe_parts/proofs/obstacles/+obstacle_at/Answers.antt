use Rattle.std.proofs.Common.{◌≡◌, suc, ◌+◌, ◌-◌, ◌<◌, ◌≤◌, length, get_or, ap, sym, subst, ◌∙◌, arith, refl}
use Rattle.pipe_plan.specs.Node.{node_of}
use Rattle.pipe_plan.specs.Plan.{plan_of}
use Rattle.pipe_plan.specs.Under.{inputs_of, node_at}
use Rattle.pipe_plan.specs.Schemas.{schema_of}
use Rattle.pipe_rules.specs.Placed.{first_input}
use Rattle.pipe_parts.specs.Wishes.{ways}
use Rattle.pipe_parts.specs.Obstacles.{AreHad, HasLength, IsBarred, IsFirst, IsFoundAt, IsFoundOn, IsObstacle, asked_ways, why_of}
use Rattle.pipe_parts.specs.Sides.{AreFed}
use Rattle.pipe_parts.proofs.Own.{fed, fed-at}
use Rattle.pipe_parts.proofs.Barred.{ArePassed, all-at, all-barred, all-passed, by-node-ok, next-barred, no-way-yet, one-gone, one-passed, passed-held, ways-long}
use Rattle.pipe_parts.proofs.obstacles.+obstacle_at.Goals as goal

pub obstacle_among-loop-place-init : goal.obstacle_among-loop-place-init
obstacle_among-loop-place-init t c =
    let plan = plan_of c.args.plan.now.arena in
    record {
      within = omega arith;
      barred = no-way-yet plan c.args.inputs.now c.args.ways.now c.args.here;
    }

pub obstacle_among-bounds-ways-place : goal.obstacle_among-bounds-ways-place
obstacle_among-bounds-ways-place t c =
    let place = c.loop-place.place in
    let within = c.loop-place.invariant.within in
    let some : 0 < place = omega (arith, c.loop-place-test.true) in
    let there : place - 1 < length c.args.ways.now = omega arith in
    there

pub obstacle_among-obstacle_on-requires : goal.obstacle_among-obstacle_on-requires
obstacle_among-obstacle_on-requires t c =
    let place = c.loop-place.place in
    let within = c.loop-place.invariant.within in
    let some : 0 < place = omega (arith, c.loop-place-test.true) in
    let there : place - 1 < length c.args.ways.now = omega arith in
    let way = c.index-ways-place.result in
    let long : length way ≡ length c.args.inputs.now = all-at (HasLength c.args.inputs.now) c.args.ways.now (place - 1) way c.requires.long there c.index-ways-place.is in
    (omega arith, (c.requires.good, (c.requires.fed, ap length c.as_slice.ensures ∙ long)))

pub obstacle_among-loop-place-smaller : goal.obstacle_among-loop-place-smaller
obstacle_among-loop-place-smaller t c =
    let place = c.loop-place.place in
    let some : 0 < place = omega (arith, c.loop-place-test.true) in
    omega arith

pub obstacle_among-loop-place-preserved : goal.obstacle_among-loop-place-preserved
obstacle_among-loop-place-preserved t c =
    let plan = plan_of c.args.plan.now.arena in
    let is = c.args.inputs.now in
    let place = c.loop-place.place in
    let within = c.loop-place.invariant.within in
    let some : 0 < place = omega (arith, c.loop-place-test.true) in
    let way = c.index-ways-place.result in
    let told : IsFirst plan is c.as_slice.result.now c.in-Some.first = subst (IsFoundOn plan is c.as_slice.result.now) c.in-Some.is c.in_ok-first.ensures in
    let first : IsFirst plan is way c.in-Some.first = subst (λ w. IsFirst plan is w c.in-Some.first) c.as_slice.ensures told in
    record {
      within = omega arith;
      barred = next-barred plan is c.args.ways.now c.args.here c.loop-place.found c.in-Some.first place way some within c.index-ways-place.is c.loop-place.invariant.barred first;
    }

pub obstacle_among-returns-in-None : goal.obstacle_among-returns-in-None
obstacle_among-returns-in-None t c =
    let plan = plan_of c.args.plan.now.arena in
    let is = c.args.inputs.now in
    let place = c.loop-place.place in
    let within = c.loop-place.invariant.within in
    let some : 0 < place = omega (arith, c.loop-place-test.true) in
    let there : place - 1 < length c.args.ways.now = omega arith in
    let way = c.index-ways-place.result in
    let told : AreHad plan is c.as_slice.result.now = subst (IsFoundOn plan is c.as_slice.result.now) c.in-None.is c.in_ok-first.ensures in
    let had : AreHad plan is way = subst (AreHad plan is) c.as_slice.ensures told in
    λ e. one-gone plan is c.args.ways.now c.args.here (place - 1) way there c.index-ways-place.is had e

pub obstacle_among-returns : goal.obstacle_among-returns
obstacle_among-returns t c =
    let plan = plan_of c.args.plan.now.arena in
    all-barred plan c.args.inputs.now c.args.ways.now c.args.here c.loop-place.found c.loop-place.place c.loop-place-test.false c.loop-place.invariant.barred

pub obstacle_at-ways_of-requires : goal.obstacle_at-ways_of-requires
obstacle_at-ways_of-requires t c =
    let plan = plan_of c.args.plan.now.arena in
    let root = c.args.plan.now.root in
    let x = node_of c.node_of_plan-node.result.now in
    fed plan root c.requires.good c.args.n c.requires.under x (sym c.node_of_plan-node.ensures)

pub obstacle_at-obstacle_among-requires : goal.obstacle_at-obstacle_among-requires
obstacle_at-obstacle_among-requires t c =
    let plan = plan_of c.args.plan.now.arena in
    let root = c.args.plan.now.root in
    let x = node_of c.node_of_plan-node.result.now in
    let is = c.as_slice.result.now in
    let ie : is ≡ inputs_of x = c.as_slice.ensures.value ∙ c.in_ok-inputs.ensures in
    let we = c.as_slice-2.ensures ∙ c.in_ok-ways.ensures in
    let own_ : is ≡ inputs_of (node_at plan.nodes c.args.n) = ie ∙ ap inputs_of c.node_of_plan-node.ensures in (
      omega arith,
      (
        c.requires.good,
        (
          subst (AreFed plan root c.args.n) (sym own_) (fed plan root c.requires.good c.args.n c.requires.under (node_at plan.nodes c.args.n) refl),
          ways-long (schema_of plan (first_input (inputs_of x))) c.args.n x c.args.wish.now is c.as_slice-2.result.now ie we,
        ),
      ),
    )

pub obstacle_at-returns : goal.obstacle_at-returns
obstacle_at-returns t c =
    let plan = plan_of c.args.plan.now.arena in
    let root = c.args.plan.now.root in
    let x = node_of c.node_of_plan-node.result.now in
    let n = c.args.n in
    let wish = c.args.wish.now in
    let ie : c.as_slice.result.now ≡ inputs_of (node_at plan.nodes n) = c.as_slice.ensures.value ∙ c.in_ok-inputs.ensures ∙ ap inputs_of c.node_of_plan-node.ensures in
    let we : c.as_slice-2.result.now ≡ asked_ways plan (record { node = n; wish = wish }) = c.as_slice-2.ensures ∙ c.in_ok-ways.ensures ∙ ap (λ y. ways (schema_of plan (first_input (inputs_of y))) n y wish) c.node_of_plan-node.ensures in
    by-node-ok c.obstacle_among.result plan root c.requires.good n c.requires.under wish c.as_slice.result.now c.as_slice-2.result.now (record { node = n; why = c.reason.result }) ie we refl
    (c.reason.ensures ∙ ap (λ y. why_of y wish) c.node_of_plan-node.ensures) c.obstacle_among.ensures

pub obstacle_on-bounds-way-place : goal.obstacle_on-bounds-way-place
obstacle_on-bounds-way-place t c =
    let long = c.requires.long in
    let there = c.loop-place-test.true in
    omega arith

pub obstacle_on-obstacle_at-requires : goal.obstacle_on-obstacle_at-requires
obstacle_on-obstacle_at-requires t c =
    let plan = plan_of c.args.plan.now.arena in
    let root = c.args.plan.now.root in
    let place = c.loop-place.place in
    let there : place < length c.args.inputs.now = c.loop-place-test.true in
    let one = fed-at plan root c.args.n c.args.inputs.now c.requires.fed place 0 there in
    let less : get_or c.args.inputs.now place 0 < c.args.n = one.0 in
    (omega arith, (c.requires.good, one.1))

pub obstacle_on-returns-in-Some : goal.obstacle_on-returns-in-Some
obstacle_on-returns-in-Some t c =
    let plan = plan_of c.args.plan.now.arena in
    let place = c.loop-place.place in
    let i = get_or c.args.inputs.now place 0 in
    let w = c.index-way-place.result in
    let held : IsObstacle plan (record { node = i; wish = w }) c.in-Some.found = subst (IsFoundAt plan (record { node = i; wish = w })) c.in-Some.is c.in_ok-found.ensures in
    passed-held plan c.args.inputs.now c.args.way.now place i w c.in-Some.found c.requires.long c.loop-place-test.true refl c.index-way-place.is held c.loop-place.invariant

pub obstacle_on-loop-place-preserved : goal.obstacle_on-loop-place-preserved
obstacle_on-loop-place-preserved t c =
    let plan = plan_of c.args.plan.now.arena in
    let place = c.loop-place.place in
    let i = get_or c.args.inputs.now place 0 in
    let w = c.index-way-place.result in
    let had : IsBarred plan (record { node = i; wish = w }) → ⊥ = subst (IsFoundAt plan (record { node = i; wish = w })) c.in-None.is c.in_ok-found.ensures in
    let next : suc place ≡ place + 1 = omega arith in
    subst (ArePassed plan c.args.inputs.now c.args.way.now) next (one-passed plan c.args.inputs.now c.args.way.now place i w c.requires.long c.loop-place-test.true refl c.index-way-place.is had c.loop-place.invariant)

pub obstacle_on-returns : goal.obstacle_on-returns
obstacle_on-returns t c =
    let plan = plan_of c.args.plan.now.arena in
    let end : length c.args.inputs.now ≤ c.loop-place.place = omega (arith, c.loop-place-test.false) in
    all-passed plan c.args.inputs.now c.args.way.now c.loop-place.place c.requires.long end c.loop-place.invariant
