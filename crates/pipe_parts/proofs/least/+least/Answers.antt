use Rattle.std.proofs.Common.{◌≡◌, suc, ◌∷◌, ◌++◌, [], List, map, drop, take, get_or, ◌+◌, ◌-◌, ◌<◌, length, Option, Some, None, ap, sym, subst, ◌∙◌, arith, refl}
use Rattle.std.specs.Prelude.{slice_index_or}
use Rattle.std.specs.Option.{option_to_list}
use Rattle.std.specs.List.{flat_map}
use Rattle.pipe_expr.specs.Formula.{formula_of, named_formula_of}
use Rattle.pipe_plan.specs.Node.{node_of}
use Rattle.pipe_plan.specs.Node as node
use Rattle.pipe_plan.specs.Plan.{plan_of}
use Rattle.pipe_plan.specs.Under.{node_at}
use Rattle.pipe_plan.specs.Schemas.{schema_of}
use Rattle.pipe_plan.specs.declared.ir.PlanSlice.{PlanSlice}
use Rattle.pipe_parts.specs.Wishes.{alone, alike, beside_whole, wishes_below, key_ways, keyed_on, split_ways, join_ways, slice_ways}
use Rattle.pipe_parts.specs.Choices.{Choice, in_pairs, choices_for, choices_of}
use Rattle.pipe_parts.specs.Parts.{frame_in}
use Rattle.pipe_parts.specs.declared.wish.Wish.{Wish}
use Rattle.pipe_parts.specs.declared.wish.Wish.TheVariants.{Key, Whole}
use Rattle.pipe_parts.specs.declared.keys.Sides.{Sides}
use Rattle.pipe_parts.specs.Least.{IsBest}
use Rattle.pipe_parts.specs.Sides.{sides_in, way_if, AreFed, AreOneKey, IsLeftOf}
use Rattle.pipe_parts.proofs.Own.{fed, fed-at, take-all, one-for, one-list, none-list, way-list, ok-list, two-ways-ok, next-way, next-input, no-input, both-ok, one-ok, below-done, union-done, sort-done, join-done, scan-done, one-key}
use Rattle.pipe_parts.proofs.Steps.{not-full}
use Rattle.pipe_parts.proofs.least.+least.Goals as goal

pub least-least_below-requires : goal.least-least_below-requires
least-least_below-requires t c =
    let plan = plan_of c.args.plan.now.arena in
    let root = c.args.plan.now.root in
    let sizes = c.args.sizes.now in
    let x = node.Filter c.in-Filter.input (formula_of c.in-Filter.predicate) in
    let is : node_of c.node_of_plan-node.result.now ≡ x = ap node_of c.in-Filter.is in
    let at : node_at plan.nodes c.args.n ≡ x = sym c.node_of_plan-node.ensures ∙ is in
    (omega arith, (c.requires.good, fed plan root c.requires.good c.args.n c.requires.under x at))

pub least-least_below-requires-in-SimpleProjection : goal.least-least_below-requires-in-SimpleProjection
least-least_below-requires-in-SimpleProjection t c =
    let plan = plan_of c.args.plan.now.arena in
    let root = c.args.plan.now.root in
    let sizes = c.args.sizes.now in
    let x = node.SimpleProjection c.in-SimpleProjection.input c.in-SimpleProjection.columns in
    let is : node_of c.node_of_plan-node.result.now ≡ x = ap node_of c.in-SimpleProjection.is in
    let at : node_at plan.nodes c.args.n ≡ x = sym c.node_of_plan-node.ensures ∙ is in
    (omega arith, (c.requires.good, fed plan root c.requires.good c.args.n c.requires.under x at))

pub least-least_below-requires-in-Select : goal.least-least_below-requires-in-Select
least-least_below-requires-in-Select t c =
    let plan = plan_of c.args.plan.now.arena in
    let root = c.args.plan.now.root in
    let sizes = c.args.sizes.now in
    let x = node.Select c.in-Select.input (map named_formula_of c.in-Select.exprs) in
    let is : node_of c.node_of_plan-node.result.now ≡ x = ap node_of c.in-Select.is in
    let at : node_at plan.nodes c.args.n ≡ x = sym c.node_of_plan-node.ensures ∙ is in
    (omega arith, (c.requires.good, fed plan root c.requires.good c.args.n c.requires.under x at))

pub least-least_below-requires-in-HStack : goal.least-least_below-requires-in-HStack
least-least_below-requires-in-HStack t c =
    let plan = plan_of c.args.plan.now.arena in
    let root = c.args.plan.now.root in
    let sizes = c.args.sizes.now in
    let x = node.HStack c.in-HStack.input (map named_formula_of c.in-HStack.exprs) in
    let is : node_of c.node_of_plan-node.result.now ≡ x = ap node_of c.in-HStack.is in
    let at : node_at plan.nodes c.args.n ≡ x = sym c.node_of_plan-node.ensures ∙ is in
    (omega arith, (c.requires.good, fed plan root c.requires.good c.args.n c.requires.under x at))

pub least-least_below-requires-in-MapFunction : goal.least-least_below-requires-in-MapFunction
least-least_below-requires-in-MapFunction t c =
    let plan = plan_of c.args.plan.now.arena in
    let root = c.args.plan.now.root in
    let sizes = c.args.sizes.now in
    let x = node.MapFunction c.in-MapFunction.input c.in-MapFunction.function in
    let is : node_of c.node_of_plan-node.result.now ≡ x = ap node_of c.in-MapFunction.is in
    let at : node_at plan.nodes c.args.n ≡ x = sym c.node_of_plan-node.ensures ∙ is in
    (omega arith, (c.requires.good, fed plan root c.requires.good c.args.n c.requires.under x at))

pub least-least_all-requires : goal.least-least_all-requires
least-least_all-requires t c =
    let plan = plan_of c.args.plan.now.arena in
    let root = c.args.plan.now.root in
    let sizes = c.args.sizes.now in
    let x = node.Union c.in-Union.inputs in
    let is : node_of c.node_of_plan-node.result.now ≡ x = ap node_of c.in-Union.is in
    let at : node_at plan.nodes c.args.n ≡ x = sym c.node_of_plan-node.ensures ∙ is in
    (omega arith, (c.requires.good, subst (AreFed plan root c.args.n) (sym c.as_slice.ensures) (fed plan root c.requires.good c.args.n c.requires.under x at)))

pub least-least_join-requires : goal.least-least_join-requires
least-least_join-requires t c =
    let plan = plan_of c.args.plan.now.arena in
    let root = c.args.plan.now.root in
    let sizes = c.args.sizes.now in
    let x = node.Join c.in-Join.left c.in-Join.right (map formula_of c.in-Join.left_on) (map formula_of c.in-Join.right_on) c.in-Join.options in
    let is : node_of c.node_of_plan-node.result.now ≡ x = ap node_of c.in-Join.is in
    let at : node_at plan.nodes c.args.n ≡ x = sym c.node_of_plan-node.ensures ∙ is in
    (omega arith, (c.requires.good, (fed plan root c.requires.good c.args.n c.requires.under x at, subst IsLeftOf (sym is) (λ input name. refl))))

pub least-least_sorted-requires : goal.least-least_sorted-requires
least-least_sorted-requires t c =
    let plan = plan_of c.args.plan.now.arena in
    let root = c.args.plan.now.root in
    let sizes = c.args.sizes.now in
    let x = node.Sort c.in-Sort.input c.in-Sort.by c.in-Sort.options in
    let is : node_of c.node_of_plan-node.result.now ≡ x = ap node_of c.in-Sort.is in
    let at : node_at plan.nodes c.args.n ≡ x = sym c.node_of_plan-node.ensures ∙ is in
    (omega arith, (c.requires.good, fed plan root c.requires.good c.args.n c.requires.under x at))

pub least-returns-in-DataFrameScan-clause-best : goal.least-returns-in-DataFrameScan-clause-best
least-returns-in-DataFrameScan-clause-best t c =
    let plan = plan_of c.args.plan.now.arena in
    let root = c.args.plan.now.root in
    let sizes = c.args.sizes.now in
    let x = node.DataFrameScan c.in-DataFrameScan.frame c.in-DataFrameScan.columns in
    let is : node_of c.node_of_plan-node.result.now ≡ x = ap node_of c.in-DataFrameScan.is in
    let at : node_at plan.nodes c.args.n ≡ x = sym c.node_of_plan-node.ensures ∙ is in
    let frame : frame_in (node_at plan.nodes c.args.n) ≡ c.in-DataFrameScan.frame = ap frame_in at in
    scan-done plan sizes root c.requires.good c.args.n c.requires.under c.args.wish.now c.one.result c.in-DataFrameScan.frame c.in-DataFrameScan.columns at
    (one-ok c.one.result c.args.n c.rows_of_frame.result c.args.wish.now c.one.ensures.best plan sizes (c.rows_of_frame.ensures ∙ ap (λ f. slice_index_or sizes f 0) (sym frame)))

pub least-returns-in-Filter-clause-best : goal.least-returns-in-Filter-clause-best
least-returns-in-Filter-clause-best t c =
    let plan = plan_of c.args.plan.now.arena in
    let root = c.args.plan.now.root in
    let sizes = c.args.sizes.now in
    let x = node.Filter c.in-Filter.input (formula_of c.in-Filter.predicate) in
    let is : node_of c.node_of_plan-node.result.now ≡ x = ap node_of c.in-Filter.is in
    let at : node_at plan.nodes c.args.n ≡ x = sym c.node_of_plan-node.ensures ∙ is in
    below-done plan sizes root c.requires.good c.args.n c.requires.under c.args.wish.now c.least_below.result c.in-Filter.input x (node_of c.node_of_plan-node.result.now) c.node_of_plan-node.ensures is refl c.least_below.ensures.best

pub least-returns-in-SimpleProjection-clause-best : goal.least-returns-in-SimpleProjection-clause-best
least-returns-in-SimpleProjection-clause-best t c =
    let plan = plan_of c.args.plan.now.arena in
    let root = c.args.plan.now.root in
    let sizes = c.args.sizes.now in
    let x = node.SimpleProjection c.in-SimpleProjection.input c.in-SimpleProjection.columns in
    let is : node_of c.node_of_plan-node.result.now ≡ x = ap node_of c.in-SimpleProjection.is in
    let at : node_at plan.nodes c.args.n ≡ x = sym c.node_of_plan-node.ensures ∙ is in
    below-done plan sizes root c.requires.good c.args.n c.requires.under c.args.wish.now c.least_below-in-SimpleProjection.result c.in-SimpleProjection.input x (node_of c.node_of_plan-node.result.now) c.node_of_plan-node.ensures is refl c.least_below-in-SimpleProjection.ensures.best

pub least-returns-in-Select-clause-best : goal.least-returns-in-Select-clause-best
least-returns-in-Select-clause-best t c =
    let plan = plan_of c.args.plan.now.arena in
    let root = c.args.plan.now.root in
    let sizes = c.args.sizes.now in
    let x = node.Select c.in-Select.input (map named_formula_of c.in-Select.exprs) in
    let is : node_of c.node_of_plan-node.result.now ≡ x = ap node_of c.in-Select.is in
    let at : node_at plan.nodes c.args.n ≡ x = sym c.node_of_plan-node.ensures ∙ is in
    below-done plan sizes root c.requires.good c.args.n c.requires.under c.args.wish.now c.least_below-in-Select.result c.in-Select.input x (node_of c.node_of_plan-node.result.now) c.node_of_plan-node.ensures is refl c.least_below-in-Select.ensures.best

pub least-returns-in-HStack-clause-best : goal.least-returns-in-HStack-clause-best
least-returns-in-HStack-clause-best t c =
    let plan = plan_of c.args.plan.now.arena in
    let root = c.args.plan.now.root in
    let sizes = c.args.sizes.now in
    let x = node.HStack c.in-HStack.input (map named_formula_of c.in-HStack.exprs) in
    let is : node_of c.node_of_plan-node.result.now ≡ x = ap node_of c.in-HStack.is in
    let at : node_at plan.nodes c.args.n ≡ x = sym c.node_of_plan-node.ensures ∙ is in
    below-done plan sizes root c.requires.good c.args.n c.requires.under c.args.wish.now c.least_below-in-HStack.result c.in-HStack.input x (node_of c.node_of_plan-node.result.now) c.node_of_plan-node.ensures is refl c.least_below-in-HStack.ensures.best

pub least-returns-in-MapFunction-clause-best : goal.least-returns-in-MapFunction-clause-best
least-returns-in-MapFunction-clause-best t c =
    let plan = plan_of c.args.plan.now.arena in
    let root = c.args.plan.now.root in
    let sizes = c.args.sizes.now in
    let x = node.MapFunction c.in-MapFunction.input c.in-MapFunction.function in
    let is : node_of c.node_of_plan-node.result.now ≡ x = ap node_of c.in-MapFunction.is in
    let at : node_at plan.nodes c.args.n ≡ x = sym c.node_of_plan-node.ensures ∙ is in
    below-done plan sizes root c.requires.good c.args.n c.requires.under c.args.wish.now c.least_below-in-MapFunction.result c.in-MapFunction.input x (node_of c.node_of_plan-node.result.now) c.node_of_plan-node.ensures is refl c.least_below-in-MapFunction.ensures.best

pub least-returns-in-Union-clause-best : goal.least-returns-in-Union-clause-best
least-returns-in-Union-clause-best t c =
    let plan = plan_of c.args.plan.now.arena in
    let root = c.args.plan.now.root in
    let sizes = c.args.sizes.now in
    let x = node.Union c.in-Union.inputs in
    let is : node_of c.node_of_plan-node.result.now ≡ x = ap node_of c.in-Union.is in
    let at : node_at plan.nodes c.args.n ≡ x = sym c.node_of_plan-node.ensures ∙ is in
    union-done plan sizes root c.requires.good c.args.n c.requires.under c.args.wish.now c.least_all.result c.in-Union.inputs c.as_slice.result.now at c.as_slice.ensures c.least_all.ensures.best

pub least-returns-in-Join-clause-best : goal.least-returns-in-Join-clause-best
least-returns-in-Join-clause-best t c =
    let plan = plan_of c.args.plan.now.arena in
    let root = c.args.plan.now.root in
    let sizes = c.args.sizes.now in
    let x = node.Join c.in-Join.left c.in-Join.right (map formula_of c.in-Join.left_on) (map formula_of c.in-Join.right_on) c.in-Join.options in
    let is : node_of c.node_of_plan-node.result.now ≡ x = ap node_of c.in-Join.is in
    let at : node_at plan.nodes c.args.n ≡ x = sym c.node_of_plan-node.ensures ∙ is in
    join-done plan sizes root c.requires.good c.args.n c.requires.under c.args.wish.now c.least_join.result c.in-Join.left c.in-Join.right (map formula_of c.in-Join.left_on) (map formula_of c.as_slice-in-Join.result.now) (map formula_of c.in-Join.right_on) (map formula_of c.as_slice-in-Join-2.result.now) c.in-Join.options (node_of c.node_of_plan-node.result.now) c.node_of_plan-node.ensures is (ap (map formula_of) c.as_slice-in-Join.ensures) (ap (map formula_of) c.as_slice-in-Join-2.ensures) c.least_join.ensures.best

pub least-returns-in-Sort-clause-best : goal.least-returns-in-Sort-clause-best
least-returns-in-Sort-clause-best t c =
    let plan = plan_of c.args.plan.now.arena in
    let root = c.args.plan.now.root in
    let sizes = c.args.sizes.now in
    let x = node.Sort c.in-Sort.input c.in-Sort.by c.in-Sort.options in
    let is : node_of c.node_of_plan-node.result.now ≡ x = ap node_of c.in-Sort.is in
    let at : node_at plan.nodes c.args.n ≡ x = sym c.node_of_plan-node.ensures ∙ is in
    sort-done plan sizes root c.requires.good c.args.n c.requires.under c.args.wish.now c.least_sorted.result c.in-Sort.input c.in-Sort.by c.in-Sort.options at c.least_sorted.ensures.best

pub least_all-loop-place-init : goal.least_all-loop-place-init
least_all-loop-place-init t c =
    let plan = plan_of c.args.plan.now.arena in
    let root = c.args.plan.now.root in
    let sizes = c.args.sizes.now in
    record {
      within = omega arith;
      best = no-input plan sizes (choices_of plan) c.args.wish.now c.nothing-found.result c.args.inputs.now (c.nothing-found.ensures.best plan sizes);
      bounded = c.nothing-found.ensures.bounded;
    }

pub least_all-bounds-inputs-place : goal.least_all-bounds-inputs-place
least_all-bounds-inputs-place t c =
    let place = c.loop-place.place in
    let within = c.loop-place.invariant.within in
    let some : 0 < place = omega (arith, c.loop-place-test.true) in
    let there : place - 1 < length c.args.inputs.now = omega arith in
    there

pub least_all-least-requires : goal.least_all-least-requires
least_all-least-requires t c =
    let plan = plan_of c.args.plan.now.arena in
    let root = c.args.plan.now.root in
    let sizes = c.args.sizes.now in
    let place = c.loop-place.place in
    let within = c.loop-place.invariant.within in
    let some : 0 < place = omega (arith, c.loop-place-test.true) in
    let there : place - 1 < length c.args.inputs.now = omega arith in
    let one = fed-at plan root c.args.n c.args.inputs.now c.requires.fed (place - 1) 0 there in
    let less : get_or c.args.inputs.now (place - 1) 0 < c.args.n = one.0 in
    (omega arith, (c.requires.good, one.1))

pub least_all-both-requires-clause-first : goal.least_all-both-requires-clause-first
least_all-both-requires-clause-first t c =
    c.in_ok-next.ensures.bounded

pub least_all-both-requires-clause-second : goal.least_all-both-requires-clause-second
least_all-both-requires-clause-second t c =
    c.loop-place.invariant.bounded

pub least_all-loop-place-smaller : goal.least_all-loop-place-smaller
least_all-loop-place-smaller t c =
    let place = c.loop-place.place in
    let within = c.loop-place.invariant.within in
    let some : 0 < place = omega (arith, c.loop-place-test.true) in
    let there : place - 1 < length c.args.inputs.now = omega arith in
    omega arith

pub least_all-loop-place-preserved : goal.least_all-loop-place-preserved
least_all-loop-place-preserved t c =
    let plan = plan_of c.args.plan.now.arena in
    let root = c.args.plan.now.root in
    let sizes = c.args.sizes.now in
    let place = c.loop-place.place in
    let within = c.loop-place.invariant.within in
    let some : 0 < place = omega (arith, c.loop-place-test.true) in
    let there : place - 1 < length c.args.inputs.now = omega arith in
    record {
      within = omega arith;
      best = next-input plan sizes (choices_of plan) c.args.wish.now c.in_ok-found.found c.args.inputs.now place 0 some within
          (c.in_ok-found.ensures.best plan sizes (choices_of plan (get_or c.args.inputs.now (place - 1) 0) c.args.wish.now) (choices_for (choices_of plan) (drop place c.args.inputs.now) (alike c.args.wish.now (drop place c.args.inputs.now))) c.in_ok-next.ensures.best c.loop-place.invariant.best);
      bounded = c.in_ok-found.ensures.bounded;
    }

pub least_all-returns-clause-best : goal.least_all-returns-clause-best
least_all-returns-clause-best t c =
    let plan = plan_of c.args.plan.now.arena in
    let root = c.args.plan.now.root in
    let sizes = c.args.sizes.now in
    let nought : c.loop-place.place ≡ 0 = omega (arith, c.loop-place-test.false) in
    subst (λ k. IsBest plan sizes (choices_for (choices_of plan) (drop k c.args.inputs.now) (alike c.args.wish.now (drop k c.args.inputs.now))) c.loop-place.found) nought c.loop-place.invariant.best

pub least_below-schema-requires : goal.least_below-schema-requires
least_below-schema-requires t c =
    c.requires.fed.0.1

pub least_below-least-requires : goal.least_below-least-requires
least_below-least-requires t c =
    let less : c.args.input < c.args.n = c.requires.fed.0.0 in
    (omega arith, (c.requires.good, c.requires.fed.0.1))

pub least_below-returns-in-Some-clause-best : goal.least_below-returns-in-Some-clause-best
least_below-returns-in-Some-clause-best t c =
    let plan = plan_of c.args.plan.now.arena in
    let root = c.args.plan.now.root in
    let sizes = c.args.sizes.now in
    let asked = wishes_below (schema_of plan c.args.input) (node_of c.args.node.now) c.args.wish.now in
    let listed : option_to_list c.in_ok-below.field-0 ≡ asked = c.in_ok-below.ensures ∙ ap (λ f. wishes_below f (node_of c.args.node.now) c.args.wish.now) c.schema.ensures in
    let one : c.in-Some.below ∷ [] ≡ asked = sym (ap option_to_list c.in-Some.is) ∙ listed in
    ok-list plan sizes (choices_of plan) c.least.result (choices_of plan c.args.input c.in-Some.below) (flat_map (choices_for (choices_of plan) (c.args.input ∷ [])) (map alone asked)) (one-list plan sizes (choices_of plan) c.args.input c.in-Some.below asked one) c.least.ensures.best

pub least_below-returns-in-None-clause-best : goal.least_below-returns-in-None-clause-best
least_below-returns-in-None-clause-best t c =
    let plan = plan_of c.args.plan.now.arena in
    let root = c.args.plan.now.root in
    let sizes = c.args.sizes.now in
    let asked = wishes_below (schema_of plan c.args.input) (node_of c.args.node.now) c.args.wish.now in
    let listed : option_to_list c.in_ok-below.field-0 ≡ asked = c.in_ok-below.ensures ∙ ap (λ f. wishes_below f (node_of c.args.node.now) c.args.wish.now) c.schema.ensures in
    none-list plan sizes (choices_of plan) c.args.input asked (sym (ap option_to_list c.in-None.is) ∙ listed)

pub least_join-least_ways-requires : goal.least_join-least_ways-requires
least_join-least_ways-requires t c =
    (omega arith, (c.requires.good, c.requires.sides))

pub least_join-schema-requires : goal.least_join-schema-requires
least_join-schema-requires t c =
    c.requires.sides.0.1

pub least_join-least_keyed-requires : goal.least_join-least_keyed-requires
least_join-least_keyed-requires t c =
    let plan = plan_of c.args.plan.now.arena in
    let root = c.args.plan.now.root in
    let sizes = c.args.sizes.now in
    let below : option_to_list c.in_ok-below-in_default.below ≡ wishes_below (schema_of plan c.args.join.left) (node_of c.args.node.now) c.args.wish.now = c.in_ok-below-in_default.ensures ∙ ap (λ f. wishes_below f (node_of c.args.node.now) c.args.wish.now) c.schema.ensures in
    let same = one-key (schema_of plan c.args.join.left) (node_of c.args.node.now) c.requires.left c.args.wish.now c.in-Key.key c.in-Key.columns c.as_slice-in_default.result.now c.in-Key.is c.as_slice-in_default.ensures c.in_ok-below-in_default.below c.in_ok-keyed-in_default.keyed below c.in_ok-keyed-in_default.ensures.left in
    (omega arith, (c.requires.good, (c.requires.sides, same)))

pub least_join-least_pair-requires : goal.least_join-least_pair-requires
least_join-least_pair-requires t c =
    (omega arith, (c.requires.good, c.requires.sides))

pub least_join-returns-in_ok-ways-in-Split-clause-best : goal.least_join-returns-in_ok-ways-in-Split-clause-best
least_join-returns-in_ok-ways-in-Split-clause-best t c =
    let plan = plan_of c.args.plan.now.arena in
    let root = c.args.plan.now.root in
    let sizes = c.args.sizes.now in
    let j = c.args.join in
    let F = choices_for (choices_of plan) (j.left ∷ j.right ∷ []) in
    let lo = map formula_of j.left_on.now in
    let ro = map formula_of j.right_on.now in
    let x = node_of c.args.node.now in
    let asked : Wish → List Wish = λ w. wishes_below (schema_of plan j.left) x w in
    let all : Wish → List (List Wish) = λ w. join_ways j.how j.n lo ro (asked w) w in
    let ways : map sides_in c.as_slice.result.now ≡ all c.args.wish.now = ap (map sides_in) c.as_slice.ensures ∙ c.in_ok-ways-in-Split.ensures ∙ ap (split_ways j.how) c.in_ok-keyed-in-Split.ensures.ways ∙ sym (ap all c.in-Split.is) in
    ok-list plan sizes (choices_of plan) c.least_ways.result (flat_map F (map sides_in c.as_slice.result.now)) (flat_map F (all c.args.wish.now)) (ap (flat_map F) ways) c.least_ways.ensures.best

pub least_join-returns-in-Full-clause-best : goal.least_join-returns-in-Full-clause-best
least_join-returns-in-Full-clause-best t c =
    let plan = plan_of c.args.plan.now.arena in
    let root = c.args.plan.now.root in
    let sizes = c.args.sizes.now in
    let j = c.args.join in
    let F = choices_for (choices_of plan) (j.left ∷ j.right ∷ []) in
    let lo = map formula_of j.left_on.now in
    let ro = map formula_of j.right_on.now in
    let x = node_of c.args.node.now in
    let asked : Wish → List Wish = λ w. wishes_below (schema_of plan j.left) x w in
    let all : Wish → List (List Wish) = λ w. join_ways j.how j.n lo ro (asked w) w in
    let wish = Key c.in-Key.key c.in-Key.columns in
    ap (λ w. flat_map F (all w)) c.in-Key.is
    ∙ ap (λ h. flat_map F (key_ways h (map beside_whole (asked wish)) (keyed_on c.in-Key.key c.in-Key.columns lo ro))) c.in-Full.is

pub least_join-returns-in_ok-keyed-in_default : goal.least_join-returns-in_ok-keyed-in_default
least_join-returns-in_ok-keyed-in_default t c =
    let plan = plan_of c.args.plan.now.arena in
    let root = c.args.plan.now.root in
    let sizes = c.args.sizes.now in
    let j = c.args.join in
    let F = choices_for (choices_of plan) (j.left ∷ j.right ∷ []) in
    let lo = map formula_of j.left_on.now in
    let ro = map formula_of j.right_on.now in
    let x = node_of c.args.node.now in
    let asked : Wish → List Wish = λ w. wishes_below (schema_of plan j.left) x w in
    let all : Wish → List (List Wish) = λ w. join_ways j.how j.n lo ro (asked w) w in
    let wish = Key c.in-Key.key c.in-Key.columns in
    let below : option_to_list c.in_ok-below-in_default.below ≡ asked c.args.wish.now = c.in_ok-below-in_default.ensures ∙ ap (λ f. wishes_below f x c.args.wish.now) c.schema.ensures in
    let keyed = keyed_on c.in-Key.key c.as_slice-in_default.result.now lo ro in
    let ways : map beside_whole (option_to_list c.in_ok-below-in_default.below) ++ way_if c.in_ok-keyed-in_default.keyed ≡ all c.args.wish.now =
    sym (c.in_ok-keyed-in_default.ensures.ways (map beside_whole (option_to_list c.in_ok-below-in_default.below)) (not-full c.args.join.how c.in_default.not-Full))
    ∙ ap (λ l. key_ways j.how (map beside_whole l) keyed) (below ∙ ap asked c.in-Key.is)
    ∙ ap (λ l. key_ways j.how (map beside_whole (asked wish)) (keyed_on c.in-Key.key l lo ro)) c.as_slice-in_default.ensures
    ∙ sym (ap all c.in-Key.is) in
    record {
      best = ok-list plan sizes (choices_of plan) c.least_keyed.result (flat_map F (map beside_whole (option_to_list c.in_ok-below-in_default.below) ++ way_if c.in_ok-keyed-in_default.keyed)) (flat_map F (all c.args.wish.now)) (ap (flat_map F) ways) c.least_keyed.ensures.best;
      bounded = c.least_keyed.ensures.bounded;
    }

pub least_join-returns-in-Whole-clause-best : goal.least_join-returns-in-Whole-clause-best
least_join-returns-in-Whole-clause-best t c =
    let plan = plan_of c.args.plan.now.arena in
    let root = c.args.plan.now.root in
    let sizes = c.args.sizes.now in
    let j = c.args.join in
    let F = choices_for (choices_of plan) (j.left ∷ j.right ∷ []) in
    let lo = map formula_of j.left_on.now in
    let ro = map formula_of j.right_on.now in
    let x = node_of c.args.node.now in
    let asked : Wish → List Wish = λ w. wishes_below (schema_of plan j.left) x w in
    let all : Wish → List (List Wish) = λ w. join_ways j.how j.n lo ro (asked w) w in
    ok-list plan sizes (choices_of plan) c.least_pair.result (in_pairs (choices_of plan j.left Whole) (choices_of plan j.right Whole)) (flat_map F (all c.args.wish.now)) (way-list plan sizes (choices_of plan) j.left j.right Whole Whole ∙ sym (ap (λ w. flat_map F (all w)) c.in-Whole.is)) c.least_pair.ensures.best

pub least_keyed-returns-in-None-keyed-clause-best : goal.least_keyed-returns-in-None-keyed-clause-best
least_keyed-returns-in-None-keyed-clause-best t c =
    let plan = plan_of c.args.plan.now.arena in
    let root = c.args.plan.now.root in
    let sizes = c.args.sizes.now in
    let j = c.args.join in
    let C = choices_of plan in
    let F = choices_for C (j.left ∷ j.right ∷ []) in
    let G : Option Wish → Option Sides → List Choice = λ b k. flat_map F (map beside_whole (option_to_list b) ++ way_if k) in
    ap (λ b. G b c.args.keyed) c.in-None.is ∙ ap (G None) c.in-None-keyed.is

pub least_keyed-least_pair-requires : goal.least_keyed-least_pair-requires
least_keyed-least_pair-requires t c =
    (omega arith, (c.requires.good, c.requires.sides))

pub least_keyed-returns-in-None-clause-best : goal.least_keyed-returns-in-None-clause-best
least_keyed-returns-in-None-clause-best t c =
    let plan = plan_of c.args.plan.now.arena in
    let root = c.args.plan.now.root in
    let sizes = c.args.sizes.now in
    let j = c.args.join in
    let C = choices_of plan in
    let F = choices_for C (j.left ∷ j.right ∷ []) in
    let G : Option Wish → Option Sides → List Choice = λ b k. flat_map F (map beside_whole (option_to_list b) ++ way_if k) in
    let way = c.in-Some-keyed.way in
    ok-list plan sizes C c.least_pair.result (in_pairs (C j.left way.left) (C j.right way.right)) (G c.args.below c.args.keyed) (way-list plan sizes C j.left j.right way.left way.right ∙ sym (ap (λ b. G b c.args.keyed) c.in-None.is ∙ ap (G None) c.in-Some-keyed.is)) c.least_pair.ensures.best

pub least_keyed-least-requires : goal.least_keyed-least-requires
least_keyed-least-requires t c =
    let less : c.args.join.left < c.args.join.n = c.requires.sides.0.0 in
    (omega arith, (c.requires.good, c.requires.sides.0.1))

pub least_keyed-least-requires-in-Some : goal.least_keyed-least-requires-in-Some
least_keyed-least-requires-in-Some t c =
    let less : c.args.join.right < c.args.join.n = c.requires.sides.1.0.0 in
    (omega arith, (c.requires.good, c.requires.sides.1.0.1))

pub least_keyed-both-requires-clause-first : goal.least_keyed-both-requires-clause-first
least_keyed-both-requires-clause-first t c =
    c.in_ok-first-in-Some.ensures.bounded

pub least_keyed-both-requires-clause-second : goal.least_keyed-both-requires-clause-second
least_keyed-both-requires-clause-second t c =
    c.in_ok-whole-in-Some.ensures.bounded

pub least_keyed-returns-in-None-keyed-2-clause-best : goal.least_keyed-returns-in-None-keyed-2-clause-best
least_keyed-returns-in-None-keyed-2-clause-best t c =
    let plan = plan_of c.args.plan.now.arena in
    let root = c.args.plan.now.root in
    let sizes = c.args.sizes.now in
    let j = c.args.join in
    let C = choices_of plan in
    let F = choices_for C (j.left ∷ j.right ∷ []) in
    let G : Option Wish → Option Sides → List Choice = λ b k. flat_map F (map beside_whole (option_to_list b) ++ way_if k) in
    let below = c.in-Some.below in
    ok-list plan sizes C c.both.result (in_pairs (C j.left below) (C j.right Whole)) (G c.args.below c.args.keyed) (way-list plan sizes C j.left j.right below Whole ∙ sym (ap (λ b. G b c.args.keyed) c.in-Some.is ∙ ap (G (Some below)) c.in-None-keyed-2.is))
    (both-ok c.both.result c.in_ok-first-in-Some.first c.in_ok-whole-in-Some.whole c.both.ensures.best plan sizes (C j.left below) (C j.right Whole) c.in_ok-first-in-Some.ensures.best c.in_ok-whole-in-Some.ensures.best)

pub least_keyed-least-requires-in-Some-keyed-2 : goal.least_keyed-least-requires-in-Some-keyed-2
least_keyed-least-requires-in-Some-keyed-2 t c =
    let less : c.args.join.right < c.args.join.n = c.requires.sides.1.0.0 in
    (omega arith, (c.requires.good, c.requires.sides.1.0.1))

pub least_keyed-better-requires-clause-first : goal.least_keyed-better-requires-clause-first
least_keyed-better-requires-clause-first t c =
    c.in_ok-whole-in-Some.ensures.bounded

pub least_keyed-better-requires-clause-second : goal.least_keyed-better-requires-clause-second
least_keyed-better-requires-clause-second t c =
    c.in_ok-part-in-Some-keyed-2.ensures.bounded

pub least_keyed-both-requires-in-Some-keyed-2-clause-first : goal.least_keyed-both-requires-in-Some-keyed-2-clause-first
least_keyed-both-requires-in-Some-keyed-2-clause-first t c =
    c.in_ok-first-in-Some.ensures.bounded

pub least_keyed-both-requires-in-Some-keyed-2-clause-second : goal.least_keyed-both-requires-in-Some-keyed-2-clause-second
least_keyed-both-requires-in-Some-keyed-2-clause-second t c =
    c.better.ensures.bounded

pub least_keyed-returns-clause-best : goal.least_keyed-returns-clause-best
least_keyed-returns-clause-best t c =
    let plan = plan_of c.args.plan.now.arena in
    let root = c.args.plan.now.root in
    let sizes = c.args.sizes.now in
    let j = c.args.join in
    let C = choices_of plan in
    let F = choices_for C (j.left ∷ j.right ∷ []) in
    let G : Option Wish → Option Sides → List Choice = λ b k. flat_map F (map beside_whole (option_to_list b) ++ way_if k) in
    let below = c.in-Some.below in
    let way = c.in-Some-keyed-2.way in
    let same : way.left ≡ below = subst (AreOneKey (Some below)) c.in-Some-keyed-2.is (subst (λ b. AreOneKey b c.args.keyed) c.in-Some.is c.requires.same) in
    let second = c.better.ensures.best plan sizes (C j.right Whole) (C j.right way.right) c.in_ok-whole-in-Some.ensures.best c.in_ok-part-in-Some-keyed-2.ensures.best in
    let pairs = both-ok c.both-in-Some-keyed-2.result c.in_ok-first-in-Some.first c.better.result c.both-in-Some-keyed-2.ensures.best plan sizes (C j.left below) (C j.right Whole ++ C j.right way.right) c.in_ok-first-in-Some.ensures.best second in
    ok-list plan sizes C c.both-in-Some-keyed-2.result (G (Some below) (Some way)) (G c.args.below c.args.keyed) (sym (ap (λ b. G b c.args.keyed) c.in-Some.is ∙ ap (G (Some below)) c.in-Some-keyed-2.is))
    (two-ways-ok plan sizes C c.both-in-Some-keyed-2.result j.left j.right below Whole way same pairs)

pub least_pair-least-requires : goal.least_pair-least-requires
least_pair-least-requires t c =
    let less : c.args.join.left < c.args.join.n = c.requires.sides.0.0 in
    (omega arith, (c.requires.good, c.requires.sides.0.1))

pub least_pair-least-requires-2 : goal.least_pair-least-requires-2
least_pair-least-requires-2 t c =
    let less : c.args.join.right < c.args.join.n = c.requires.sides.1.0.0 in
    (omega arith, (c.requires.good, c.requires.sides.1.0.1))

pub least_pair-both-requires-clause-first : goal.least_pair-both-requires-clause-first
least_pair-both-requires-clause-first t c =
    c.in_ok-first.ensures.bounded

pub least_pair-both-requires-clause-second : goal.least_pair-both-requires-clause-second
least_pair-both-requires-clause-second t c =
    c.in_ok-second.ensures.bounded

pub least_pair-returns-clause-best : goal.least_pair-returns-clause-best
least_pair-returns-clause-best t c =
    let plan = plan_of c.args.plan.now.arena in
    let root = c.args.plan.now.root in
    let sizes = c.args.sizes.now in
    both-ok c.both.result c.in_ok-first.first c.in_ok-second.second c.both.ensures.best plan sizes (choices_of plan c.args.join.left c.args.way.now.left) (choices_of plan c.args.join.right c.args.way.now.right) c.in_ok-first.ensures.best c.in_ok-second.ensures.best

pub least_sorted-least-requires : goal.least_sorted-least-requires
least_sorted-least-requires t c =
    let less : c.args.input < c.args.n = c.requires.fed.0.0 in
    (omega arith, (c.requires.good, c.requires.fed.0.1))

pub least_sorted-least-requires-in-Whole : goal.least_sorted-least-requires-in-Whole
least_sorted-least-requires-in-Whole t c =
    let less : c.args.input < c.args.n = c.requires.fed.0.0 in
    (omega arith, (c.requires.good, c.requires.fed.0.1))

pub least_sorted-returns-in-None-clause-best : goal.least_sorted-returns-in-None-clause-best
least_sorted-returns-in-None-clause-best t c =
    let plan = plan_of c.args.plan.now.arena in
    let root = c.args.plan.now.root in
    let sizes = c.args.sizes.now in
    let C = choices_of plan in
    let G : Option PlanSlice → Wish → List Choice = λ s w. flat_map (choices_for C (c.args.input ∷ [])) (slice_ways s w) in
    ok-list plan sizes C c.least.result (C c.args.input c.args.wish.now) (G c.args.slice c.args.wish.now) (sym (one-for plan sizes C c.args.input c.args.wish.now) ∙ sym (ap (λ s. G s c.args.wish.now) c.in-None.is)) c.least.ensures.best

pub least_sorted-returns-in-Split-clause-best : goal.least_sorted-returns-in-Split-clause-best
least_sorted-returns-in-Split-clause-best t c =
    let plan = plan_of c.args.plan.now.arena in
    let root = c.args.plan.now.root in
    let sizes = c.args.sizes.now in
    let C = choices_of plan in
    let G : Option PlanSlice → Wish → List Choice = λ s w. flat_map (choices_for C (c.args.input ∷ [])) (slice_ways s w) in
    ap (λ s. G s c.args.wish.now) c.in-Some.is ∙ ap (G (Some c.in-Some.field-0)) c.in-Split.is

pub least_sorted-returns-in-Key-clause-best : goal.least_sorted-returns-in-Key-clause-best
least_sorted-returns-in-Key-clause-best t c =
    let plan = plan_of c.args.plan.now.arena in
    let root = c.args.plan.now.root in
    let sizes = c.args.sizes.now in
    let C = choices_of plan in
    let G : Option PlanSlice → Wish → List Choice = λ s w. flat_map (choices_for C (c.args.input ∷ [])) (slice_ways s w) in
    ap (λ s. G s c.args.wish.now) c.in-Some.is ∙ ap (G (Some c.in-Some.field-0)) c.in-Key.is

pub least_sorted-returns-in-Whole-clause-best : goal.least_sorted-returns-in-Whole-clause-best
least_sorted-returns-in-Whole-clause-best t c =
    let plan = plan_of c.args.plan.now.arena in
    let root = c.args.plan.now.root in
    let sizes = c.args.sizes.now in
    let C = choices_of plan in
    let G : Option PlanSlice → Wish → List Choice = λ s w. flat_map (choices_for C (c.args.input ∷ [])) (slice_ways s w) in
    ok-list plan sizes C c.least-in-Whole.result (C c.args.input c.args.wish.now) (G c.args.slice c.args.wish.now)
    (ap (C c.args.input) c.in-Whole.is ∙ sym (one-for plan sizes C c.args.input Whole) ∙ sym (ap (λ s. G s c.args.wish.now) c.in-Some.is ∙ ap (G (Some c.in-Some.field-0)) c.in-Whole.is)) c.least-in-Whole.ensures.best

pub least_ways-least_pair-requires : goal.least_ways-least_pair-requires
least_ways-least_pair-requires t c =
    (omega arith, (c.requires.good, c.requires.sides))

pub least_ways-better-found-requires-clause-first : goal.least_ways-better-found-requires-clause-first
least_ways-better-found-requires-clause-first t c =
    c.loop-way.invariant.bounded

pub least_ways-better-found-requires-clause-second : goal.least_ways-better-found-requires-clause-second
least_ways-better-found-requires-clause-second t c =
    c.in_ok-next.ensures.bounded

pub least_ways-loop-way-preserved : goal.least_ways-loop-way-preserved
least_ways-loop-way-preserved t c =
    let plan = plan_of c.args.plan.now.arena in
    let root = c.args.plan.now.root in
    let sizes = c.args.sizes.now in
    let j = c.args.join in
    let C = choices_of plan in
    let F = choices_for C (j.left ∷ j.right ∷ []) in
    let i = c.loop-way.way-index in
    let way = c.way-item.result in
    let one : suc i ≡ i + 1 = omega arith in
    let both = c.better-found.ensures.best plan sizes (flat_map F (map sides_in (take i c.args.ways.now))) (in_pairs (C j.left way.left) (C j.right way.right)) c.loop-way.invariant.best c.in_ok-next.ensures.best in
    record {
      best = subst (λ k. IsBest plan sizes (flat_map F (map sides_in (take k c.args.ways.now))) c.better-found.result) one (next-way plan sizes C j.left j.right c.better-found.result c.args.ways.now i way c.loop-way-test.true c.way-item.is both);
      bounded = c.better-found.ensures.bounded;
    }

pub least_ways-returns-clause-best : goal.least_ways-returns-clause-best
least_ways-returns-clause-best t c =
    let plan = plan_of c.args.plan.now.arena in
    let root = c.args.plan.now.root in
    let sizes = c.args.sizes.now in
    let j = c.args.join in
    let F = choices_for (choices_of plan) (j.left ∷ j.right ∷ []) in
    subst (λ l. IsBest plan sizes (flat_map F (map sides_in l)) c.loop-way.found) (take-all c.args.ways.now c.loop-way.way-index (omega (arith, c.loop-way-test.false))) c.loop-way.invariant.best
