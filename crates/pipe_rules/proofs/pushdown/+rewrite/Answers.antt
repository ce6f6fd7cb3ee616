use Rattle.std.proofs.Common.{◌≡◌, ℕ, true, refl, ◌<◌, ◌≤◌, ◌+◌, ◌*◌, length, map, get_or, sym, ap, subst, ◌∙◌, arith}
use Rattle.pipe_expr.specs.Formula.{formula_of}
use Rattle.pipe_plan.specs.Node.{node_of}
use Rattle.pipe_plan.specs.Plan.{plan_of}
use Rattle.pipe_plan.specs.Faults.{most_nodes}
use Rattle.pipe_plan.specs.Schemas.{schema_of}
use Rattle.std.specs.List.{AllByRecursion}
use Rattle.pipe_plan.specs.Under.{inputs_of}
use Rattle.pipe_rules.specs.Placed.{first_input}
use Rattle.pipe_rules.specs.Reach.{formulas_in, AreOver}
use Rattle.pipe_rules.specs.Values.{parts_in}
use Rattle.pipe_rules.proofs.Reaches.{filter-schema}
use Rattle.pipe_rules.specs.Low.{IsConjunct}
use Rattle.pipe_rules.specs.Renumbered.{with_inputs}
use Rattle.pipe_rules.specs.Sizes.{sum_of, size_of}
use Rattle.pipe_rules.specs.Grown.{IsPut}
use Rattle.pipe_rules.proofs.Readings.{map-long, in-bounds, node-read, not-filter, item-member, first-none, one-next}
use Rattle.pipe_check.proofs.Walks.{member}
use Rattle.pipe_rules.specs.Placed.{is_input}
use Rattle.pipe_rules.proofs.Taken.{inputs-apart, served-none, served-next}
use Rattle.pipe_rules.proofs.Remade.{filter-rewritten, all-rewritten}
use Rattle.pipe_rules.proofs.Steps.{filter-input, filter-typed, filter-room, input-below, inputs-typed, inputs-room, push-room, next-room, put-over}
use Rattle.pipe_rules.proofs.pushdown.+rewrite.Goals as goal

pub rewrite-bounds-as_slice-n : goal.rewrite-bounds-as_slice-n
rewrite-bounds-as_slice-n t c = in-bounds c.args.plan.now.arena c.args.plan.now.root c.args.n c.as_slice.result.now c.requires.good c.requires.under (c.as_slice.ensures ∙ ap (λ a. a.nodes) c.arena.ensures.arena)

pub rewrite-schema-fields-requires : goal.rewrite-schema-fields-requires
rewrite-schema-fields-requires t c =
    let plan = plan_of c.args.plan.now.arena in
    let root = c.args.plan.now.root in
    let n = c.args.n in
    let same = c.as_slice.ensures ∙ ap (λ a. a.nodes) c.arena.ensures.arena in
    let below = in-bounds c.args.plan.now.arena root n c.as_slice.result.now c.requires.good c.requires.under same in
    let at = node-read c.args.plan.now.arena n c.as_slice.result.now c.index-as_slice-n.result same below c.index-as_slice-n.is ∙ ap node_of c.in-Filter.is in
    (filter-input plan root c.requires.good n c.requires.under c.in-Filter.input (formula_of c.in-Filter.predicate) at).1

pub rewrite-with_conjuncts-requires : goal.rewrite-with_conjuncts-requires
rewrite-with_conjuncts-requires t c =
    let plan = plan_of c.args.plan.now.arena in
    let root = c.args.plan.now.root in
    let n = c.args.n in
    let same = c.as_slice.ensures ∙ ap (λ a. a.nodes) c.arena.ensures.arena in
    let below = in-bounds c.args.plan.now.arena root n c.as_slice.result.now c.requires.good c.requires.under same in
    let at = node-read c.args.plan.now.arena n c.as_slice.result.now c.index-as_slice-n.result same below c.index-as_slice-n.is ∙ ap node_of c.in-Filter.is in
    subst (λ f. AreOver f c.args.conjuncts) (filter-schema plan root c.requires.good n c.requires.under c.in-Filter.input (formula_of c.in-Filter.predicate) at ∙ sym c.schema-fields.ensures) c.requires.over

pub rewrite-rewrite-requires : goal.rewrite-rewrite-requires
rewrite-rewrite-requires t c =
    let plan = plan_of c.args.plan.now.arena in
    let root = c.args.plan.now.root in
    let n = c.args.n in
    let good = c.requires.good in
    let under = c.requires.under in
    let same = c.as_slice.ensures ∙ ap (λ a. a.nodes) c.arena.ensures.arena in
    let below = in-bounds c.args.plan.now.arena root n c.as_slice.result.now good under same in
    let at = node-read c.args.plan.now.arena n c.as_slice.result.now c.index-as_slice-n.result same below c.index-as_slice-n.is ∙ ap node_of c.in-Filter.is in
    let input = c.in-Filter.input in
    let predicate = formula_of c.in-Filter.predicate in
    let fed = filter-input plan root good n under input predicate at in
    let lt : input < n = fed.0 in
    let typed = filter-typed plan root good n under input predicate (formulas_in c.args.conjuncts) (formulas_in c.in_ok-all-in-Filter.all) at c.requires.typed c.in_ok-all-in-Filter.ensures.all in
    let room = filter-room plan root good n under most_nodes (length c.args.nodes.now) input predicate at c.requires.room in
    let there = subst (λ f. AreOver f c.in_ok-all-in-Filter.all) c.schema-fields.ensures c.in_ok-all-in-Filter.ensures.over in
    (omega arith, (good, (c.requires.frames, (fed.1, (typed, (there, room))))))

pub rewrite-rewrite_node-requires : goal.rewrite-rewrite_node-requires
rewrite-rewrite_node-requires t c =
    let root = c.args.plan.now.root in
    let n = c.args.n in
    let good = c.requires.good in
    let under = c.requires.under in
    let same = c.as_slice.ensures ∙ ap (λ a. a.nodes) c.arena.ensures.arena in
    let below = in-bounds c.args.plan.now.arena root n c.as_slice.result.now good under same in
    let at = node-read c.args.plan.now.arena n c.as_slice.result.now c.index-as_slice-n.result same below c.index-as_slice-n.is in
    let plain = not-filter c.index-as_slice-n.result c.in_default.not-Filter in
    (omega arith, (good, (c.requires.frames, (under, (at, (plain, (c.requires.typed, (c.requires.over, c.requires.room))))))))

pub rewrite-returns-in_ok-rewrite-in-Filter-clause-rewritten : goal.rewrite-returns-in_ok-rewrite-in-Filter-clause-rewritten
rewrite-returns-in_ok-rewrite-in-Filter-clause-rewritten t c =
    let plan = plan_of c.args.plan.now.arena in
    let root = c.args.plan.now.root in
    let n = c.args.n in
    let good = c.requires.good in
    let under = c.requires.under in
    let same = c.as_slice.ensures ∙ ap (λ a. a.nodes) c.arena.ensures.arena in
    let below = in-bounds c.args.plan.now.arena root n c.as_slice.result.now good under same in
    let at = node-read c.args.plan.now.arena n c.as_slice.result.now c.index-as_slice-n.result same below c.index-as_slice-n.is ∙ ap node_of c.in-Filter.is in
    filter-rewritten plan root good c.requires.frames (map node_of c.args.nodes.now) (map node_of c.rewrite.new.nodes) n c.in-Filter.input (formula_of c.in-Filter.predicate) (formulas_in c.args.conjuncts) (formulas_in c.in_ok-all-in-Filter.all) c.in_ok-rewrite-in-Filter.field-0 under at c.in_ok-all-in-Filter.ensures.all c.in_ok-rewrite-in-Filter.ensures.rewritten

pub rewrite_inputs-loop-input-init : goal.rewrite_inputs-loop-input-init
rewrite_inputs-loop-input-init t c = record {
  done = first-none (plan_of c.args.plan.now.arena) (node_of c.args.node.now) (parts_in c.args.parts.now) (map node_of c.args.nodes.now) c.new-numbers.result c.new-numbers.ensures;
  serves = served-none (node_of c.args.node.now) c.args.inputs.now 0 (parts_in c.args.parts.now);
  above = refl;
  over = c.requires.over;
}

pub rewrite_inputs-take_for-requires : goal.rewrite_inputs-take_for-requires
rewrite_inputs-take_for-requires t c =
    let ns = c.args.inputs.now in
    let i = c.loop-input.input-index in
    ap (λ l. member (get_or ns i 0) l) (sym c.requires.inputs) ∙ item-member ns i 0 c.loop-input-test.true

pub rewrite_inputs-rewrite-requires : goal.rewrite_inputs-rewrite-requires
rewrite_inputs-rewrite-requires t c =
    let plan = plan_of c.args.plan.now.arena in
    let root = c.args.plan.now.root in
    let n = c.args.n in
    let x = node_of c.args.node.now in
    let ns = c.args.inputs.now in
    let i = c.loop-input.input-index in
    let input = get_or ns i 0 in
    let good = c.requires.good in
    let among = ap (λ l. Rattle.pipe_check.proofs.Walks.member input l) (sym c.requires.inputs) ∙ item-member ns i 0 c.loop-input-test.true in
    let fed = input-below plan root good n c.requires.under x input c.requires.at among in
    let lt : input < n = fed.0 in
    let share = c.in_ok-share.ensures.share ∙ c.loop-input.invariant.serves i (omega arith) c.loop-input-test.true in
    let typed = subst (AllByRecursion (IsConjunct (schema_of plan input))) (sym share) (c.requires.typed input among) in
    let old_long = map-long node_of c.args.nodes.now in
    let now_long = map-long node_of c.loop-input.nodes in
    let had = c.requires.room in
    let whole : length (map node_of c.args.nodes.now) + 2 * sum_of (size_of plan.nodes) ns ≤ most_nodes = omega arith in
    let room = next-room most_nodes plan (map node_of c.args.nodes.now) (map node_of c.loop-input.nodes) x (parts_in c.args.parts.now) ns c.loop-input.numbers i input c.loop-input.invariant.done c.loop-input-test.true (Rattle.pipe_rules.proofs.Readings.item-same ns i 0 input c.loop-input-test.true) whole in
    let over = c.in_ok-share.ensures.over (schema_of plan) c.loop-input.invariant.over in
    (omega arith, (good, (c.requires.frames, (fed.1, (typed, (over, omega arith))))))

pub rewrite_inputs-loop-input-preserved : goal.rewrite_inputs-loop-input-preserved
rewrite_inputs-loop-input-preserved t c =
    let plan = plan_of c.args.plan.now.arena in
    let x = node_of c.args.node.now in
    let ns = c.args.inputs.now in
    let i = c.loop-input.input-index in
    let share = c.in_ok-share.ensures.share ∙ c.loop-input.invariant.serves i (omega arith) c.loop-input-test.true in
    let own : (k : ℕ) → k < length ns → is_input x (get_or ns k 0) ≡ true = λ k lt. ap (λ l. member (get_or ns k 0) l) (sym c.requires.inputs) ∙ item-member ns k 0 lt in
    let others = inputs-apart plan c.args.plan.now.root c.requires.good c.args.n c.requires.under x ns c.requires.at c.requires.inputs i in
    record {
      done = one-next plan x (parts_in c.args.parts.now) (map node_of c.args.nodes.now) (map node_of c.loop-input.nodes) (map node_of c.rewrite.new.nodes) ns c.loop-input.numbers c.push.new.self i (get_or ns i 0) c.in_ok-number.number (formulas_in c.in_ok-share.share) c.loop-input.invariant.done c.loop-input-test.true refl share c.in_ok-number.ensures.rewritten c.in_ok-push.ensures.ok;
      serves = served-next x ns i (parts_in c.args.parts.now) (parts_in c.loop-input.parts) (parts_in c.take_for.new.self) c.loop-input.invariant.serves others own c.in_ok-share.ensures.others;
      above = c.in_ok-share.ensures.above ∙ c.loop-input.invariant.above;
      over = λ is. c.in_ok-share.ensures.left (schema_of plan (first_input (inputs_of x))) (c.loop-input.invariant.over is);
    }

pub rewrite_inputs-returns-clause-rewritten : goal.rewrite_inputs-returns-clause-rewritten
rewrite_inputs-returns-clause-rewritten t c =
    all-rewritten (plan_of c.args.plan.now.arena) (node_of c.args.node.now) (parts_in c.args.parts.now) (map node_of c.args.nodes.now) (map node_of c.loop-input.nodes) c.args.inputs.now c.loop-input.numbers c.loop-input.input-index c.loop-input.invariant.done (omega (arith, c.loop-input-test.false))

pub rewrite_node-rewrite_inputs-requires : goal.rewrite_node-rewrite_inputs-requires
rewrite_node-rewrite_inputs-requires t c =
    let plan = plan_of c.args.plan.now.arena in
    let root = c.args.plan.now.root in
    let n = c.args.n in
    let x = node_of c.args.node.now in
    let good = c.requires.good in
    let under = c.requires.under in
    let read = c.as_slice-read.ensures.value ∙ c.in_ok-inputs.ensures in
    let typed = inputs-typed plan root good n under c.requires.frames x (parts_in c.in_ok-parts.parts) (formulas_in c.args.conjuncts) c.requires.at c.in_ok-parts.ensures.parts c.requires.typed in
    let room = inputs-room plan root good n under most_nodes (length c.args.nodes.now) x c.as_slice-read.result.now c.requires.at read c.requires.room in
    (omega arith, (good, (c.requires.frames, (under, (c.requires.at, (read, (typed, (c.in_ok-parts.ensures.over, room))))))))

pub rewrite_node-push_over-requires : goal.rewrite_node-push_over-requires
rewrite_node-push_over-requires t c =
    let plan = plan_of c.args.plan.now.arena in
    let x = node_of c.args.node.now in
    let read = c.as_slice-read.ensures.value ∙ c.in_ok-inputs.ensures in
    let old_long = map-long node_of c.args.nodes.now in
    let new_long = map-long node_of c.rewrite_inputs.new.nodes in
    let had = c.requires.room in
    let own : length (map node_of c.args.nodes.now) + 2 * size_of plan.nodes c.args.n ≤ most_nodes = omega arith in
    let room = push-room plan c.args.plan.now.root c.requires.good c.args.n c.requires.under most_nodes (map node_of c.args.nodes.now) (map node_of c.rewrite_inputs.new.nodes) x (parts_in c.in_ok-parts.parts) c.as_slice-read.result.now c.in_ok-numbers.numbers c.requires.at read own c.in_ok-numbers.ensures.rewritten in
    omega arith

pub rewrite_node-returns-clause-rewritten : goal.rewrite_node-returns-clause-rewritten
rewrite_node-returns-clause-rewritten t c =
    let x = node_of c.args.node.now in
    let read = c.as_slice-read.ensures.value ∙ c.in_ok-inputs.ensures in
    let new = map node_of c.rewrite_inputs.new.nodes in
    let made = map node_of c.push_over.new.nodes in
    let k = c.in_ok-push_over.field-0 in
    let own = subst (λ l. IsPut new made (with_inputs x l) (map formula_of c.as_slice-2.result.now) k) c.as_slice.ensures c.in_ok-push_over.ensures.put in
    let put = subst (λ l. IsPut new made (with_inputs x c.in_ok-numbers.numbers) (map formula_of l) k) (c.as_slice-2.ensures ∙ c.rewrite_inputs.ensures.above) own in
    put-over (plan_of c.args.plan.now.arena) c.args.plan.now.root c.requires.good c.args.n c.requires.under c.requires.frames (map node_of c.args.nodes.now) new made x (parts_in c.in_ok-parts.parts) (formulas_in c.args.conjuncts) c.as_slice-read.result.now c.in_ok-numbers.numbers k c.requires.typed c.requires.plain c.requires.at read c.in_ok-parts.ensures.parts c.in_ok-numbers.ensures.rewritten put
