use Rattle.std.proofs.Common.{rules, ◌≡◌, ◌∙◌, sym}
use Rattle.pipe_frame.proofs.Queues.{appended_begins, appended_fits, appended_goes_on, appended_cells, appended_left, no_items}
use Rattle.pipe_frame.proofs.stacking.append_firsts.Goals as goal

pub append_first-requires : goal.append_first-requires
append_first-requires c = appended_fits c.args.column.now c.loop-queue.column c.args.queues.items c.loop-queue.queue-iterator.rest.items c.next.new.self.rest.items c.loop-queue.left.items c.in-Some.queue c.loop-queue.invariant c.in-Some.ensures.steps.0

pub loop-queue-preserved : goal.loop-queue-preserved
loop-queue-preserved c = appended_goes_on c.args.column.now c.loop-queue.column c.append_first.new.column c.args.queues.items c.loop-queue.queue-iterator.rest.items c.next.new.self.rest.items c.loop-queue.left.items c.push.new.self.items c.in-Some.queue c.in_ok-append_first.field-0 c.loop-queue.invariant c.in-Some.ensures.steps.0 c.in_ok-append_first.ensures.cells c.in_ok-append_first.ensures.left c.in_ok-push.ensures.items

pub returns-clause-cells : goal.returns-clause-cells
returns-clause-cells c =
    let zero_left : c.loop-queue.queue-iterator.rest.len ≡ 0 = search rules in
    appended_cells c.args.column.now c.loop-queue.column c.args.queues.items c.loop-queue.queue-iterator.rest.items c.loop-queue.left.items c.loop-queue.invariant (no_items c.loop-queue.queue-iterator.rest.items (sym c.loop-queue.queue-iterator.rest.ok.0 ∙ zero_left))

pub returns-clause-left : goal.returns-clause-left
returns-clause-left c =
    let zero_left : c.loop-queue.queue-iterator.rest.len ≡ 0 = search rules in
    appended_left c.args.column.now c.loop-queue.column c.args.queues.items c.loop-queue.queue-iterator.rest.items c.loop-queue.left.items c.loop-queue.invariant (no_items c.loop-queue.queue-iterator.rest.items (sym c.loop-queue.queue-iterator.rest.ok.0 ∙ zero_left))
