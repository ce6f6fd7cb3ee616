use Rattle.std.proofs.Common.{rules, ◌≡◌, ◌∙◌, ap, sym}
use Rattle.pipe_frame.specs.Frame.{columns_of}
use Rattle.pipe_frame.proofs.Queues.{queued_goes_on, queued_ends, no_items}
use Rattle.pipe_frame.proofs.stacking.queues_of.Goals as goal

pub loop-chunk-preserved : goal.loop-chunk-preserved
loop-chunk-preserved c = queued_goes_on c.args.chunks.items c.loop-chunk.chunk-iterator.rest.items c.next.new.self.rest.items c.in-Some.chunk c.loop-chunk.queues.items c.push.new.self.items c.of_frame.result c.loop-chunk.invariant c.in-Some.ensures.steps.0 (c.of_frame.ensures ∙ ap columns_of c.into_frame.ensures) c.in_ok-push.ensures.items

pub returns : goal.returns
returns c =
    let zero_left : c.loop-chunk.chunk-iterator.rest.len ≡ 0 = search rules in
    queued_ends c.args.chunks.items c.loop-chunk.chunk-iterator.rest.items c.loop-chunk.queues.items c.loop-chunk.invariant (no_items c.loop-chunk.chunk-iterator.rest.items (sym c.loop-chunk.chunk-iterator.rest.ok.0 ∙ zero_left))
