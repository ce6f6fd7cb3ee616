use Rattle.std.proofs.Common.{rules, ◌≡◌, ◌∙◌, None}
use Rattle.pipe_slots.proofs.Padded.{padded}
use Rattle.pipe_engine.proofs.starting.no_sinks.Goals as goal

pub loop-node-preserved : goal.loop-node-preserved
loop-node-preserved g c = record {
  long = search rules;
  empty = λ k. rw c.in_ok-push.ensures.items (padded None c.loop-node.sinks.items k ∙ c.loop-node.invariant.empty k);
}

pub returns-clause-empty : goal.returns-clause-empty
returns-clause-empty g c = λ k. rw c.in_ok-push-2.ensures.items (padded None c.loop-node.sinks.items k ∙ c.loop-node.invariant.empty k)
