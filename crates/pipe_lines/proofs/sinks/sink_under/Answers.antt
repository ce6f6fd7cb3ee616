use Rattle.std.proofs.Common.{◌≡◌, true, false, sym, ◌∙◌}
use Rattle.pipe_convert.proofs.JoinNodes.{under_sort, under_join}
use Rattle.pipe_lines.proofs.sinks.sink_under.Goals as goal

pub node_sink-requires-clause-under : goal.node_sink-requires-clause-under
node_sink-requires-clause-under g c = λ κs lives. (c.requires.under ∙ c.if-under.true)

pub node_sink-requires-clause-specs : goal.node_sink-requires-clause-specs
node_sink-requires-clause-specs g c = λ κs lives. c.requires.specs

pub node_sink-requires-clause-parts : goal.node_sink-requires-clause-parts
node_sink-requires-clause-parts g c = λ κs lives. c.requires.parts

pub returns-else-under : goal.returns-else-under
returns-else-under g c = record {
  sort = λ there. (let e : true ≡ false = sym (under_sort c.args.plan.now c.args.n there) ∙ (c.requires.under ∙ c.if-under.false) in cc);
  join = λ there. (let e : true ≡ false = sym (under_join c.args.plan.now c.args.n there) ∙ (c.requires.under ∙ c.if-under.false) in cc);
}
