use Rattle.std.proofs.Common.{sym, ap, ◌∙◌}
use Rattle.pipe_engine.proofs.Counted.{first_none, first_some}
use Rattle.pipe_engine.proofs.counting.node_given.Goals as goal

pub returns-then-is_empty : goal.returns-then-is_empty
returns-then-is_empty g c = first_none c.args.lane.now.stages.items _ c.args.lane.now.target c.args.lane.now.stages.ok.0 (sym c.is_empty.ensures ∙ c.if-is_empty.true)

pub returns : goal.returns
returns g c = ap (λ st. st.node) c.index.ensures ∙ first_some c.args.lane.now.stages.items _ c.args.lane.now.target _ c.args.lane.now.stages.ok.0 (sym c.is_empty.ensures ∙ c.if-is_empty.false)
