use Rattle.std.proofs.Common.{sym, ◌∙◌}
use Rattle.pipe_plan.specs.Node.{node_of}
use Rattle.pipe_optimize.specs.Lists.{names_at}
use Rattle.pipe_optimize.proofs.Whole.{needs-all}
use Rattle.pipe_optimize.proofs.all_needed.need_of_input.Goals as goal

pub returns-then-needs_all : goal.returns-then-needs_all
returns-then-needs_all c =
    sym (needs-all (names_at c.args.lists.now) (node_of c.args.node.now) c.args.needed.now c.args.whole c.args.input (sym c.needs_all.ensures ∙ c.if-needs_all.true) c.requires.whole c.requires.read)
