use Rattle.std.proofs.Common.{ap, sym, ◌∙◌}
use Rattle.pipe_frame.specs.Queues.{first_cells, others, with_cells}
use Rattle.pipe_frame.proofs.Queues.{first_fits}
use Rattle.pipe_frame.proofs.stacking.append_first.Goals as goal

pub append-requires : goal.append-requires
append-requires c = first_fits c.args.column.now.dtype c.args.queue c.take_first.new.self c.in-Some.first c.requires c.in-Some.ensures.some

pub returns-clause-cells : goal.returns-clause-cells
returns-clause-cells c = c.in_ok-append.ensures.ok ∙ ap (with_cells c.args.column.now) (sym (ap first_cells c.in-Some.ensures.some))

pub returns-clause-left : goal.returns-clause-left
returns-clause-left c = sym (ap others c.in-Some.ensures.some)
