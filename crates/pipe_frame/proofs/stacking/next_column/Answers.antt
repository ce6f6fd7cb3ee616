use Rattle.std.proofs.Common.{List, ap, sym, subst}
use Rattle.std.specs.Prelude.{All}
use Rattle.std.specs.List.{flat_map}
use Rattle.pipe_frame.specs.Queues.{BeginsWith, first_cells}
use Rattle.pipe_column.specs.Series.{Cells}
use Rattle.pipe_frame.proofs.Queues.{filled_column}
use Rattle.pipe_frame.proofs.stacking.next_column.Goals as goal

pub append_firsts-requires : goal.append_firsts-requires
append_firsts-requires c = subst (λ (q : Cells). All (BeginsWith q.dtype) c.args.queues.items) (sym c.in_ok-column.ensures) c.requires

pub returns-clause-column : goal.returns-clause-column
returns-clause-column c = filled_column c.args.field.now.name c.args.field.now.dtype c.in_ok-try_clone.field-0 c.in_ok-column.column c.append_firsts.new.column (flat_map first_cells c.args.queues.items) c.in_ok-try_clone.ensures c.in_ok-column.ensures c.in_ok-left.ensures.cells
