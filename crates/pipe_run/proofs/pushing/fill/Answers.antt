use Rattle.std.proofs.Common.{refl, arith, length-append}
use Rattle.pipe_schema.specs.Rows.{Row}
use Rattle.pipe_chain.proofs.Weighing.{rows-length}
use Rattle.pipe_run.proofs.Limits.{over-end, over-memory, went-end}
use Rattle.pipe_run.proofs.pushing.fill.Goals as goal

pub returns-in-Ok-clause-room : goal.returns-in-Ok-clause-room
returns-in-Ok-clause-room g c = omega (arith, rows-length c.in-Ok.ensures.held, length-append {A = Row}, c.requires.held, c.count.ensures.given c.if-not-count.false)

pub returns-then-not-count-clause-over : goal.returns-then-not-count-clause-over
returns-then-not-count-clause-over g c = over-end _ _ _ _ (rw c.height.ensures at (c.if-not-count.ensures.over refl))

pub returns-in-Err-clause-over : goal.returns-in-Err-clause-over
returns-in-Err-clause-over g c = over-memory _ _ _ _

pub returns-in-Ok-clause-went : goal.returns-in-Ok-clause-went
returns-in-Ok-clause-went g c = went-end _ _ _ _ _ (rw c.height.ensures at (c.count.ensures.given c.if-not-count.false)) c.in-Ok.ensures.held
