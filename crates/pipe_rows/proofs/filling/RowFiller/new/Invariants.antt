use Rattle.std.proofs.Common.{take}
use Rattle.pipe_rows.proofs.FillingLemmas.{Started}
use Rattle.pipe_rows.proofs.filling.RowFiller.new.Given as goal

abbrev pub invariant-loop-width : goal.invariant-loop-width
invariant-loop-width l = Started l.cursors.items l.ends.items (take l.width-index l.widths) l.end
