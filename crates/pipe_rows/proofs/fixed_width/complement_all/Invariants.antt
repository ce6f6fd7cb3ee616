use Rattle.pipe_rows.specs.Ordered.{complement}
use Rattle.pipe_rows.proofs.FillingLemmas.{Stored}
use Rattle.pipe_rows.proofs.fixed_width.complement_all.Given as goal

abbrev pub invariant-loop-i : goal.invariant-loop-i
invariant-loop-i l = Stored 0 l.i (λ k byte. complement byte) l.bytes l.initial.bytes
