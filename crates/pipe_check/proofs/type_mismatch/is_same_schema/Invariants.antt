use Rattle.std.proofs.Common.{◌≡◌, drop}
use Rattle.std.specs.Cmp.Lexicographic.{pointwise}
use Rattle.pipe_plan.specs.Faults.{eq_field}
use Rattle.pipe_check.proofs.type_mismatch.is_same_schema.Given as goal

abbrev pub invariant-loop-i : goal.invariant-loop-i
invariant-loop-i l = pointwise eq_field (drop l.i l.a) (drop l.i l.b) ≡ pointwise eq_field l.a l.b
