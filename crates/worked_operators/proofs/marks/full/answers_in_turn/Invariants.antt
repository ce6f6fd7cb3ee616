use Rattle.worked_operators.specs.Working.{IsIdleFull}
use Rattle.worked_operators.proofs.marks.full.answers_in_turn.Given as goal

abbrev pub invariant-loop-i : goal.invariant-loop-i
invariant-loop-i g l = record {
  first : IsIdleFull l.full l.first;
  second : IsIdleFull l.full l.second;
}
