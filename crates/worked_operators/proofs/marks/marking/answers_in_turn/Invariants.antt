use Rattle.worked_operators.specs.Working.{IsIdle}
use Rattle.worked_operators.proofs.marks.marking.answers_in_turn.Given as goal

abbrev pub invariant-loop-i : goal.invariant-loop-i
invariant-loop-i g l = record {
  first : IsIdle l.full l.first;
  second : IsIdle l.full l.second;
}
