-- What the driver knows of the leg that runs.
use Rattle.std.proofs.Common.{◌≡◌, ℕ, zero, suc, ◌<◌, ◌≤◌, List, [], ◌∷◌, drop, length, Option, None, inl, inr, subst, arith}
use Rattle.pipe_frame.specs.Frame.{Table}
use Rattle.pipe_driver.proofs.Tests.{some-left}
use Rattle.pipe_driver.proofs.Fronts.{some_later}
use Rattle.pipe_driver.specs.Lines.{Task, counts_as}
use Rattle.pipe_driver.specs.Runs.{Between, IsAnswer, KeepsRoot}
use Rattle.pipe_driver.specs.Words.{RunnerWords}
use Rattle.pipe_driver.specs.declared.pipe_line.PipeLine.{PipeLine}
use Rattle.pipe_driver.specs.declared.run.Run.{Run}
use Rattle.pipe_driver.specs.declared.branch.SinkAt.{SinkAt}
use Rattle.pipe_engine.specs.Engine.{IsBefore, IsIdle}
use Rattle.pipe_engine.specs.declared.engine.Engine.{Engine}
use Rattle.pipe_engine.specs.declared.engine.OpenLeg.{OpenLeg}

-- a leg that has nodes or a sink before it runs
pub leg_runs : {H : Type 0} (engine : Engine H) (now : List ℕ) (at : SinkAt) → IsBefore engine.leg now at → IsIdle engine → ⊥
leg_runs {H = H} engine now at before idle = let B : Option (OpenLeg H) → Type 0 = λ leg. IsBefore leg now at in subst B idle before

no_more : {A : Type 0} (xs : List A) (n : ℕ) → length (drop n xs) ≤ length xs
no_more xs zero = omega arith
no_more [] (suc n) = omega arith
no_more (x ∷ xs) (suc n) = let l = no_more xs n in omega arith

-- some branches less are left
pub fewer_left : {A : Type 0} (xs : List A) (n : ℕ) → 0 < n → 0 < length xs → length (drop n xs) < length xs
fewer_left [] n some there = absurd (omega arith)
fewer_left (x ∷ xs) zero some there = absurd (omega arith)
fewer_left (x ∷ xs) (suc n) some there = let l = no_more xs n in omega arith

-- where no branch is left, the answer is there
pub answer_there : {R S P : Type 0} (r : RunnerWords R S P) (k : Task) (old run : Run R S P) (todo : List (PipeLine S P)) (answer : Option Table) → Between r k run todo → todo ≡ [] → 0 < (counts_as k old).sinks k.m.ordered → IsAnswer k old run answer → answer ≡ None → ⊥
answer_there r k old run todo answer between none some root is =
    let keeps : KeepsRoot k old run = subst (IsAnswer k old run) is root in
    elim (some-left ((counts_as k run).sinks k.m.ordered)) [
      | inr lt ↦ some_later r k run todo k.m.ordered between lt none
      | inl z ↦ (let e = keeps z in omega arith)
    ]
