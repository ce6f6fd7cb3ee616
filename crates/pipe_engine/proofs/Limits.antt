-- Where all branches have run, no node has more rows than the limit.
use Rattle.std.proofs.Common.{◌≡◌, ℕ, ◌<◌, ◌≤◌, List, [], length, true, ap, subst}
use Rattle.std.specs.Prelude.{Result, Ok, Err, OnOk}
use Rattle.pipe_ops.specs.declared.context.PExecutionContext.{PExecutionContext}
use Rattle.pipe_plan.specs.Faults.{IsWellFormed}
use Rattle.pipe_plan.specs.Plan.{Plan}
use Rattle.pipe_plan.specs.PlanRows.{rows_of}
use Rattle.pipe_driver.specs.Legs.{Way}
use Rattle.pipe_driver.specs.Meaning.{meaning_of}
use Rattle.pipe_driver.specs.Lines.{ways_as, counts_as}
use Rattle.pipe_driver.specs.Runs.{Between}
use Rattle.pipe_driver.specs.State.{IsBetween}
use Rattle.pipe_driver.specs.Within.{AllWithin}
use Rattle.pipe_driver.proofs.Reached.{all_there, all_within, run_low}
use Rattle.pipe_engine.specs.Drives.{Line, LineRun, RunsWithin}
use Rattle.pipe_engine.specs.Known.{Known, words_of}
use Rattle.pipe_engine.proofs.Counted.{node_within}

module _ {H : Type 0} (hash_of : H → List ℕ → ℕ) where
  -- all branches have run, and none waits
  pub runs_within : (k : Known H) (run : LineRun H) (left : List (Line H)) (context : PExecutionContext) → Between (words_of hash_of k) k.task run left → left ≡ [] → run.parked.items ≡ [] → run.runner.context ≡ context → RunsWithin context.row_limit k
  runs_within k run left context is none parked same n run_n low =
      let m = k.task.m in
      let c = counts_as k.task run in
      let P : List Way → Type 0 = λ ps. IsBetween m is.w c ps (ways_as m.ordered left) in
      let T : List Way → Type 0 = λ ps. IsBetween m is.w c [] ps in
      let over : IsBetween m is.w c [] [] = subst T (ap (ways_as m.ordered) none) (subst P (ap (ways_as m.ordered) parked) is.between) in
      let L : PExecutionContext → Type 0 = λ z. length (m.rows n) ≤ z.row_limit in
      subst L same (node_within hash_of k.settings run.runner m is.w n is.fits is.idle (all_there m is.w c over n run_n) low)

-- so of a plan for whose branches pipelines stand
pub keeps_limit : (limit : ℕ) (plan : Plan) (root : ℕ) → IsWellFormed plan root → ((n : ℕ) → (meaning_of plan root).is_run n ≡ true → n < length plan.nodes → length (rows_of plan n) ≤ limit) → AllWithin limit plan root
keeps_limit limit plan root well within = all_within plan root limit well (λ n run_n. within n run_n (run_low plan root n well run_n))

-- what is so where all went well
pub on_ok : {T E A B : Type 0} (r : Result T E) → (A → B) → OnOk r A → OnOk r B
on_ok (Ok x) f h = f h
on_ok (Err e) f h = tt
