-- What is known of pipelines is known of their legs.
use Rattle.std.proofs.Common.{◌≡◌, ◌≤◌, ℕ, List, [], sym, ap, subst, arith}
use Rattle.pipe_ops.specs.declared.context.PExecutionContext.{PExecutionContext}
use Rattle.pipe_driver.specs.Meaning.{Meaning}
use Rattle.pipe_engine.specs.Drives.{Line}
use Rattle.pipe_engine.specs.Noted.{AreListed, IsStagingOf, Staging}
use Rattle.pipe_engine.specs.Paced.{rows_due_of}
use Rattle.pipe_engine.specs.Stands.{Settings}

module _ {H : Type 0} where
  pub listed_as : (v : Staging) (m : Meaning) (lines ways : List (Line H)) → lines ≡ ways → AreListed v m [] ways → AreListed v m [] lines
  listed_as v m lines ways are = let L : List (Line H) → Type 0 = AreListed v m [] in subst L (sym are)

  pub staged_as : (x : Settings H) (m : Meaning) (v : Staging) (was now : PExecutionContext) → was ≡ now → IsStagingOf x m now.workers v → IsStagingOf x m was.workers v
  staged_as x m v was now are = let S : PExecutionContext → Type 0 = λ context. IsStagingOf x m context.workers v in subst S (sym are)

  pub due_as : (lines ways : List (Line H)) → lines ≡ ways → rows_due_of ways ≤ rows_due_of lines
  due_as lines ways are = let due = ap rows_due_of are in omega (arith, due)
