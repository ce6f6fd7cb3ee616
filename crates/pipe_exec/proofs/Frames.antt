-- Why pipelines weren't run to their end, and why a plan has no frame.
use Rattle.std.proofs.Common.{◌≡◌, ℕ, refl, sym, subst, ap, ◌∙◌, Result, Err}
use Rattle.pipe_schema.specs.Counts.{Counts}
use Rattle.pipe_plan.specs.Plan.{Plan}
use Rattle.pipe_plan.specs.declared.error.PipeError.{PipeError}
use Rattle.pipe_plan.specs.declared.error.PipeError.TheVariants as error
use Rattle.pipe_driver.specs.Within as driver
use Rattle.pipe_driver.specs.declared.error.RunError.{RunError}
use Rattle.pipe_driver.specs.declared.error.RunError.TheVariants as run_error
use Rattle.pipe_engine.specs.Asked as engine
use Rattle.pipe_exec.specs.Evaluated.{PlanEndsWith, error_of, stop_of}

ends_as : (limit : ℕ) (plan : Plan) (root : ℕ) (e : RunError) → driver.RunEndsWith limit plan root e → PlanEndsWith limit plan root (error_of e)
ends_as limit plan root (run_error.TooMany n) h = h
ends_as limit plan root run_error.Stopped h = tt
ends_as limit plan root run_error.Memory h = tt

pub ends : (limit : ℕ) (plan : Plan) (root : ℕ) (e : RunError) (p : PipeError) → p ≡ error_of e → driver.RunEndsWith limit plan root e → PlanEndsWith limit plan root p
ends limit plan root e p is h = subst (PlanEndsWith limit plan root) (sym is) (ends_as limit plan root e h)

stop_as : (e : RunError) → engine.stop_of e ≡ stop_of (error_of e)
stop_as (run_error.TooMany n) = refl
stop_as run_error.Stopped = refl
stop_as run_error.Memory = refl

pub counted_as : (e : RunError) (p : PipeError) (old new : ℕ) → p ≡ error_of e → Counts (engine.stop_of e) old new → Counts (stop_of p) old new
counted_as e p old new is h = subst (λ k. Counts k old new) (stop_as e ∙ sym (ap stop_of is)) h

pub last_said : {T U A : Type 0} (e : RunError) (p : PipeError) → p ≡ error_of e → (◌≡◌ {A = Result T RunError} (Err e) (Err run_error.Stopped) → A) → ◌≡◌ {A = Result U PipeError} (Err p) (Err error.Stopped) → A
last_said (run_error.TooMany n) p is said same = cc
last_said run_error.Stopped p is said same = said refl
last_said run_error.Memory p is said same = cc
