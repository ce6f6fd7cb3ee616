-- Why the run of a sound plan ends.
use Rattle.std.proofs.Common.{◌≡◌, ℕ, Result, Ok, Err, length, inl, inr, refl, ap, subst, ◌∙◌}
use Rattle.std.specs.Prelude.{IfErr}
use Rattle.std.specs.Result.{IsErrAnd}
use Rattle.pipe_exec.specs.Evaluated.{PlanEndsWith}
use Rattle.pipe_exec.specs.Runs.{RunCauses}
use Rattle.pipe_exec.specs.Sound.{IsSoundRun}
use Rattle.pipe_exec.proofs.Complete.{sound_refused}
use Rattle.pipe_plan.specs.Plan.{Plan}
use Rattle.pipe_plan.specs.PlanRows.{rows_of}
use Rattle.pipe_plan.specs.declared.config.PipeConfig.{PipeConfig}
use Rattle.pipe_plan.specs.declared.error.PipeError.{PipeError}
use Rattle.pipe_plan.specs.declared.error.PipeError.TheVariants as error
use Rattle.pipe_selftest.specs.Ends.{Ends, IsJoin, IsWithin}
use Rattle.pipe_selftest.specs.Joins.{config, inner_root}

-- it isn't refused
pub sound_ends : (plan : Plan) (root : ℕ) (config : PipeConfig) (e : PipeError) → IsSoundRun plan root config → RunCauses plan root config e → PlanEndsWith config.row_limit plan root e
sound_ends plan root config e sound (inl (inl memory)) = rw memory tt
sound_ends plan root config e sound (inl (inr refused)) = absurd (sound_refused plan root config e sound refused)
sound_ends plan root config e sound (inr fails) = fails.ends

-- ---- the three joins of a self-test

pub ends_at : (plan : Plan) (root : ℕ) (e : PipeError) → IsJoin root → PlanEndsWith config.row_limit plan root e → Ends plan e
ends_at plan root e join ends = record { root = root; is_join = join; ends = ends }

-- what is said of a plan is said of one that equals it
pub ends_of : (plan other : Plan) (e : PipeError) → Ends plan e → plan ≡ other → Ends other e
ends_of plan other e h same = subst (λ (p : Plan). Ends p e) same h

pub within_of : (plan other : Plan) → IsWithin plan → plan ≡ other → IsWithin other
within_of plan other h same = subst (λ (p : Plan). IsWithin p) same h

pub count_of : (plan other : Plan) (root n : ℕ) → n ≡ length (rows_of plan root) → plan ≡ other → n ≡ length (rows_of other root)
count_of plan other root n h same = h ∙ ap (λ (p : Plan). length (rows_of p root)) same

-- where there was no memory for the plan
pub memory_ends : {T : Type 0} (plan : Plan) (r : Result T PipeError) → IsErrAnd r (λ e. e ≡ error.Memory) → IfErr r (Ends plan)
memory_ends plan (Ok x) k = absurd k
memory_ends plan (Err e) k = rw k (record { root = inner_root; is_join = inl refl; ends = tt })
