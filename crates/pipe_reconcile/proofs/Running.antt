-- The run of the join of a reconciliation.
use Rattle.std.proofs.Common.{◌≡◌, ℕ, ◌+◌, ◌≤◌, ◌<◌, Bool, true, false, List, Result, Ok, Err, inl, inr, length, refl, ap, sym, subst, ◌∙◌, arith}
use Rattle.std.specs.Prelude.{IfErr, IfOk, OnOk}
use Rattle.std.specs.Result.{IsErrAnd}
use Rattle.pipe_frame.specs.Frame.{Table}
use Rattle.pipe_schema.specs.Rows.{Row, Same}
use Rattle.pipe_schema.specs.declared.field.Field.{Field}
use Rattle.pipe_driver.specs.Within.{AllWithin}
use Rattle.pipe_exec.specs.Evaluated.{PlanEndsWith}
use Rattle.pipe_exec.specs.Runs.{RunCauses}
use Rattle.pipe_exec.specs.Sound.{IsSoundRun}
use Rattle.pipe_exec.proofs.Complete.{sound_refused}
use Rattle.pipe_plan.specs.Config.{IsConfig}
use Rattle.pipe_plan.specs.Faults.{IsWellFormed}
use Rattle.pipe_plan.specs.Plan.{Plan}
use Rattle.pipe_plan.specs.PlanRows.{rows_of}
use Rattle.pipe_plan.specs.Schemas.{schema_of}
use Rattle.pipe_plan.specs.declared.config.PipeConfig.{PipeConfig}
use Rattle.pipe_plan.specs.declared.error.PipeError.{PipeError}
use Rattle.pipe_plan.specs.declared.error.PipeError.TheVariants as error
use Rattle.pipe_recon.specs.Codes.{Code}
use Rattle.pipe_recon.specs.JoinPlan.{join_fields, join_plan, join_root}
use Rattle.pipe_recon.proofs.JoinRows.{fields_are}

-- a sound job isn't refused
pub sound_ends : (plan : Plan) (root : ℕ) (config : PipeConfig) (e : PipeError) → IsSoundRun plan root config → RunCauses plan root config e → PlanEndsWith config.row_limit plan root e
sound_ends plan root config e sound (inl (inl memory)) = rw memory tt
sound_ends plan root config e sound (inl (inr refused)) = absurd (sound_refused plan root config e sound refused)
sound_ends plan root config e sound (inr fails) = fails.ends

-- ---- a plan that equals the join's

pub join_sound : (plan other : Plan) (config : PipeConfig) → plan ≡ other → IsWellFormed other join_root → IsConfig config → IsSoundRun plan join_root config
join_sound plan other config same formed numbers = subst (λ (p : Plan). IsSoundRun p join_root config) (sym same) (record { numbers = numbers; formed = formed })

pub join_ends : (limit : ℕ) (plan other : Plan) (e : PipeError) → PlanEndsWith limit plan join_root e → plan ≡ other → PlanEndsWith limit other join_root e
join_ends limit plan other e h same = subst (λ (p : Plan). PlanEndsWith limit p join_root e) same h

pub join_within : (limit : ℕ) (plan other : Plan) → AllWithin limit plan join_root → plan ≡ other → AllWithin limit other join_root
join_within limit plan other h same = subst (λ (p : Plan). AllWithin limit p join_root) same h

pub join_schema : (plan : Plan) (lefts rights : List Code) (fields : List Field) → fields ≡ schema_of plan join_root → plan ≡ join_plan lefts rights → fields ≡ join_fields
join_schema plan lefts rights fields h same = h ∙ ap (λ (p : Plan). schema_of p join_root) same ∙ fields_are lefts rights

pub join_rows : (plan other : Plan) (rows : List Row) → Same rows (rows_of plan join_root) → plan ≡ other → Same rows (rows_of other join_root)
join_rows plan other rows h same = subst (λ (p : Plan). Same rows (rows_of p join_root)) same h

-- no memory for the plan
pub memory_ends : {T : Type 0} (limit : ℕ) (plan : Plan) (r : Result T PipeError) → IsErrAnd r (λ e. e ≡ error.Memory) → IfErr r (PlanEndsWith limit plan join_root)
memory_ends limit plan (Ok x) k = absurd k
memory_ends limit plan (Err e) k = rw k tt

-- ---- what the run tells, of the join's plan

pub schema_told : (r : Result Table PipeError) (plan : Plan) (lefts rights : List Code) → IfOk r (λ frame. frame.schema ≡ schema_of plan join_root) → plan ≡ join_plan lefts rights → IfOk r (λ frame. frame.schema ≡ join_fields)
schema_told (Ok frame) plan lefts rights h same = join_schema plan lefts rights frame.schema h same
schema_told (Err e) plan lefts rights h same = tt

pub within_told : (r : Result Table PipeError) (limit : ℕ) (plan : Plan) (lefts rights : List Code) → OnOk r (AllWithin limit plan join_root) → plan ≡ join_plan lefts rights → OnOk r (AllWithin limit (join_plan lefts rights) join_root)
within_told (Ok frame) limit plan lefts rights h same = join_within limit plan (join_plan lefts rights) h same
within_told (Err e) limit plan lefts rights h same = tt
