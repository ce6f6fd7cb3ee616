-- A good job within its limits ends with rows, by a stop, or for want of memory.
use Rattle.std.proofs.Common.{◌≡◌, ℕ, true, None, inl, inr, length, refl, arith, sym, ◌∙◌}
use Rattle.std.specs.Prelude.{nat_le}
use Rattle.std.proofs.lemmas.Option.{none-some}
use Rattle.std.proofs.lemmas.Bool.{le-leb}
use Rattle.pipe_check.specs.Checked.{check_fault}
use Rattle.pipe_driver.specs.Within.{AllWithin}
use Rattle.pipe_exec.specs.Evaluated.{stop_of}
use Rattle.pipe_exec.specs.Runs.{RunFails, IsMemory, RunCauses, Stays}
use Rattle.pipe_exec.specs.Sound.{IsRefusedRun, IsSoundRun}
use Rattle.pipe_schema.specs.Counts.{Counts}
use Rattle.pipe_plan.specs.Faults.{IsWellFormed, most_nodes}
use Rattle.pipe_plan.specs.Plan.{Plan}
use Rattle.pipe_plan.specs.declared.config.PipeConfig.{PipeConfig}
use Rattle.pipe_plan.specs.declared.error.PipeError.{PipeError}
use Rattle.pipe_plan.specs.declared.error.PipeError.TheVariants as error

check_none : (plan : Plan) (root : ℕ) → IsWellFormed plan root → check_fault plan root ≡ None
check_none plan root good = let few : nat_le (length plan.nodes) most_nodes ≡ true = le-leb (length plan.nodes) most_nodes good.few in rw few good.faultless

-- a job that may be run isn't refused
pub sound_refused : (plan : Plan) (root : ℕ) (config : PipeConfig) (e : PipeError) → IsSoundRun plan root config → IsRefusedRun plan root config e → ⊥
sound_refused plan root config e sound (inl bad) = bad.bad sound.numbers
sound_refused plan root config e sound (inr fault) = let none = check_none plan root sound.formed in none-some e (sym none ∙ fault.told)

-- a yes is a rise
one_rises : (old new : ℕ) → Counts 1 old new → Stays old new → ⊥
one_rises old new (inl h) stays = stays (inl (omega (arith, h)))
one_rises old new (inr h) stays = stays (inr h)

ended_memory : (plan : Plan) (root : ℕ) (config : PipeConfig) (old new : ℕ) (e : PipeError) → AllWithin config.row_limit plan root → RunFails plan root config e → Counts (stop_of e) old new → Stays old new → IsMemory e
ended_memory plan root config old new (error.BadNode n) within f c s = absurd f.ends
ended_memory plan root config old new error.BadConfig within f c s = absurd f.ends
ended_memory plan root config old new (error.UnknownColumn n name) within f c s = absurd f.ends
ended_memory plan root config old new (error.DuplicateName n name) within f c s = absurd f.ends
ended_memory plan root config old new (error.TypeMismatch n) within f c s = absurd f.ends
ended_memory plan root config old new (error.BadJoin n) within f c s = absurd f.ends
ended_memory plan root config old new (error.BadSort n) within f c s = absurd f.ends
ended_memory plan root config old new (error.TooMany n) within f c s = absurd (let few = within n f.ends.under in let many = f.ends.above in omega (arith, few, many))
ended_memory plan root config old new error.Stopped within f c s = absurd (one_rises old new c s)
ended_memory plan root config old new error.Memory within f c s = refl

pub only_memory : (plan : Plan) (root : ℕ) (config : PipeConfig) (old new : ℕ) (e : PipeError) → RunCauses plan root config e → Counts (stop_of e) old new → IsSoundRun plan root config → AllWithin config.row_limit plan root → Stays old new → IsMemory e
only_memory plan root config old new e (inl (inl memory)) c sound within s = memory
only_memory plan root config old new e (inl (inr refused)) c sound within s = absurd (sound_refused plan root config e sound refused)
only_memory plan root config old new e (inr f) c sound within s = ended_memory plan root config old new e within f c s
