-- A plan within its limits ends with rows, by a stop, or for want of memory.
use Rattle.std.proofs.Common.{◌≡◌, ℕ, refl, arith, inl, inr}
use Rattle.std.specs.Prelude.{Result, Ok, Err, IfErr}
use Rattle.pipe_schema.specs.Counts.{Counts}
use Rattle.pipe_plan.specs.Plan.{Plan}
use Rattle.pipe_driver.specs.Within.{AllWithin, RunEndsWith}
use Rattle.pipe_driver.specs.declared.error.RunError.{RunError}
use Rattle.pipe_driver.specs.declared.error.RunError.TheVariants as error
use Rattle.pipe_engine.specs.Asked.{stop_of, stops}
use Rattle.pipe_lines.specs.Standing.{IsMemory, Stays}

-- a yes is a rise
one_rises : (old new : ℕ) → Counts 1 old new → Stays old new → ⊥
one_rises old new (inl h) stays = stays (inl (omega (arith, h)))
one_rises old new (inr h) stays = stays (inr h)

only_memory : (plan : Plan) (root limit old new : ℕ) (e : RunError) → RunEndsWith limit plan root e → Counts (stop_of e) old new → AllWithin limit plan root → Stays old new → IsMemory e
only_memory plan root limit old new (error.TooMany n) ends said within stays = absurd (let few = within n ends.under in let many = ends.above in omega (arith, few, many))
only_memory plan root limit old new error.Stopped ends said within stays = absurd (one_rises old new said stays)
only_memory plan root limit old new error.Memory ends said within stays = refl

pub only_memory_of : {T : Type 0} (plan : Plan) (root limit old new : ℕ) (r : Result T RunError) → IfErr r (RunEndsWith limit plan root) → Counts (stops r) old new → AllWithin limit plan root → Stays old new → IfErr r IsMemory
only_memory_of plan root limit old new (Ok x) ends said within stays = tt
only_memory_of plan root limit old new (Err e) ends said within stays = only_memory plan root limit old new e ends said within stays
