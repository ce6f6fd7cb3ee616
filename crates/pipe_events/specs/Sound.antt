-- The stages of a plan are such as the laws of schedules ask.
use Rattle.std.specs.Prelude.{ℕ}
use Rattle.pipe_plan.specs.Plan.{Plan}
use Rattle.pipe_events.specs.Stages.{IsStages}
use Rattle.pipe_events.specs.PlanStages.{Setting, IsSoundPlan, stages_of}

-- Where a plan is sound, its stages are in order
abbrev pub PlansHaveStages : Type 0
PlansHaveStages =
    (plan : Plan) (root : ℕ) (setting : Setting) → IsSoundPlan plan root setting →
    IsStages (stages_of plan root setting)
