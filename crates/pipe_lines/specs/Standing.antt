-- A run that stands for a checked plan.
use Rattle.std.specs.Prelude.{◌≡◌, ℕ, List, [], length, if◌then◌else◌}
use Rattle.pipe_schema.specs.Counts.{Rises}
use Rattle.pipe_schema.specs.Weights.{total}
use Rattle.pipe_ops.specs.declared.context.PExecutionContext.{PExecutionContext}
use Rattle.pipe_events.specs.PlanStages.{Setting, stages_of}
use Rattle.pipe_events.specs.Stages.{IsStages}
use Rattle.pipe_check.specs.Checked.{Checked}
use Rattle.pipe_driver.specs.declared.branch.SinkAt.TheVariants as at
use Rattle.pipe_convert.specs.Converted.{schema_in}
use Rattle.pipe_convert.specs.Nodes.{plan_in, nodes_in, meaning_in}
use Rattle.pipe_driver.specs.Meaning.{Meaning}
use Rattle.pipe_driver.specs.Shape.{sources_of}
use Rattle.pipe_driver.specs.Plans.{Ask}
use Rattle.pipe_driver.specs.declared.sink_counts.SinkCounts.{SinkCounts}
use Rattle.pipe_driver.specs.declared.error.RunError.{RunError}
use Rattle.pipe_driver.specs.declared.error.RunError.TheVariants as error
use Rattle.pipe_engine.specs.Journals.{staging_of}
use Rattle.pipe_engine.specs.Known.{Asked}
use Rattle.pipe_engine.specs.Noted.{AreListed, IsStagingOf}
use Rattle.pipe_engine.specs.Stands.{Settings}
use Rattle.pipe_slots.specs.Sinks.{OrderedBy}
use Rattle.pipe_slots.specs.declared.slots.Slots.{Slots}
use Rattle.pipe_lines.specs.Made.{order_in}
use Rattle.pipe_lines.specs.Running.{StandForBranches, ways_in}
use Rattle.pipe_lines.specs.declared.pipe_line.PipeLine.{PipeLine}

-- the rows of its root are asked for
abbrev pub ask_in : Checked → Ask
ask_in plan = record { plan = plan_in plan; root = plan.root }

-- and the settings by which its pipelines are made
abbrev pub asked_in : {H : Type 0} → Checked → Settings H → Asked H
asked_in plan settings = record { ask = ask_in plan; settings = settings }

-- pipelines stand for the branches of a plan, in order, with what is lent to their run: for the
-- settings of which they were made, of which the root's sink has the schema of the root, and its rows
-- their order, where it is a sort
pub record IsRunFor {H : Type 0} (hash_of : H → List ℕ → ℕ) (plan : Checked)
    (context : PExecutionContext) (pipelines : List (PipeLine H)) (slots : Slots H)
    (counts : SinkCounts) : Type 0 where
  pub settings : Settings H
  pub stand : StandForBranches hash_of (asked_in plan settings) context pipelines slots counts
  pub root : settings.setting_at at.Ordered ≡ OrderedBy (schema_in plan plan.root)
  pub order : settings.order ≡ order_in plan
  -- the pipelines take what the events of a run take, by as many workers and with as many partitions
  pub listed : (setting : Setting) →
      AreListed (staging_of (ask_in plan) setting) (meaning_in plan) [] (ways_in pipelines)
  pub staged : (setting : Setting) → IsStages (stages_of (plan_in plan) plan.root setting) →
      setting.workers ≡ context.workers → setting.parts ≡ settings.parts →
      IsStagingOf settings (meaning_in plan) context.workers (staging_of (ask_in plan) setting)

-- how many rows a node has, none where it is a sort, and how many the sources under a plan's root have
-- together: its scans, and unions of scans alone, which have their scans' rows
abbrev pub scanned_at : Meaning → ℕ → ℕ
scanned_at m n = if m.is_sort n then 0 else length (m.rows n)

abbrev pub rows_scanned : Checked → ℕ
rows_scanned plan = total (scanned_at (meaning_in plan)) (sources_of (nodes_in plan) plan.root)

-- ---- where a run ends without rows

abbrev pub IsMemory : RunError → Type 0
IsMemory e = e ≡ error.Memory

-- a count hasn't risen
abbrev pub Stays : ℕ → ℕ → Type 0
Stays old new = Rises old new → ⊥
