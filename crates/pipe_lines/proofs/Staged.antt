-- A plan as the events of a run see it, by the settings of a layout.
use Rattle.std.proofs.Common.{◌≡◌, ℕ, true, List, [], ◌∷◌, length, Option, Some, None, ap, sym, ◌∙◌, slice_index_or}
use Rattle.std.specs.declared.alloc.Global.{Global}
use Rattle.std.specs.declared.sync.Arc.{Arc}
use Rattle.pipe_plan.specs.Faults.{IsWellFormed}
use Rattle.pipe_events.specs.Stages.{JoinStage, Joined, IsStages, flushes, flushes_by}
use Rattle.pipe_events.specs.PlanStages.{Setting, stage_at, stages_of}
use Rattle.pipe_table.specs.declared.spec.JoinSpec.{JoinSpec}
use Rattle.pipe_driver.specs.Shape.{kind_at, is_sorting}
use Rattle.pipe_driver.proofs.PlanParts.{is_tree}
use Rattle.pipe_driver.proofs.Tests.{and-cases}
use Rattle.pipe_driver.specs.Boards.{IsBoard, may_hold, board_of}
use Rattle.pipe_driver.proofs.Held.{all_held}
use Rattle.pipe_driver.proofs.PlanBoards.{boards}
use Rattle.pipe_driver.proofs.Supplies.{supplied}
use Rattle.pipe_check.specs.Checked.{Checked}
use Rattle.pipe_convert.specs.Joins.{IsSomeSpecOf, spec_or_none}
use Rattle.pipe_convert.specs.Nodes.{IsUnder, plan_in, nodes_in, meaning_in}
use Rattle.pipe_convert.proofs.JoinNodes.{under_sort}
use Rattle.pipe_engine.specs.Journals.{staging_of}
use Rattle.pipe_engine.specs.Noted.{IsStagingOf, IsOwnSource}
use Rattle.pipe_lines.specs.Layouts.{IsLayout, layout_settings}
use Rattle.pipe_lines.specs.Standing.{ask_in}
use Rattle.pipe_lines.specs.declared.layout.Layout.{Layout}
use Rattle.pipe_lines.proofs.Listed.{sorting_begins}

flushing_of : (plan : Checked) (n : ℕ) (o : Option (Arc JoinSpec Global)) → IsSomeSpecOf plan n o → (j : JoinStage) → stage_at (plan_in plan) plan.root n ≡ Joined j → flushes j ≡ flushes_by (spec_or_none o).how (spec_or_none o).swapped
flushing_of plan n None has j is = absurd has
flushing_of plan n (Some spec) has j is = has.flushing j is

module _ {H : Type 0} (plan : Checked) (layout : Layout H) (setting : Setting) (good : IsWellFormed (plan_in plan) plan.root) (ok : IsStages (stages_of (plan_in plan) plan.root setting)) where
  board : IsBoard (board_of (plan_in plan) plan.root setting)
  board = boards (plan_in plan) plan.root setting good ok

  own_source : (n : ℕ) → (meaning_in plan).is_sort n ≡ true → IsOwnSource (staging_of (ask_in plan) setting) (meaning_in plan) n
  own_source n sort =
      let p = plan_in plan in
      let at = board.is_sort n sort in
      let under = under_sort plan n sort in
      let sorting = (and-cases _ (is_sorting (kind_at (nodes_in plan) n)) sort).1 in
      let run = (is_tree p plan.root good).sorts_run n under sorting in
      record {
        held = all_held p plan.root n setting good run (sorting_begins (kind_at (nodes_in plan) n) sorting) ∙ ap (may_hold n) at.is;
        many = (supplied p plan.root n setting good under).sort at.input at.sorted at.is;
      }

  pub staged : (workers : ℕ) → IsLayout plan layout → setting.workers ≡ workers → setting.parts ≡ layout.parts → IsStagingOf (layout_settings plan layout) (meaning_in plan) workers (staging_of (ask_in plan) setting)
  staged workers is workers_are parts_are = record {
    board = board;
    workers_are = workers_are;
    parts = parts_are;
    sorts = own_source;
    flushing = λ n j at. flushing_of plan n (slice_index_or layout.specs.items n None) (is.specs.each n (board.join n (record { join = j; is = at }))) j at;
  }
