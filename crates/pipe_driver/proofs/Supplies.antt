-- A source has as many positions as its node has rows.
use Rattle.std.proofs.Common.{◌≡◌, ℕ, true, List, [], length, sym, ap, ◌∙◌}
use Rattle.pipe_schema.specs.Rows.{Row}
use Rattle.pipe_plan.specs.Plan.{Plan}
use Rattle.pipe_plan.specs.Under.{is_under}
use Rattle.pipe_plan.specs.PlanRows.{rows_of}
use Rattle.pipe_plan.specs.Faults.{IsWellFormed}
use Rattle.pipe_events.specs.Stages.{Stages, Scan, Sort, rows, rows_at, rows_to, stage_rows}
use Rattle.pipe_events.specs.PlanStages.{Setting, stage_at, stages_of}
use Rattle.pipe_events.proofs.WalkLemmas.{walk_is}
use Rattle.pipe_events.proofs.PlanLemmas.{stages_have_rows}
use Rattle.pipe_events.specs.Runs.{supply, supply_of}
use Rattle.pipe_driver.proofs.PlanParts.{there}
use Rattle.pipe_driver.specs.JournalLaws.{SuppliesAreRows}

module _ (plan : Plan) (root n : ℕ) (setting : Setting) (good : IsWellFormed plan root) (under : is_under plan.nodes root n ≡ true) where
  abbrev stages : Stages
  stages = stages_of plan root setting

  rows_are : rows stages n ≡ rows_of plan n
  rows_are = stages_have_rows plan root setting n under

  scan_rows_are : (list : List Row) → stage_at plan root n ≡ Scan list → rows stages n ≡ list
  scan_rows_are list is = walk_is [] (rows_at stages) (length plan.nodes) n (there plan root n good under) ∙ ap (stage_rows (rows_to stages n)) is

  of_scan : (list : List Row) → stage_at plan root n ≡ Scan list → supply stages n ≡ length (rows_of plan n)
  of_scan list is = ap (supply_of stages n) is ∙ ap length (sym (scan_rows_are list is) ∙ rows_are)

  of_sort : (input : ℕ) (sorted : List Row → List Row) → stage_at plan root n ≡ Sort input sorted → supply stages n ≡ length (rows_of plan n)
  of_sort input sorted is = ap (supply_of stages n) is ∙ ap length rows_are

pub supplied : SuppliesAreRows
supplied plan root n setting good under = record { scan = of_scan plan root n setting good under; sort = of_sort plan root n setting good under }
