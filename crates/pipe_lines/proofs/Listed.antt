-- What the pipelines of a plan take, as the events of a run see it.
use Rattle.std.proofs.Common.{◌≡◌, ℕ, ◌+◌, ◌<◌, ◌==◌, Bool, true, false, List, [], ◌∷◌, length, map, Option, Some, None, refl, ap, sym, subst, ◌∙◌, arith}
use Rattle.std.specs.List.{flat_map, AllByRecursion}
use Rattle.pipe_frame.specs.Frame.{Table}
use Rattle.pipe_schema.specs.declared.field.Field.{Field}
use Rattle.pipe_ops.specs.Batches.{Left}
use Rattle.pipe_plan.specs.Faults.{IsWellFormed}
use Rattle.pipe_plan.specs.Node.{Node}
use Rattle.pipe_plan.specs.Node as node
use Rattle.pipe_plan.specs.Schemas.{schemas_to}
use Rattle.pipe_plan.specs.Under.{node_at}
use Rattle.pipe_events.specs.Stages.{Stages, Scan}
use Rattle.pipe_events.specs.PlanStages.{Setting, stage_of, stage_at, stages_of}
use Rattle.pipe_events.specs.Runs.{supply, supply_of}
use Rattle.pipe_source.specs.Supplies.{left_of}
use Rattle.pipe_source.specs.declared.phys_source.PhysSource.{PhysSource}
use Rattle.pipe_driver.specs.declared.branch.Branch.{Branch}
use Rattle.pipe_driver.specs.Legs as plan_legs
use Rattle.pipe_driver.specs.Legs.{Way, sink_node}
use Rattle.pipe_driver.specs.Shape.{Kind, Begins, Each, Unites, Joins, Sorts, kind_of, kind_at, is_sorting}
use Rattle.pipe_driver.specs.Ways.{one, occurs, AreLegs, IsWay, starts_from, starts_of}
use Rattle.pipe_driver.proofs.PlanParts.{stage_is}
use Rattle.pipe_driver.proofs.Tests.{and-cases, eq-true, occurs-append}
use Rattle.pipe_driver.specs.declared.pipe_line.Leg.{Leg}
use Rattle.pipe_driver.specs.Lines.{leg_as, way_as, ways_as}
use Rattle.pipe_driver.specs.Boards.{held_at, may_hold, begins_leg, board_of}
use Rattle.pipe_driver.proofs.Held.{all_held}
use Rattle.pipe_run.specs.NotedRounds.{AreSupplied}
use Rattle.pipe_convert.specs.Converted.{IsSourceOf}
use Rattle.pipe_check.specs.Checked.{Checked}
use Rattle.pipe_convert.specs.Nodes.{IsUnder, plan_in, nodes_in, meaning_in}
use Rattle.pipe_convert.specs.Sources.{AreScansOf, IsSourceAt, taken_at}
use Rattle.pipe_convert.proofs.JoinNodes.{under_sort}
use Rattle.pipe_engine.specs.Drives.{Line}
use Rattle.pipe_engine.specs.Journals.{staging_of}
use Rattle.pipe_engine.specs.Noted.{Staging, board_in, AreTold, IsTold, IsSupplied, IsListed}
use Rattle.pipe_engine.specs.declared.part.Part.{Part}
use Rattle.pipe_lines.specs.Lines.{AreLegsMade, AreLinesOf, HasSourceOf, IsLineOf}
use Rattle.pipe_lines.specs.Made.{Specs, Sinks}
use Rattle.pipe_lines.specs.Standing.{ask_in}

-- the nodes that are taken, by the kind of node
by_node : (nodes : List Node) (frames : List Table) (schema : ℕ → List Field) (n : ℕ) (x : Node) → begins_leg (kind_of nodes x) ≡ true → taken_at x n ≡ may_hold n (stage_of frames schema x)
by_node nodes frames schema n (node.DataFrameScan frame columns) h = refl
by_node nodes frames schema n (node.Filter i predicate) h = cc
by_node nodes frames schema n (node.SimpleProjection i columns) h = cc
by_node nodes frames schema n (node.Select i exprs) h = cc
by_node nodes frames schema n (node.HStack i exprs) h = cc
by_node nodes frames schema n (node.MapFunction i function) h = cc
by_node nodes frames schema n (node.Union inputs) h = refl
by_node nodes frames schema n (node.Join l r left_on right_on options) h = cc
by_node nodes frames schema n (node.Sort i by options) h = refl

pub sorting_begins : (k : Kind) → is_sorting k ≡ true → begins_leg k ≡ true
sorting_begins Begins h = cc
sorting_begins (Each i) h = cc
sorting_begins (Unites is) h = cc
sorting_begins (Joins b p) h = cc
sorting_begins (Sorts i) h = refl

starts_on : (start : ℕ) (legs : List plan_legs.Leg) → (legs ≡ [] → ⊥) → 0 < occurs start (starts_from start legs)
starts_on start [] some = absurd (some refl)
starts_on start (leg ∷ legs) some = let e = ap one (eq-true start start refl) in omega (arith, e)

module _ (plan : Checked) (setting : Setting) (good : IsWellFormed (plan_in plan) plan.root) where
  abbrev v : Staging
  v = staging_of (ask_in plan) setting

  abbrev stages : Stages
  stages = stages_of (plan_in plan) plan.root setting

  -- where a leg begins
  pub held_there : (n : ℕ) → IsUnder plan n → (meaning_in plan).is_run n ≡ true → begins_leg (kind_at (nodes_in plan) n) ≡ true → taken_at (node_at (nodes_in plan) n) n ≡ held_at (board_in (meaning_in plan) v) n
  held_there n under run begins =
      let p = plan_in plan in
      by_node p.nodes p.frames (schemas_to p n) n (node_at p.nodes n) begins
      ∙ sym (ap (may_hold n) (stage_is p plan.root n under))
      ∙ sym (all_held p plan.root n setting good run begins)

  -- rows of scans, frame by frame
  scans_supplied : (ns : List ℕ) (lefts : List Left) → AreScansOf plan ns lefts → AreSupplied stages ns lefts
  scans_supplied [] [] h = tt
  scans_supplied [] (l ∷ ls) h = absurd h
  scans_supplied (n ∷ ns) [] h = absurd h
  scans_supplied (n ∷ ns) (l ∷ ls) h = (h.0.whole, sym (ap (supply_of stages n) h.0.rows), scans_supplied ns ls h.1)

  pub source_supplied : (n : ℕ) (o : Option PhysSource) → IsUnder plan n → (meaning_in plan).is_run n ≡ true → begins_leg (kind_at (nodes_in plan) n) ≡ true → HasSourceOf plan n o → IsSupplied v (meaning_in plan) n o
  source_supplied n None under run begins has = has
  source_supplied n (Some source) under run begins has =
      let S : List ℕ → Type 0 = λ ns. AreSupplied stages ns (left_of source) in
      subst S (held_there n under run begins) (scans_supplied (taken_at (node_at (nodes_in plan) n) n) (left_of source) has.scans)

  sort_begins : (n : ℕ) → (meaning_in plan).is_sort n ≡ true → begins_leg (kind_at (nodes_in plan) n) ≡ true
  sort_begins n sort = sorting_begins (kind_at (nodes_in plan) n) (and-cases _ (is_sorting (kind_at (nodes_in plan) n)) sort).1

  -- each leg is told what it takes
  module _ {H : Type 0} (specs : Specs) (sinks : Sinks H) (hasher : H) (parts : ℕ) where
    abbrev size : ℕ
    size = length (nodes_in plan)

    pub legs_told : (start : ℕ) (legs : List (Leg (Part H))) → AreLegsMade plan specs sinks hasher parts start legs → AreLegs (meaning_in plan) start (map (leg_as size) legs) → IsUnder plan start → begins_leg (kind_at (nodes_in plan) start) ≡ true
        → ((n : ℕ) → 0 < occurs n (starts_from start (map (leg_as size) legs)) → (meaning_in plan).is_run n ≡ true) → AreTold v (meaning_in plan) start legs
    legs_told start [] made are under begins runs = tt
    legs_told start (leg ∷ []) made are under begins runs =
        let here : one (start == start) ≡ 1 = ap one (eq-true start start refl) in
        (made.0.scans ∙ held_there start under (runs start (omega arith)) begins, tt)
    legs_told start (leg ∷ next ∷ legs) made are under begins runs =
        let here : one (start == start) ≡ 1 = ap one (eq-true start start refl) in
        let sink = sink_node size leg.at in (
          made.0.scans ∙ held_there start under (runs start (omega arith)) begins,
          legs_told sink (next ∷ legs) made.1 are.1 (under_sort plan sink are.0.on) (sort_begins sink are.0.on) (λ n some. runs n (omega arith)),
        )

    pub line_listed : (branch : Branch) (line : Line H) → IsLineOf plan specs sinks hasher parts branch line → IsWay (meaning_in plan) (way_as size line) → IsUnder plan line.start → begins_leg (kind_at (nodes_in plan) line.start) ≡ true
        → ((n : ℕ) → 0 < occurs n (starts_of (way_as size line)) → (meaning_in plan).is_run n ≡ true) → (meaning_in plan).is_run line.start ≡ true → IsListed v (meaning_in plan) line
    line_listed branch line is way under begins runs run = record {
      told = legs_told line.start line.legs.items is.legs way.legs under begins runs;
      supplied = source_supplied line.start line.source under run begins is.source;
    }

    -- pipelines that stand for branches which begin at sources that are run
    pub lines_listed : (bs : List Branch) (lines : List (Line H)) → AreLinesOf plan specs sinks hasher parts bs lines → AllByRecursion (IsWay (meaning_in plan)) (ways_as size lines)
        → ((n : ℕ) → 0 < occurs n (flat_map starts_of (ways_as size lines)) → (meaning_in plan).is_run n ≡ true) → ((n : ℕ) → 0 < occurs n (flat_map starts_of (ways_as size lines)) → begins_leg (kind_at (nodes_in plan) n) ≡ true)
        → ((n : ℕ) → (meaning_in plan).is_run n ≡ true → IsUnder plan n) → AllByRecursion (IsListed v (meaning_in plan)) lines
    lines_listed [] [] are ways runs begin run_under = tt
    lines_listed [] (line ∷ lines) are ways runs begin run_under = absurd are
    lines_listed (b ∷ bs) [] are ways runs begin run_under = absurd are
    lines_listed (b ∷ bs) (line ∷ lines) are ways runs begin run_under =
        let way = way_as size line in
        let some = starts_on way.start way.legs ways.0.some in
        let here : 0 < occurs line.start (flat_map starts_of (ways_as size (line ∷ lines))) = (let a = occurs-append line.start (starts_of way) (flat_map starts_of (ways_as size lines)) in omega (arith, a, some)) in
        let run = runs line.start here in (
          line_listed b line are.0 ways.0 (run_under line.start run) (begin line.start here) (λ n on. runs n (let a = occurs-append n (starts_of way) (flat_map starts_of (ways_as size lines)) in omega (arith, a, on))) run,
          lines_listed bs lines are.1 ways.1
              (λ n on. runs n (let a = occurs-append n (starts_of way) (flat_map starts_of (ways_as size lines)) in omega (arith, a, on)))
              (λ n on. begin n (let a = occurs-append n (starts_of way) (flat_map starts_of (ways_as size lines)) in omega (arith, a, on)))
              run_under,
        )
