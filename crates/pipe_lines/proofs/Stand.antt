-- The pipelines of a plan stand for its branches.
use Rattle.std.proofs.Common.{◌≡◌, ℕ, ◌+◌, ◌<◌, ◌==◌, ◌≤◌, ◌^◌, true, List, [], ◌∷◌, length, Option, Some, None, refl, ap, sym, subst, ◌∙◌, arith, slice_index_or}
use Rattle.std.specs.List.{flat_map, AllByRecursion}
use Rattle.pipe_schema.specs.Rows.{Row}
use Rattle.pipe_schema.proofs.Weights.{SameBag}
use Rattle.pipe_schema.specs.declared.field.Field.{Field}
use Rattle.pipe_ops.specs.Batches.{Left}
use Rattle.pipe_ops.specs.declared.context.PExecutionContext.{PExecutionContext}
use Rattle.pipe_plan.specs.Faults.{IsWellFormed}
use Rattle.pipe_rows.specs.Partition.{IsPartitionCount}
use Rattle.pipe_source.specs.Supplies.{left_of}
use Rattle.pipe_source.specs.declared.phys_source.PhysSource.{PhysSource}
use Rattle.pipe_driver.specs.Branches.{branches}
use Rattle.pipe_driver.specs.declared.branch.Branch.{Branch}
use Rattle.pipe_driver.specs.Legs as plan_legs
use Rattle.pipe_driver.specs.Legs.{Way, sink_node, ways_of}
use Rattle.pipe_driver.specs.Ways.{one, occurs, starts_from, starts_of, IsWay}
use Rattle.pipe_driver.specs.Shape.{kind_at}
use Rattle.pipe_driver.proofs.PlanParts.{is_tree}
use Rattle.pipe_driver.proofs.Tests.{eq-true, occurs-append}
use Rattle.pipe_driver.proofs.Runnable.{can_run}
use Rattle.pipe_driver.specs.declared.pipe_line.Leg.{Leg}
use Rattle.pipe_driver.specs.Lines.{way_as, ways_as, IsLine, AreLegsOf, SourceHas}
use Rattle.pipe_driver.specs.Plans.{task_of}
use Rattle.pipe_driver.specs.declared.sink_counts.SinkCounts.{SinkCounts}
use Rattle.pipe_driver.specs.Words.{RunnerWords}
use Rattle.pipe_driver.proofs.RunNodes.{begin_run}
use Rattle.pipe_engine.specs.Drives.{Line}
use Rattle.pipe_engine.specs.Engine.{Brings, HasSchemaLeft, IsFresh, engine_words}
use Rattle.pipe_engine.specs.Lent.{AreFeeds, AreLent, AreUnfilled}
use Rattle.pipe_engine.specs.Stands.{Settings}
use Rattle.pipe_engine.specs.declared.engine.Engine.{Engine}
use Rattle.pipe_engine.specs.declared.part.Part.{Part}
use Rattle.pipe_check.specs.Checked.{Checked}
use Rattle.pipe_convert.specs.Nodes.{plan_in, nodes_in, meaning_in, rows_in}
use Rattle.pipe_convert.specs.Sources.{AreWhole, IsSourceAt}
use Rattle.pipe_convert.specs.Converted.{schema_in}
use Rattle.pipe_slots.specs.declared.slots.Slots.{Slots}
use Rattle.pipe_lines.specs.Cuts.{IsLineFor}
use Rattle.pipe_lines.specs.Layouts.{IsLayout, layout_settings}
use Rattle.pipe_lines.specs.Lines.{AreLegsMade, AreLinesOf, HasSourceOf, IsLineOf}
use Rattle.pipe_lines.specs.Running.{ways_in}
use Rattle.pipe_lines.specs.Standing.{ask_in, IsRunFor}
use Rattle.pipe_lines.specs.declared.pipe_line.PipeLine.{PipeLine}
use Rattle.pipe_lines.specs.declared.layout.Layout.{Layout}
use Rattle.pipe_driver.specs.Boards.{begins_leg}
use Rattle.pipe_lines.proofs.Begun.{starts_begin}
use Rattle.pipe_lines.proofs.Listed.{lines_listed}
use Rattle.pipe_lines.proofs.Staged.{staged}
use Rattle.pipe_lines.proofs.LineFacts.{lines_ways}
use Rattle.pipe_lines.proofs.RootOrder.{source_order}
use Rattle.pipe_lines.proofs.RootSink.{root_setting}

-- ---- sources

same_bag : (a b : List Row) → a ≡ b → SameBag a b
same_bag a b e = let B : List Row → Type 0 = SameBag a in subst B e (record { sums = λ f. refl })

whole_schema : (schema : List Field) (lefts : List Left) → AreWhole schema lefts → AllByRecursion (HasSchemaLeft schema) lefts
whole_schema schema [] are = tt
whole_schema schema (l ∷ lefts) are = (are.0.schema_is, whole_schema schema lefts are.1)

whole_fresh : (schema : List Field) (lefts : List Left) → AreWhole schema lefts → AllByRecursion IsFresh lefts
whole_fresh schema [] are = tt
whole_fresh schema (l ∷ lefts) are = (are.0.whole, whole_fresh schema lefts are.1)

brings_rows : {H : Type 0} (plan : Checked) (layout : Layout H) (n : ℕ) (source : PhysSource) → IsSourceAt plan n source → (meaning_in plan).is_run n ≡ true → Brings source (layout_settings plan layout) (meaning_in plan) n
brings_rows plan layout n source is run = record {
  rows = same_bag _ (rows_in plan n) is.rows;
  schema = whole_schema (schema_in plan n) (left_of source) is.whole;
  some = is.some;
  few = is.few;
  fresh = whole_fresh (schema_in plan n) (left_of source) is.whole;
  order = λ sort. source_order plan n source is sort;
  run = λ chains. run;
}

-- ---- where pipelines begin

starts_on : (start : ℕ) (legs : List plan_legs.Leg) → (legs ≡ [] → ⊥) → 0 < occurs start (starts_from start legs)
starts_on start [] some = absurd (some refl)
starts_on start (leg ∷ legs) some = let e = ap one (eq-true start start refl) in omega arith

-- ---- pipelines

module _ {H : Type 0} (hash_of : H → List ℕ → ℕ) (plan : Checked) (layout : Layout H) where
  abbrev words : RunnerWords (Engine H) PhysSource (Part H)
  words = engine_words hash_of (layout_settings plan layout)

  legs_stand : (start : ℕ) (legs : List (Leg (Part H))) → AreLegsMade plan layout.specs.items layout.sinks.items layout.hasher layout.parts start legs → AreLegsOf words (task_of (ask_in plan)) start legs
  legs_stand start [] are = tt
  legs_stand start (leg ∷ legs) are = (
    record { number = are.0.number; there = (let few = are.0.few in let e = are.0.number in omega arith); stands = are.0.stands },
    legs_stand (sink_node (length (nodes_in plan)) leg.at) legs are.1,
  )

  source_stands : (n : ℕ) (o : Option PhysSource) → HasSourceOf plan n o → (meaning_in plan).is_run n ≡ true → SourceHas words (task_of (ask_in plan)) n o
  source_stands n None has run = has
  source_stands n (Some source) has run = brings_rows plan layout n source has run

  line_stands : (branch : Branch) (line : Line H) → IsLineOf plan layout.specs.items layout.sinks.items layout.hasher layout.parts branch line → (meaning_in plan).is_run line.start ≡ true → IsLine words (task_of (ask_in plan)) line
  line_stands branch line is run = record { legs = legs_stand line.start line.legs.items is.legs; source = source_stands line.start line.source is.source run }

  abbrev ways_to : List (Line H) → List Way
  ways_to lines = ways_as (length (nodes_in plan)) lines

  -- pipelines that begin at nodes that are run
  lines_stand : (bs : List Branch) (lines : List (Line H)) → AreLinesOf plan layout.specs.items layout.sinks.items layout.hasher layout.parts bs lines
      → AllByRecursion (IsWay (meaning_in plan)) (ways_to lines) → ((n : ℕ) → 0 < occurs n (flat_map starts_of (ways_to lines)) → (meaning_in plan).is_run n ≡ true) → AllByRecursion (IsLine words (task_of (ask_in plan))) lines
  lines_stand [] [] are ways runs = tt
  lines_stand [] (line ∷ lines) are ways runs = absurd are
  lines_stand (b ∷ bs) [] are ways runs = absurd are
  lines_stand (b ∷ bs) (line ∷ lines) are ways runs =
      let way = way_as (length (nodes_in plan)) line in
      let some = starts_on way.start way.legs ways.0.some in (
        line_stands b line are.0 (runs line.start (let a = occurs-append line.start (starts_of way) (flat_map starts_of (ways_to lines)) in omega arith)),
        lines_stand bs lines are.1 ways.1 (λ n on. runs n (let a = occurs-append n (starts_of way) (flat_map starts_of (ways_to lines)) in omega arith)),
      )

  -- ---- all of it

  pub stands : (context : PExecutionContext) (slots : Slots H) (counts : SinkCounts) (bs : List Branch) (lines : List (Line H)) → IsWellFormed (plan_in plan) plan.root → bs ≡ branches (plan_in plan) plan.root → AreLinesOf plan layout.specs.items layout.sinks.items layout.hasher layout.parts bs lines
      → AreUnfilled (length (nodes_in plan)) context.workers slots → AreFeeds (ask_in plan) counts → IsPartitionCount context.workers layout.parts
      → AreLent hash_of (layout_settings plan layout) (ask_in plan) context slots counts lines
  stands context slots counts bs lines good cut are unfilled feeds_are parts =
      let A : List Branch → Type 0 = λ xs. AreLinesOf plan layout.specs.items layout.sinks.items layout.hasher layout.parts xs lines in
      let are_all = subst A cut are in
      let ways : ways_to lines ≡ ways_of (plan_in plan) plan.root = lines_ways plan layout.specs.items layout.sinks.items layout.hasher layout.parts (branches (plan_in plan) plan.root) lines are_all in
      let W : List Way → Type 0 = AllByRecursion (IsWay (meaning_in plan)) in
      let S : List Way → Type 0 = λ ws. (n : ℕ) → 0 < occurs n (flat_map starts_of ws) → (meaning_in plan).is_run n ≡ true in
      record {
        well = good;
        ways = ways;
        are = lines_stand (branches (plan_in plan) plan.root) lines are_all (subst W (sym ways) (can_run (plan_in plan) plan.root good).ways) (subst S (sym ways) (λ n begun. begin_run (plan_in plan) plan.root n good begun));
        unfilled = unfilled;
        feeds_are = feeds_are;
        parts = parts;
      }

  pub run_stands : (context : PExecutionContext) (pipelines : List (PipeLine H)) (slots : Slots H) (counts : SinkCounts) (bs : List Branch) → IsWellFormed (plan_in plan) plan.root → IsLayout plan layout → IsPartitionCount context.workers layout.parts
      → bs ≡ branches (plan_in plan) plan.root → AreLinesOf plan layout.specs.items layout.sinks.items layout.hasher layout.parts bs (ways_in pipelines) → AllByRecursion (IsLineFor context.workers) pipelines
      → AreUnfilled (length (nodes_in plan)) context.workers slots → AreFeeds (ask_in plan) counts → IsRunFor hash_of plan context pipelines slots counts
  run_stands context pipelines slots counts bs good is parts cut are made_for unfilled feeds_are =
      let lines = ways_in pipelines in
      let A : List Branch → Type 0 = λ xs. AreLinesOf plan layout.specs.items layout.sinks.items layout.hasher layout.parts xs lines in
      let are_all = subst A cut are in
      let ways : ways_to lines ≡ ways_of (plan_in plan) plan.root = lines_ways plan layout.specs.items layout.sinks.items layout.hasher layout.parts (branches (plan_in plan) plan.root) lines are_all in
      let W : List Way → Type 0 = AllByRecursion (IsWay (meaning_in plan)) in
      let S : List Way → Type 0 = λ ws. (n : ℕ) → 0 < occurs n (flat_map starts_of ws) → (meaning_in plan).is_run n ≡ true in
      let B : List Way → Type 0 = λ ws. (n : ℕ) → 0 < occurs n (flat_map starts_of ws) → begins_leg (kind_at (nodes_in plan) n) ≡ true in
      record {
        settings = layout_settings plan layout;
        stand = record { lent = stands context slots counts bs lines good cut are unfilled feeds_are parts; made_for = made_for };
        root = root_setting plan layout is;
        order = refl;
        listed = λ setting. record {
          parked = tt;
          todo = lines_listed plan setting good layout.specs.items layout.sinks.items layout.hasher layout.parts (branches (plan_in plan) plan.root) lines are_all
              (subst W (sym ways) (can_run (plan_in plan) plan.root good).ways)
              (subst S (sym ways) (λ n begun. begin_run (plan_in plan) plan.root n good begun))
              (subst B (sym ways) (λ n begun. starts_begin (plan_in plan) plan.root n good begun))
              (is_tree (plan_in plan) plan.root good).run_under;
        };
        staged = λ setting ok many are_parts. staged plan layout setting good ok context.workers is many are_parts;
      }
