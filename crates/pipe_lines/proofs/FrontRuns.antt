-- What a call of a pipeline did, for each plan that is left.
use Rattle.std.proofs.Common.{◌≡◌, ℕ, zero, suc, ◌+◌, ◌<◌, ◌==◌, inl, inr, List, [], ◌∷◌, length, map, take, drop, Option, Some, None, refl, sym, ap, subst, ◌∙◌, arith}
use Rattle.std.specs.List.{AllByRecursion}
use Rattle.pipe_frame.specs.Frame.{Table}
use Rattle.pipe_schema.specs.Rows.{Same}
use Rattle.pipe_schema.proofs.Weights.{Same-from_bag, total-append}
use Rattle.pipe_ops.specs.declared.context.PExecutionContext.{PExecutionContext}
use Rattle.pipe_events.specs.EventValues.{event_value}
use Rattle.pipe_events.specs.PlanStages.{Setting}
use Rattle.pipe_events.specs.Stages.{Stage, Scan, Each, Union, Sort, Joined}
use Rattle.pipe_events.specs.Worlds.{Event, Side, OfSort, OfBuild, OfProbe}
use Rattle.pipe_events.specs.declared.event.Event as journal
use Rattle.pipe_driver.specs.declared.branch.SinkAt.{SinkAt}
use Rattle.pipe_driver.specs.declared.branch.SinkAt.TheVariants as at
use Rattle.pipe_driver.specs.Boards.{Board, board_of}
use Rattle.pipe_driver.specs.Fronts.{HasRunFront}
use Rattle.pipe_driver.specs.Legs.{Way, sink_node}
use Rattle.pipe_driver.specs.Lines.{Task, leg_as, way_as, ways_as, counts_as}
use Rattle.pipe_driver.specs.Numbers.{sink_number}
use Rattle.pipe_driver.specs.Plans.{task_of}
use Rattle.pipe_driver.specs.Recorded.{begun_in, left_at, was_run, is_shut, IsNoted}
use Rattle.pipe_driver.specs.Runs.{Between, parked_ways}
use Rattle.pipe_driver.specs.State.{World, Counts, Waits, Has, Spent, IsBetween, IsBuilt, nothing}
use Rattle.pipe_driver.specs.Tables.{number_at}
use Rattle.pipe_driver.specs.Ways.{one, legs_to, way_to, feeds, passes}
use Rattle.pipe_driver.specs.declared.error.RunError.{RunError}
use Rattle.pipe_driver.specs.declared.pipe_line.Leg.{Leg}
use Rattle.pipe_driver.specs.declared.sink_counts.SinkCounts.{SinkCounts}
use Rattle.pipe_driver.proofs.Known.{alike}
use Rattle.pipe_driver.proofs.Sounds.{are_sound}
use Rattle.pipe_driver.proofs.Tests.{eq-true}
use Rattle.pipe_chain.specs.Flow.{Acts}
use Rattle.pipe_passage.specs.LaneSeats.{sum_of}
use Rattle.pipe_slots.specs.SlotTables.{slot_at, seats_at}
use Rattle.pipe_slots.specs.declared.slot.Slot.{Slot}
use Rattle.pipe_slots.specs.declared.slot.Slot.TheVariants as slot
use Rattle.pipe_slots.specs.declared.slots.Slots.{Slots}
use Rattle.pipe_engine.specs.Drives.{Line, LineRun, CanBegin, IsRootAnswer, LowersRoot}
use Rattle.pipe_engine.specs.Engine.{engine_words, NoneOpen, SlotFits}
use Rattle.pipe_engine.specs.Journals.{events_in, NotedAt, staging_of}
use Rattle.pipe_engine.specs.Known.{Asked, known_of}
use Rattle.pipe_engine.specs.Left.{Shares, counts_left}
use Rattle.pipe_engine.specs.Noted.{AreListed}
use Rattle.pipe_engine.specs.Refused.{TellsEachPlan}
use Rattle.pipe_engine.specs.declared.part.Part.{Part}
use Rattle.pipe_engine.proofs.Entry.{root_rows}
use Rattle.pipe_engine.proofs.Leaving.{left_after, parted, dropped_ways}
use Rattle.pipe_engine.proofs.Tellings.{limit_as, plan_tells}
use Rattle.pipe_lines.specs.Cuts.{IsLineFor}
use Rattle.pipe_lines.specs.Fronts.{StandForLeft, RanFront, EndAtRoot, HasFilled, IsFilled, IsFrontAnswer, HasLeftJournal, answer_of, branches_in}
use Rattle.pipe_lines.specs.Running.{ways_in, RefusesBy}
use Rattle.pipe_lines.specs.declared.pipe_line.PipeLine.{PipeLine}
use Rattle.pipe_lines.proofs.FrontEnds.{ends_in_build, build_is_fed, join_is_passed, first_ends, ends_at_root}

-- ---- the journal beside the same counts

left_as : (b : Board) (c d : Counts) (begun : ℕ → ℕ) (n : ℕ) (stage : Stage) → ((k : ℕ) → d.probers k ≡ c.probers k) → left_at b c begun n stage ≡ left_at b d begun n stage
left_as b c d begun n (Scan rows) same = refl
left_as b c d begun n (Each input op) same = refl
left_as b c d begun n (Union inputs) same = refl
left_as b c d begun n (Sort input sorted) same = refl
left_as b c d begun n (Joined j) same = sym (same n)

shut_as : (c d : Counts) (n : ℕ) (side : Side) → ((k : ℕ) → d.sinks k ≡ c.sinks k) → ((k : ℕ) → d.probers k ≡ c.probers k) → is_shut c nothing n side ≡ is_shut d nothing n side
shut_as c d n OfSort sinks probers = ap (λ (k : ℕ). k == 0) (sym (sinks n))
shut_as c d n OfBuild sinks probers = ap (λ (k : ℕ). k == 0) (sym (sinks n))
shut_as c d n OfProbe sinks probers = ap (λ (k : ℕ). k == 0) (sym (probers n))

pub noted_as : (b : Board) (c d : Counts) (todo : List Way) (events : List Event) → ((k : ℕ) → d.sinks k ≡ c.sinks k) → ((k : ℕ) → d.probers k ≡ c.probers k) → IsNoted b c nothing [] todo events → IsNoted b d nothing [] todo events
noted_as b c d todo events sinks probers is = record {
  recorded = alike b.stages (was_run b c [] todo) (was_run b d [] todo) (is_shut c nothing) (is_shut d nothing)
      (λ n. ap (λ (k : ℕ). k == 0) (left_as b c d (begun_in [] todo) n (b.stages.stage n) probers))
      (λ n side t below. shut_as c d n side sinks probers) events is.recorded;
  sorts = λ n sort some. is.sorts n sort (let e = sinks n in omega (arith, some, e));
  joins = λ n join some. (let e = sinks n in let p = probers n in let left = is.joins n join (omega (arith, some, e)) in omega (arith, left, p));
  fresh = is.fresh;
}

-- ---- the last sink of the first pipeline

root_fed : {H : Type 0} (o : ℕ) (legs : List (Leg (Part H))) → EndAtRoot legs → 0 < legs_to o (map (leg_as o) legs)
root_fed o [] ends = absurd ends
root_fed o (leg ∷ []) ends = (let t : one (sink_node o leg.at == o) ≡ 1 = ap (λ (a : SinkAt). one (sink_node o a == o)) ends ∙ ap one (eq-true o o refl) in omega (arith, t))
root_fed o (leg ∷ next ∷ legs) ends = (let rest = root_fed o (next ∷ legs) ends in omega (arith, rest))

first_fed : (s n : ℕ) (w : Way) (ws : List Way) → 0 < n → 0 < way_to s w → 0 < feeds s (take n (w ∷ ws))
first_fed s zero w ws some fed = absurd (omega (arith, some))
first_fed s (suc n) w ws some fed = omega (arith, fed)

-- ---- a call

module _ {H : Type 0} (hash_of : H → List ℕ → ℕ) (asked : Asked H) (context : PExecutionContext) where
  abbrev k : Task
  k = task_of asked.ask

  abbrev size : ℕ
  size = length asked.ask.plan.nodes

  abbrev Ran : (all later : List (Line H)) (old new : LineRun H) → Option Table → Type 0
  Ran all later old new answer = HasRunFront (engine_words hash_of asked.settings) k all old new later answer

  -- it may be made
  pub can_begin : (all : List (PipeLine H)) (slots : Slots H) (counts : SinkCounts) (run : LineRun H) (lines : List (Line H)) → StandForLeft hash_of asked context all slots counts → Between (engine_words hash_of asked.settings) k run lines → CanBegin hash_of run lines (known_of asked)
  can_begin all slots counts run lines stand between = record { sound = are_sound asked.ask.plan asked.ask.root stand.left.well; between = between }

  -- what it tells of the plan where it is refused
  pub front_tells : (all : List (PipeLine H)) (slots : Slots H) (counts : SinkCounts) (was : PExecutionContext) (e : RunError) → StandForLeft hash_of asked context all slots counts → was ≡ context → TellsEachPlan was.row_limit e (known_of asked) → RefusesBy context.row_limit e asked
  front_tells all slots counts was e stand same tells = plan_tells asked.ask.plan asked.ask.root context.row_limit e stand.left.well (limit_as k.m was context e same tells)

  -- by the pipelines themselves
  by_lines : (all : List (PipeLine H)) (lines : List (Line H)) (later : List (PipeLine H)) (rest : List (Line H)) (old new : LineRun H) (answer : Option Table) → lines ≡ ways_in all → ways_in later ≡ rest → Ran lines rest old new answer → Ran (ways_in all) (ways_in later) old new answer
  by_lines all lines later rest old new answer are left ran =
      let A : List (Line H) → Type 0 = λ z. Ran z rest old new answer in
      let B : List (Line H) → Type 0 = λ z. Ran (ways_in all) z old new answer in
      subst B (sym left) (subst A are ran)

  pub ran_front : (all later : List (PipeLine H)) (lines rest : List (Line H)) (slots slots' : Slots H) (counts counts' : SinkCounts) (old new : LineRun H) (answer : Option Table) → StandForLeft hash_of asked context all slots counts → lines ≡ ways_in all → ways_in later ≡ rest
      → Ran lines rest old new answer → new.runner.context ≡ context → Shares slots' new.runner → NoneOpen new.runner → counts' ≡ new.counts → AllByRecursion (IsLineFor context.workers) later → RanFront hash_of context all later slots' counts' asked
  ran_front all later lines rest slots slots' counts counts' old new answer stand are left ran same has shut counts_are made_for =
      let is = by_lines all lines later rest old new answer are left ran in
      record {
        count = is.count;
        some = is.some;
        later_is = is.later_is;
        closed = is.closed;
        shortest = is.shortest;
        left = record { left = left_after hash_of asked.settings asked.ask context slots slots' counts counts' (ways_in all) (ways_in later) old new answer stand.left is same has shut counts_are; made_for = made_for };
      }

  -- ---- its answer

  -- where it is none, the last sink is a build, and the slot of its join is filled
  filled_by : (w : World) (j : ℕ) (there : Slot H) (acts : Acts) → SlotFits asked.settings k.m w j there acts → IsBuilt k.m j (w.slot j) → IsFilled there
  filled_by w j slot.Empty acts fits built = absurd (let e : Waits ≡ Has built.table = sym fits.waits ∙ built.is in cc)
  filled_by w j (slot.Keys table) acts fits built = tt
  filled_by w j (slot.Rows frame) acts fits built = tt
  filled_by w j (slot.Full table) acts fits built = tt
  filled_by w j slot.Spent acts fits built = absurd (let e : Spent ≡ Has built.table = sym fits.1 ∙ built.is in cc)

  fills : (first : PipeLine H) (others later : List (PipeLine H)) (slots slots' : Slots H) (counts counts' : SinkCounts) → StandForLeft hash_of asked context (first ∷ others) slots counts → RanFront hash_of context (first ∷ others) later slots' counts' asked → (EndAtRoot first.way.legs.items → ⊥) → HasFilled first slots'
  fills first others later slots slots' counts counts' stand behind none =
      let o = k.m.ordered in
      let left = stand.left in
      let after = behind.left.left in
      let p = way_as o first.way in
      let ps = ways_as o (ways_in others) in
      let legs = first.way.legs.items in
      let ordered = left.between.left.order in
      let ways = left.between.left.ways in
      elim (first_ends asked.ask.plan asked.ask.root left.well left.ran p legs ps behind.count refl left.ways ways behind.shortest left.closed) [
        | inl root ↦ absurd (none root)
        | inr build ↦ (
            let j = build.0 in
            let feeds_build = ends_in_build asked.ask.plan asked.ask.root left.well left.ran p legs ps behind.count refl left.ways ways behind.shortest j build.1 in
            let here = build_is_fed asked.ask.plan asked.ask.root left.well left.ran p legs ps behind.count refl left.ways ways behind.shortest j build.1 in
            let through = join_is_passed asked.ask.plan asked.ask.root left.well left.ran p legs ps behind.count refl left.ways ways behind.shortest j build.1 ordered in
            let rest = ap (passes j) (ap (ways_as o) behind.later_is ∙ dropped_ways o behind.count (ways_in (first ∷ others))) in
            let closed = behind.closed j (first_fed j behind.count p ps behind.some here) in
            let counted = after.between.left.sinks j in
            let zero_left : (counts_left asked.ask counts' (branches_in asked later)).sinks j ≡ 0 = omega (arith, closed, counted) in
            let there = after.between.left.built j refl feeds_build.is_join (omega (arith, rest, through)) zero_left in
            record { join = j; ends = build.1; filled = filled_by after.world j (slot_at slots'.slots.items j) (sum_of (seats_at slots'.seats.items j)) (after.fits.slots j) there })
      ]

  answers : (first : PipeLine H) (others later : List (PipeLine H)) (slots slots' : Slots H) (counts counts' : SinkCounts) (old new : LineRun H) (answer : Option Table) → StandForLeft hash_of asked context (first ∷ others) slots counts → Ran (ways_in (first ∷ others)) (ways_in later) old new answer
      → RanFront hash_of context (first ∷ others) later slots' counts' asked → old.counts ≡ counts → IsRootAnswer answer (known_of asked) → LowersRoot old new answer (known_of asked) → IsFrontAnswer first slots' (answer_of answer) asked
  answers first others later slots slots' counts counts' old new (Some frame) stand ran behind counts_are schema lowers = (
    subst (Same frame.rows) (root_rows asked.ask) (Same-from_bag ran.root),
    schema,
    (let o = k.m.ordered in
        let left = stand.left in
        let ws = ways_as o (ways_in (first ∷ others)) in
        let apart : feeds o ws ≡ feeds o (take ran.count ws) + feeds o (drop ran.count ws) = ap (feeds o) (sym (parted ran.count ws)) ∙ total-append (way_to o) (take ran.count ws) (drop ran.count ws) in
        let rest = ap (feeds o) (ap (ways_as o) ran.later_is ∙ dropped_ways o ran.count (ways_in (first ∷ others))) in
        let Q : List Way → Type 0 = λ qs. IsBetween k.m ran.between.w (counts_as k new) qs (ways_as o (ways_in later)) in
        let now = (subst Q (ap (ways_as o) ran.parked) ran.between.between).left.sinks o in
        let counted = left.between.left.sinks o in
        let same = ap (λ (z : SinkCounts). number_at z.left.items (sink_number asked.ask.plan asked.ask.root o)) counts_are in
        ends_at_root asked.ask.plan asked.ask.root left.well left.ran (way_as o first.way) first.way.legs.items (ways_as o (ways_in others)) ran.count refl left.ways left.between.left.ways ran.shortest left.closed (omega (arith, apart, rest, now, counted, same, lowers))),
  )
  answers first others later slots slots' counts counts' old new None stand ran behind counts_are schema lowers = fills first others later slots slots' counts counts' stand behind (λ ends. (
      let o = k.m.ordered in
      let ws = ways_as o (ways_in (first ∷ others)) in
      let fed = root_fed o first.way.legs.items ends in
      let front = first_fed o ran.count (way_as o first.way) (ways_as o (ways_in others)) ran.some fed in
      let none_left = ran.closed o front in
      let Q : List Way → Type 0 = λ qs. IsBetween k.m ran.between.w (counts_as k new) qs (ways_as o (ways_in later)) in
      let left = (subst Q (ap (ways_as o) ran.parked) ran.between.between).left.sinks o in
      let closed : (counts_as k new).sinks o ≡ 0 = omega (arith, left, none_left) in
      let was : (counts_as k old).sinks o ≡ 0 = ran.root closed in
      let counted = stand.left.between.left.sinks o in
      let same = ap (λ (z : SinkCounts). number_at z.left.items (sink_number asked.ask.plan asked.ask.root o)) counts_are in
      omega (arith, fed, was, counted, same)))

  pub front_answers : (first : PipeLine H) (others later : List (PipeLine H)) (lines rest : List (Line H)) (slots slots' : Slots H) (counts counts' : SinkCounts) (old new : LineRun H) (answer : Option Table) → StandForLeft hash_of asked context (first ∷ others) slots counts → lines ≡ ways_in (first ∷ others) → ways_in later ≡ rest
      → Ran lines rest old new answer → RanFront hash_of context (first ∷ others) later slots' counts' asked → old.counts ≡ counts → IsRootAnswer answer (known_of asked) → LowersRoot old new answer (known_of asked) → IsFrontAnswer first slots' (answer_of answer) asked
  front_answers first others later lines rest slots slots' counts counts' old new answer stand are left ran behind counts_are schema lowers =
      answers first others later slots slots' counts counts' old new answer stand (by_lines (first ∷ others) lines later rest old new answer are left ran) behind counts_are schema lowers

  -- ---- its journal

  -- before it
  pub noted_before : (all : List (PipeLine H)) (lines : List (Line H)) (slots : Slots H) (counts : SinkCounts) (old : LineRun H) (events : List journal.Event) (setting : Setting) → StandForLeft hash_of asked context all slots counts → lines ≡ ways_in all
      → Between (engine_words hash_of asked.settings) k old lines → old.parked.items ≡ [] → old.counts ≡ counts → map event_value old.runner.journal.items ≡ map event_value events
      → HasLeftJournal asked setting all counts events → NotedAt old lines (known_of asked) (staging_of asked.ask setting)
  noted_before all lines slots counts old events setting stand are between parked counts_are written has =
      let v = staging_of asked.ask setting in
      let b = board_of asked.ask.plan asked.ask.root setting in
      let c = counts_left asked.ask counts (branches_in asked all) in
      let d = counts_as k old in
      let ws = branches_in asked all in
      let ways : ways_as size lines ≡ ws = ap (ways_as size) are in
      let Q : List Way → Type 0 = λ qs. IsBetween k.m between.w d qs (ways_as size lines) in
      let left = (subst Q (ap (ways_as size) parked) between.between).left in
      let sinks : (s : ℕ) → d.sinks s ≡ c.sinks s = λ s. ap (λ (z : SinkCounts). number_at z.left.items (sink_number asked.ask.plan asked.ask.root s)) counts_are in
      let probers : (n : ℕ) → d.probers n ≡ c.probers n = λ n. (let p = left.probers n in let e = ap (passes n) ways in omega (arith, p, e)) in
      let noted = noted_as b c d ws (map event_value events) sinks probers has.noted in
      let E : List Event → Type 0 = IsNoted b d nothing (parked_ways k old) (ways_as size lines) in
      let T : List Way → Type 0 = λ ts. IsNoted b d nothing (parked_ways k old) ts (map event_value events) in
      let P : List Way → Type 0 = λ qs. IsNoted b d nothing qs ws (map event_value events) in
      let L : List (Line H) → Type 0 = λ qs. AreListed v k.m qs lines in
      let M : List (Line H) → Type 0 = AreListed v k.m [] in
      record {
        noted = subst E (sym written) (subst T (sym ways) (subst P (sym (ap (ways_as size) parked)) noted));
        listed = subst L (sym parked) (subst M (sym are) has.listed);
      }

  -- and behind it
  pub noted_behind : (later : List (PipeLine H)) (rest : List (Line H)) (counts : SinkCounts) (new : LineRun H) (events : List journal.Event) (setting : Setting) → ways_in later ≡ rest
      → Between (engine_words hash_of asked.settings) k new rest → new.parked.items ≡ [] → counts ≡ new.counts → map event_value events ≡ map event_value new.runner.journal.items
      → NotedAt new rest (known_of asked) (staging_of asked.ask setting) → HasLeftJournal asked setting later counts events
  noted_behind later rest counts new events setting are between parked counts_are written has =
      let v = staging_of asked.ask setting in
      let b = board_of asked.ask.plan asked.ask.root setting in
      let c = counts_as k new in
      let d = counts_left asked.ask counts (branches_in asked later) in
      let ws = branches_in asked later in
      let ways : ws ≡ ways_as size rest = ap (ways_as size) are in
      let Q : List Way → Type 0 = λ qs. IsBetween k.m between.w c qs (ways_as size rest) in
      let left = (subst Q (ap (ways_as size) parked) between.between).left in
      let sinks : (s : ℕ) → d.sinks s ≡ c.sinks s = λ s. ap (λ (z : SinkCounts). number_at z.left.items (sink_number asked.ask.plan asked.ask.root s)) counts_are in
      let probers : (n : ℕ) → d.probers n ≡ c.probers n = λ n. (let p = left.probers n in let e = ap (passes n) ways in omega (arith, p, e)) in
      let E : List Event → Type 0 = IsNoted b c nothing [] ws in
      let T : List Way → Type 0 = λ ts. IsNoted b c nothing [] ts (events_in new.runner) in
      let P : List Way → Type 0 = λ qs. IsNoted b c nothing qs (ways_as size rest) (events_in new.runner) in
      let L : List (Line H) → Type 0 = λ qs. AreListed v k.m qs rest in
      let M : List (Line H) → Type 0 = AreListed v k.m [] in
      record {
        noted = noted_as b c d ws (map event_value events) sinks probers (subst E (sym written) (subst T (sym ways) (subst P (ap (ways_as size) parked) has.noted)));
        listed = subst M (sym are) (subst L parked has.listed);
      }
