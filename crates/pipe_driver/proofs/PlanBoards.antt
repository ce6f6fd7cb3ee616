-- The board of a well-formed plan, and its journal before the first branch runs.
use Rattle.std.proofs.Common.{◌≡◌, ◌≢◌, ℕ, ◌<◌, Bool, true, false, not, cond, ◌==◌, List, [], length, refl, sym, ap, subst, ◌∙◌, arith, ◌⊎◌, inl, inr, Option, Some, None}
use Rattle.std.specs.List.{list_any, list_all}
use Rattle.pipe_frame.specs.Frame.{Table}
use Rattle.pipe_schema.specs.Rows.{Row}
use Rattle.pipe_schema.specs.declared.field.Field.{Field}
use Rattle.pipe_plan.specs.Node.{Node}
use Rattle.pipe_plan.specs.Node as node
use Rattle.pipe_plan.specs.Plan.{Plan}
use Rattle.pipe_plan.specs.Under.{node_at, is_under}
use Rattle.pipe_plan.specs.Schemas.{schemas_to}
use Rattle.pipe_plan.specs.Faults.{IsWellFormed}
use Rattle.pipe_events.specs.Stages.{JoinStage, Stage, Scan, Each, Union, Sort, Joined, IsStages}
use Rattle.pipe_events.specs.Worlds.{Side, OfSort, OfBuild, OfProbe, side_below}
use Rattle.pipe_events.specs.PlanStages.{Setting, stage_of, stage_at, stages_of}
use Rattle.pipe_events.proofs.Journals.{empty_journals}
use Rattle.pipe_events.specs.Runs.{supply_of}
use Rattle.pipe_events.proofs.Trees.{plans_trees}
use Rattle.pipe_events.proofs.Flows.{supplies}
use Rattle.pipe_driver.specs.Branches.{is_scan_at}
use Rattle.pipe_driver.specs.Branches as branches
use Rattle.pipe_driver.proofs.Readers.{input-under}
use Rattle.pipe_driver.specs.Shape.{Kind, Begins, Unites, Joins, Sorts, kind_of, kind_at, union_kind, is_joining, is_sorting}
use Rattle.pipe_driver.specs.Shape as kind
use Rattle.pipe_driver.specs.Chains.{through_first, ends_in, goes_through, reads, reader, chain_of}
use Rattle.pipe_driver.specs.Meaning.{Meaning, is_join_at, is_sort_at, is_source_over, is_read_whole, is_part, tree_of, meaning_of}
use Rattle.pipe_driver.specs.Legs.{Way, ways_of}
use Rattle.pipe_driver.specs.Ways.{begun}
use Rattle.pipe_driver.proofs.Tests.{by_test, not-both, or-case, and-cases, and-both, all-map}
use Rattle.pipe_driver.proofs.Chains.{found_is, chain_from}
use Rattle.pipe_driver.proofs.PlanParts.{there, stage_is, reads_below, reading}
use Rattle.pipe_driver.proofs.Sounds.{are_sound}
use Rattle.pipe_driver.proofs.Runnable.{are_run}
use Rattle.pipe_driver.specs.State.{World, Counts, IsStart, nothing}
use Rattle.pipe_driver.specs.Boards.{Board, or_itself, start_of, board_of, is_scan, is_union, IsPart, IsSortAt, IsJoinAt, IsBoard, begins_leg}
use Rattle.pipe_driver.specs.Recorded.{begun_in, left_at, was_run, is_shut, IsNoted}
use Rattle.pipe_driver.specs.JournalLaws.{PlansHaveBoards, JournalsStart}
use Rattle.pipe_driver.proofs.Boards.{some_not, unrun_as, sort_own}
use Rattle.pipe_driver.proofs.Sources.{source_begun, fresh, begun_fed, source_reads}

-- ---- what the stage of a node is, by its kind

union_plain : (source : Bool) (is : List ℕ) → (is_sorting (union_kind source is) ≡ false) × (is_joining (union_kind source is) ≡ false)
union_plain true is = (refl, refl)
union_plain false is = (refl, refl)

record IsSortStage (s : Stage) : Type 0 where
  input : ℕ
  sorted : List Row → List Row
  is : s ≡ Sort input sorted

record IsJoinStage (s : Stage) : Type 0 where
  join : JoinStage
  is : s ≡ Joined join

sort_stage : (nodes : List Node) (frames : List Table) (schema : ℕ → List Field) (x : Node) → is_sorting (kind_of nodes x) ≡ true → IsSortStage (stage_of frames schema x)
sort_stage nodes frames schema (node.DataFrameScan frame columns) h = cc
sort_stage nodes frames schema (node.Filter i predicate) h = cc
sort_stage nodes frames schema (node.SimpleProjection i columns) h = cc
sort_stage nodes frames schema (node.Select i exprs) h = cc
sort_stage nodes frames schema (node.HStack i exprs) h = cc
sort_stage nodes frames schema (node.MapFunction i function) h = cc
sort_stage nodes frames schema (node.Union is) h = absurd (not-both (is_sorting (union_kind (list_all (is_scan_at nodes) is) is)) h (union_plain (list_all (is_scan_at nodes) is) is).0)
sort_stage nodes frames schema (node.Join l r left_on right_on options) h = cc
sort_stage nodes frames schema (node.Sort i by options) h = record { input = i; sorted = _; is = refl }

join_stage_at : (nodes : List Node) (frames : List Table) (schema : ℕ → List Field) (x : Node) → is_joining (kind_of nodes x) ≡ true → IsJoinStage (stage_of frames schema x)
join_stage_at nodes frames schema (node.DataFrameScan frame columns) h = cc
join_stage_at nodes frames schema (node.Filter i predicate) h = cc
join_stage_at nodes frames schema (node.SimpleProjection i columns) h = cc
join_stage_at nodes frames schema (node.Select i exprs) h = cc
join_stage_at nodes frames schema (node.HStack i exprs) h = cc
join_stage_at nodes frames schema (node.MapFunction i function) h = cc
join_stage_at nodes frames schema (node.Union is) h = absurd (not-both (is_joining (union_kind (list_all (is_scan_at nodes) is) is)) h (union_plain (list_all (is_scan_at nodes) is) is).1)
join_stage_at nodes frames schema (node.Join l r left_on right_on options) h = record { join = _; is = refl }
join_stage_at nodes frames schema (node.Sort i by options) h = cc

abbrev is_sort_stage : Stage → Bool
is_sort_stage (Scan rows) = false
is_sort_stage (Each input op) = false
is_sort_stage (Union inputs) = false
is_sort_stage (Sort input sorted) = true
is_sort_stage (Joined j) = false

abbrev is_join_stage : Stage → Bool
is_join_stage (Scan rows) = false
is_join_stage (Each input op) = false
is_join_stage (Union inputs) = false
is_join_stage (Sort input sorted) = false
is_join_stage (Joined j) = true

sort_kind : (nodes : List Node) (frames : List Table) (schema : ℕ → List Field) (x : Node) → is_sort_stage (stage_of frames schema x) ≡ true → is_sorting (kind_of nodes x) ≡ true
sort_kind nodes frames schema (node.DataFrameScan frame columns) h = cc
sort_kind nodes frames schema (node.Filter i predicate) h = cc
sort_kind nodes frames schema (node.SimpleProjection i columns) h = cc
sort_kind nodes frames schema (node.Select i exprs) h = cc
sort_kind nodes frames schema (node.HStack i exprs) h = cc
sort_kind nodes frames schema (node.MapFunction i function) h = cc
sort_kind nodes frames schema (node.Union is) h = cc
sort_kind nodes frames schema (node.Join l r left_on right_on options) h = cc
sort_kind nodes frames schema (node.Sort i by options) h = refl

join_kind : (nodes : List Node) (frames : List Table) (schema : ℕ → List Field) (x : Node) → is_join_stage (stage_of frames schema x) ≡ true → is_joining (kind_of nodes x) ≡ true
join_kind nodes frames schema (node.DataFrameScan frame columns) h = cc
join_kind nodes frames schema (node.Filter i predicate) h = cc
join_kind nodes frames schema (node.SimpleProjection i columns) h = cc
join_kind nodes frames schema (node.Select i exprs) h = cc
join_kind nodes frames schema (node.HStack i exprs) h = cc
join_kind nodes frames schema (node.MapFunction i function) h = cc
join_kind nodes frames schema (node.Union is) h = cc
join_kind nodes frames schema (node.Join l r left_on right_on options) h = refl
join_kind nodes frames schema (node.Sort i by options) h = cc

source_kind : (nodes : List Node) (frames : List Table) (schema : ℕ → List Field) (x : Node) → supplies (stage_of frames schema x) ≡ true → begins_leg (kind_of nodes x) ≡ true
source_kind nodes frames schema (node.DataFrameScan frame columns) h = refl
source_kind nodes frames schema (node.Filter i predicate) h = cc
source_kind nodes frames schema (node.SimpleProjection i columns) h = cc
source_kind nodes frames schema (node.Select i exprs) h = cc
source_kind nodes frames schema (node.HStack i exprs) h = cc
source_kind nodes frames schema (node.MapFunction i function) h = cc
source_kind nodes frames schema (node.Union is) h = cc
source_kind nodes frames schema (node.Join l r left_on right_on options) h = cc
source_kind nodes frames schema (node.Sort i by options) h = refl

scan_stage : (frames : List Table) (schema : ℕ → List Field) (x : Node) → branches.is_scan x ≡ true → is_scan (stage_of frames schema x) ≡ true
scan_stage frames schema (node.DataFrameScan frame columns) h = refl
scan_stage frames schema (node.Filter i predicate) h = cc
scan_stage frames schema (node.SimpleProjection i columns) h = cc
scan_stage frames schema (node.Select i exprs) h = cc
scan_stage frames schema (node.HStack i exprs) h = cc
scan_stage frames schema (node.MapFunction i function) h = cc
scan_stage frames schema (node.Union is) h = cc
scan_stage frames schema (node.Join l r left_on right_on options) h = cc
scan_stage frames schema (node.Sort i by options) h = cc

-- a source that reads nodes is a union of them
source_union : (nodes : List Node) (frames : List Table) (schema : ℕ → List Field) (x : Node) (n : ℕ) → is_source_over (kind_of nodes x) ≡ true → reads (stage_of frames schema x) n ≡ true
    → (is_union (stage_of frames schema x) ≡ true) × (goes_through (stage_of frames schema x) n ≡ true)
source_union nodes frames schema (node.DataFrameScan frame columns) n h r = cc
source_union nodes frames schema (node.Filter i predicate) n h r = cc
source_union nodes frames schema (node.SimpleProjection i columns) n h r = cc
source_union nodes frames schema (node.Select i exprs) n h r = cc
source_union nodes frames schema (node.HStack i exprs) n h r = cc
source_union nodes frames schema (node.MapFunction i function) n h r = cc
source_union nodes frames schema (node.Union is) n h r = (refl, elim (or-case (list_any (λ i. i == n) is) false r) [ inl e ↦ e | inr e ↦ cc ])
source_union nodes frames schema (node.Join l r' left_on right_on options) n h r = cc
source_union nodes frames schema (node.Sort i by options) n h r = cc

over_source : (x : Kind) → is_source_over x ≡ true → begins_leg x ≡ true
over_source Begins h = refl
over_source (kind.Each i) h = cc
over_source (Unites is) h = cc
over_source (Joins built probed) h = cc
over_source (Sorts i) h = cc

both_stages : (s : Stage) → is_scan s ≡ true → is_union s ≡ true → ⊥
both_stages (Scan rows) h k = cc
both_stages (Each input op) h k = cc
both_stages (Union inputs) h k = cc
both_stages (Sort input sorted) h k = cc
both_stages (Joined j) h k = cc

module _ (plan : Plan) (root : ℕ) (setting : Setting) (good : IsWellFormed plan root) where
  abbrev b : Board
  b = board_of plan root setting

  abbrev nodes : List Node
  nodes = plan.nodes

  abbrev stage : ℕ → Stage
  stage = stage_at plan root

  abbrev own : ℕ → Stage
  own n = stage_of plan.frames (schemas_to plan n) (node_at nodes n)

  not_under : (n : ℕ) → is_under nodes root n ≡ false → stage n ≡ Union []
  not_under n u = ap (λ v. cond v (own n) (Union [])) u

  -- a node of which some test isn't false is under the root
  under_if : (test : Stage → Bool) (n : ℕ) → test (Union []) ≡ false → test (stage n) ≡ true → is_under nodes root n ≡ true
  under_if test n none h =
      by_test (is_under nodes root n ≡ true) (is_under nodes root n) (λ u. u)
      (λ u. absurd (not-both (test (stage n)) h (ap test (not_under n u) ∙ none)))

  own_test : (test : Stage → Bool) (n : ℕ) → is_under nodes root n ≡ true → test (stage n) ≡ true → test (own n) ≡ true
  own_test test n u h = ap test (sym (stage_is plan root n u)) ∙ h

  inside : (n : ℕ) → (stage n ≡ Union [] → ⊥) → n < length nodes
  inside n some = by_test (n < length nodes) (is_under nodes root n) (λ u. there plan root n good u) (λ u. absurd (some (not_under n u)))

  sorts : (n : ℕ) → is_sort_stage (stage n) ≡ true → is_sort_at (tree_of plan root) n ≡ true
  sorts n h =
      let u = under_if is_sort_stage n refl h in
      and-both (is_under nodes root n) (is_sorting (kind_at nodes n)) u (sort_kind nodes plan.frames (schemas_to plan n) (node_at nodes n) (own_test is_sort_stage n u h))

  joins : (n : ℕ) → is_join_stage (stage n) ≡ true → is_join_at (tree_of plan root) n ≡ true
  joins n h =
      let u = under_if is_join_stage n refl h in
      and-both (is_under nodes root n) (is_joining (kind_at nodes n)) u (join_kind nodes plan.frames (schemas_to plan n) (node_at nodes n) (own_test is_join_stage n u h))

  sort_there : (n : ℕ) → is_sort_at (tree_of plan root) n ≡ true → IsSortAt b.stages n
  sort_there n h =
      let p = and-cases (is_under nodes root n) (is_sorting (kind_at nodes n)) h in
      let s = sort_stage nodes plan.frames (schemas_to plan n) (node_at nodes n) p.1 in
      record { input = s.input; sorted = s.sorted; is = stage_is plan root n p.0 ∙ s.is }

  join_there : (n : ℕ) → is_join_at (tree_of plan root) n ≡ true → IsJoinAt b.stages n
  join_there n h =
      let p = and-cases (is_under nodes root n) (is_joining (kind_at nodes n)) h in
      let s = join_stage_at nodes plan.frames (schemas_to plan n) (node_at nodes n) p.1 in
      record { join = s.join; is = stage_is plan root n p.0 ∙ s.is }

  -- ---- what a union reads together

  record Together (n : ℕ) : Type 0 where
    at : ℕ
    is : start_of plan root n ≡ at
    under : is_under nodes root at ≡ true
    source : is_source_over (kind_at nodes at) ≡ true
    part : IsPart b n at

  scan_at : (n : ℕ) → is_scan_at nodes n ≡ true → is_under nodes root n ≡ true → is_scan (stage n) ≡ true
  scan_at n h u = ap is_scan (stage_is plan root n u) ∙ scan_stage plan.frames (schemas_to plan n) (node_at nodes n) h

  read_by : (n r : ℕ) → is_part plan root n ≡ true → reader stage (length nodes) n ≡ Some r → is_source_over (kind_at nodes r) ≡ true → Together n
  read_by n r p e source =
      let found = found_is (λ k. reads (stage k) n) (length nodes) r e in
      let read = reading plan root r n found.passes in
      let here = input-under plan root r n good (there plan root r good read.under) read.under read.reads_it in
      let own_reads : reads (own r) n ≡ true = ap (λ s. reads s n) (sym (stage_is plan root r read.under)) ∙ found.passes in
      let u = source_union nodes plan.frames (schemas_to plan r) (node_at nodes r) n source own_reads in
      let fed : goes_through (stage r) n ≡ true = ap (λ s. goes_through s n) (stage_is plan root r read.under) ∙ u.1 in
      let c : chain_of stage (length nodes) n ≡ through_first r (chain_of stage (length nodes) r) =
      chain_from stage (length nodes) n r (reads_below plan root good) e ∙ ap (λ t. cond t (through_first r (chain_of stage (length nodes) r)) (ends_in r)) fed in
      let start : start_of plan root n ≡ or_itself n (reader stage (length nodes) n) = ap (λ t. cond t (or_itself n (reader stage (length nodes) n)) n) p in
      record {
        at = r;
        is = start ∙ ap (or_itself n) e;
        under = read.under;
        source = source;
        part = record {
          scan = scan_at n (source_reads nodes (node_at nodes r) n source read.reads_it) here;
          union = ap is_union (stage_is plan root r read.under) ∙ u.0;
          fed = fed;
          above = ap (λ x. x.operators) c;
          above_sink = ap (λ x. x.sink) c;
        };
      }

  together : (n : ℕ) → is_part plan root n ≡ true → Together n
  together n p =
      let split : (o : Option ℕ) → reader stage (length nodes) n ≡ o → is_read_whole (kind_at nodes) o ≡ true → Together n = elim [
        | None ↦ λ e h. cc
        | Some r ↦ λ e h. read_by n r p e h
      ] in split (reader stage (length nodes) n) refl p

  alone : (n : ℕ) → is_part plan root n ≡ false → start_of plan root n ≡ n
  alone n p = ap (λ t. cond t (or_itself n (reader stage (length nodes) n)) n) p

  -- a union isn't read by another source
  union_alone : (u : ℕ) → is_union (stage u) ≡ true → is_part plan root u ≡ false
  union_alone u union = by_test (is_part plan root u ≡ false) (is_part plan root u)
      (λ p. absurd (both_stages (stage u) (together u p).part.scan union))
      (λ p. p)

  -- a leg begins where the rows of a source are taken
  begins : (n : ℕ) → supplies (stage n) ≡ true → 0 < begun (start_of plan root n) (ways_of plan root)
  begins n h =
      let u = under_if supplies n refl h in
      by_test (0 < begun (start_of plan root n) (ways_of plan root)) (is_part plan root n)
      (λ p.
      let t = together n p in
      let run = and-both (is_under nodes root t.at) (not (is_part plan root t.at)) t.under (ap not (union_alone t.at t.part.union)) in
      subst (λ k. 0 < begun k (ways_of plan root)) (sym t.is) (source_begun plan root t.at good run (over_source (kind_at nodes t.at) t.source)))
      (λ p.
      let run = and-both (is_under nodes root n) (not (is_part plan root n)) u (ap not p) in
      subst (λ k. 0 < begun k (ways_of plan root)) (sym (alone n p))
      (source_begun plan root n good run (source_kind nodes plan.frames (schemas_to plan n) (node_at nodes n) (own_test supplies n u h))))

  module _ (ok : IsStages (stages_of plan root setting)) where
    board : IsBoard b
    board = record {
      ok = ok;
      tree = plans_trees plan root setting good.faultless;
      sound = are_sound plan root good;
      inside = inside;
      sort = λ n s. sorts n (ap is_sort_stage s.is);
      is_sort = sort_there;
      join = λ n j. joins n (ap is_join_stage j.is);
      is_join = join_there;
      ordered = refl;
      above = λ n. refl;
      above_sink = λ n. refl;
      source = λ n. by_test ((start_of plan root n ≡ n) ⊎ IsPart b n (start_of plan root n)) (is_part plan root n)
          (λ p. (let t = together n p in inr (subst (λ u. IsPart b n u) (sym t.is) t.part)))
          (λ p. inl (alone n p));
    }

    -- ---- before the first branch runs

    module _ (w : World) (c : Counts) (start : IsStart w c (ways_of plan root)) where
      abbrev ways : List Way
      ways = ways_of plan root

      abbrev m : Meaning
      m = meaning_of plan root

      abbrev ran : ℕ → Bool
      ran = was_run b c [] ways

      sort_begun : (n : ℕ) → m.is_sort n ≡ true → 0 < begun n ways
      sort_begun n sort =
          let s = sort_there n sort in
          subst (λ k. 0 < begun k ways) (sort_own b board n s.input s.sorted s.is) (begins n (ap supplies s.is))

      sort_fed : (n : ℕ) → m.is_sort n ≡ true → 0 < c.sinks n
      sort_fed n sort =
          let apart = all-map (λ p. m.is_sort p.start ≡ false) (λ p. p.start ≢ n) ways (λ p none same. not-both (m.is_sort p.start) (ap m.is_sort same ∙ sort) none) (fresh plan root good) in
          let fed = begun_fed n ways apart in
          let some = sort_begun n sort in
          let is = start.sinks n in
          omega (arith, fed, some, is)

      join_fed : (n : ℕ) → m.is_join n ≡ true → 0 < c.sinks n
      join_fed n join = (let fed = (are_run plan root n good join).fed in let is = start.sinks n in omega (arith, fed, is))

      join_passed : (n : ℕ) → m.is_join n ≡ true → 0 < c.probers n
      join_passed n join = (let some = (are_run plan root n good join).through in let is = start.probers n in omega (arith, some, is))

      supply_some : (n p : ℕ) (x : Stage) → p < supply_of b.stages n x → supplies x ≡ true
      supply_some n p (Scan rows) lt = refl
      supply_some n p (Each input op) lt = absurd (omega (arith, lt))
      supply_some n p (Union inputs) lt = absurd (omega (arith, lt))
      supply_some n p (Sort input sorted) lt = refl
      supply_some n p (Joined j) lt = absurd (omega (arith, lt))

      source_unrun : (n : ℕ) → supplies (stage n) ≡ true → ran n ≡ false
      source_unrun n s = (let some = begins n s in unrun_as b c (begun_in [] ways) n (stage n) s (omega (arith, some)))

      join_unrun : (n : ℕ) (j : JoinStage) → stage n ≡ Joined j → ran n ≡ false
      join_unrun n j is = ap (λ x. left_at b c (begun_in [] ways) n x == 0) is ∙ some_not (c.probers n) (join_passed n (joins n (ap is_join_stage is)))

      none_shut : (n : ℕ) (x : Stage) (side : Side) (t : ℕ) → stage n ≡ x → side_below x side ≡ Some t → is_shut c nothing n side ≡ false
      none_shut n (Scan rows) side t is h = cc
      none_shut n (Each input op) side t is h = cc
      none_shut n (Union inputs) side t is h = cc
      none_shut n (Sort input sorted) OfSort t is h = some_not (c.sinks n) (sort_fed n (sorts n (ap is_sort_stage is)))
      none_shut n (Sort input sorted) OfBuild t is h = cc
      none_shut n (Sort input sorted) OfProbe t is h = cc
      none_shut n (Joined j) OfSort t is h = cc
      none_shut n (Joined j) OfBuild t is h = some_not (c.sinks n) (join_fed n (joins n (ap is_join_stage is)))
      none_shut n (Joined j) OfProbe t is h = some_not (c.probers n) (join_passed n (joins n (ap is_join_stage is)))

      starts : IsNoted b c nothing [] ways []
      starts = record {
        recorded = record {
          stands = empty_journals b.stages;
          taken = λ n e p lt. absurd (not-both (ran n) e (source_unrun n (supply_some n p (stage n) lt)));
          untaken = λ n e. refl;
          flushed = λ n j is f e p lt. absurd (not-both (ran n) e (join_unrun n j is));
          unflushed = λ n e. refl;
          sides = λ n side t is. sym (none_shut n (stage n) side t refl is);
        };
        sorts = λ n sort fed. (let some = sort_begun n sort in omega (arith, some));
        joins = λ n join fed. join_passed n join;
        fresh = fresh plan root good;
      }

pub boards : PlansHaveBoards
boards = board

pub journals_start : JournalsStart
journals_start plan root setting w c good ok start = starts plan root setting good ok w c start
