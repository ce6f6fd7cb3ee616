-- The branches that are left of a plan can run, and what a front part of them leaves is so again.
use Rattle.std.proofs.Common.{◌≡◌, ℕ, zero, suc, ◌+◌, ◌≤◌, ◌^◌, List, [], ◌∷◌, ◌++◌, length, take, drop, Option, refl, sym, ap, subst, ◌∙◌, arith, inl, inr, append_assoc}
use Rattle.std.specs.List.{AllByRecursion}
use Rattle.pipe_frame.specs.Frame.{Table}
use Rattle.pipe_schema.specs.Rows.{Row}
use Rattle.pipe_schema.proofs.Weights.{SameBag, total-append}
use Rattle.pipe_rows.specs.Partition.{IsPartitionCount}
use Rattle.pipe_ops.specs.declared.context.PExecutionContext.{PExecutionContext}
use Rattle.pipe_driver.specs.Legs.{Way, ways_of}
use Rattle.pipe_driver.specs.Meaning.{Meaning, Place, OutOf, Into, due}
use Rattle.pipe_driver.specs.Numbers.{sink_number}
use Rattle.pipe_driver.specs.Ways.{way_to, feeds, passes, brought, own_brings}
use Rattle.pipe_driver.specs.declared.pipe_line.PipeLine.{PipeLine}
use Rattle.pipe_driver.specs.declared.sink_counts.SinkCounts.{SinkCounts}
use Rattle.pipe_driver.specs.Fronts.{HasRunFront}
use Rattle.pipe_driver.specs.Lines.{Task, AreNumbered, ways_as, counts_as, HasLegs, IsLine}
use Rattle.pipe_driver.specs.Plans.{Ask, task_of, at_start}
use Rattle.pipe_driver.specs.Runs.{Between}
use Rattle.pipe_driver.specs.State.{World, Counts, IsBetween, IsOpen, IsStart, kept, pending, gained_brings}
use Rattle.pipe_driver.specs.Tables.{number_at}
use Rattle.pipe_driver.proofs.Numbered.{told_apart}
use Rattle.pipe_driver.proofs.Runnable.{can_run}
use Rattle.pipe_driver.proofs.Sounds.{are_sound}
use Rattle.pipe_driver.proofs.Starts.{starts}
use Rattle.pipe_driver.proofs.Tests.{some-left}
use Rattle.pipe_slots.specs.declared.slots.Slots.{Slots}
use Rattle.pipe_engine.specs.Drives.{Line, LineRun}
use Rattle.pipe_engine.specs.Engine.{engine_words, IsIdle, NoneOpen}
use Rattle.pipe_engine.specs.Left.{Shares, SharedFit, AreLeft, counts_left}
use Rattle.pipe_engine.specs.Lent.{AreLent}
use Rattle.pipe_engine.specs.Stands.{Settings}
use Rattle.pipe_engine.proofs.Lending.{same_parts}
use Rattle.pipe_engine.proofs.Sharing.{fits_shared, shared_fits, fits_unused}

-- ---- the same counts

pending_same : (old new : ℕ → ℕ) (f : ℕ → List Row) (js : List ℕ) → ((n : ℕ) → new n ≡ old n) → pending new f js ≡ pending old f js
pending_same old new f [] same = refl
pending_same old new f (j ∷ js) same = ap (λ n. kept n (f j) ++ pending new f js) (same j) ∙ ap (λ rows. kept (old j) (f j) ++ rows) (pending_same old new f js same)

open_as : (m : Meaning) (c d : Counts) (x : Place) → ((s : ℕ) → d.sinks s ≡ c.sinks s) → IsOpen m d x → IsOpen m c x
open_as m c d (OutOf t) same h = h
open_as m c d (Into s) same h = let e = same s in omega (arith, h, e)

pub between_as : (m : Meaning) (w : World) (c d : Counts) (todo : List Way) → ((s : ℕ) → d.sinks s ≡ c.sinks s) → ((n : ℕ) → d.probers n ≡ c.probers n) → IsBetween m w c [] todo → IsBetween m w d [] todo
between_as m w c d todo sinks probers is = record {
  left = record {
    sinks = λ s. sinks s ∙ is.left.sinks s;
    probers = λ n. probers n ∙ is.left.probers n;
    rows = λ x is_open. (
        let own = pending_same c.probers d.probers (own_brings m x) m.joins probers in
        let gained = pending_same c.probers d.probers (gained_brings m w x) m.joins probers in
        let P : List Row → Type 0 = λ z. SameBag (w.there x ++ ((brought m x [] ++ brought m x todo) ++ z)) (due m x ++ pending d.probers (gained_brings m w x) m.joins) in
        let Q : List Row → Type 0 = λ z. SameBag (w.there x ++ ((brought m x [] ++ brought m x todo) ++ pending c.probers (own_brings m x) m.joins)) (due m x ++ z) in
        subst P (sym own) (subst Q (sym gained) (is.left.rows x (open_as m c d x sinks is_open))));
    empty = λ j some. is.left.empty j (let e = sinks j in omega (arith, some, e));
    built = λ j but join passed none. is.left.built j but join passed (sym (sinks j) ∙ none);
    once = is.left.once;
    ways = is.left.ways;
    order = is.left.order;
  };
  waiting = tt;
}

-- ---- parts of lists

pub parted : {A : Type 0} (n : ℕ) (xs : List A) → take n xs ++ drop n xs ≡ xs
parted zero [] = refl
parted zero (x ∷ xs) = refl
parted (suc n) [] = refl
parted (suc n) (x ∷ xs) = ap (λ l. x ∷ l) (parted n xs)

pub dropped_ways : {S P : Type 0} (o n : ℕ) (ps : List (PipeLine S P)) → ways_as o (drop n ps) ≡ drop n (ways_as o ps)
dropped_ways o zero [] = refl
dropped_ways o zero (p ∷ ps) = refl
dropped_ways o (suc n) [] = refl
dropped_ways o (suc n) (p ∷ ps) = dropped_ways o n ps

all_dropped : {A : Type 0} (P : A → Type 0) (n : ℕ) (xs : List A) → AllByRecursion P xs → AllByRecursion P (drop n xs)
all_dropped P zero [] are = tt
all_dropped P zero (x ∷ xs) are = are
all_dropped P (suc n) [] are = tt
all_dropped P (suc n) (x ∷ xs) are = all_dropped P n xs are.1

module _ {H : Type 0} (hash_of : H → List ℕ → ℕ) (x : Settings H) (ask : Ask) (context : PExecutionContext) where
  abbrev k : Task
  k = task_of ask

  abbrev size : ℕ
  size = length ask.plan.nodes

  -- ---- before the first of them

  pub all_left : (slots : Slots H) (counts : SinkCounts) (lines : List (Line H)) → AreLent hash_of x ask context slots counts lines → AreLeft hash_of x ask context slots counts lines
  all_left slots counts lines lent =
      let ws = ways_of ask.plan ask.root in
      let c = counts_left ask counts (ways_as size lines) in
      let start : IsStart at_start c ws = record { there = λ y. refl; gained = λ j. refl; slot = λ j. refl; sinks = lent.feeds_are.each; probers = λ n. ap (passes n) lent.ways } in
      let begins = starts k.m at_start c ws (are_sound ask.plan ask.root lent.well) (can_run ask.plan ask.root lent.well) start in
      let P : List Way → Type 0 = IsBetween k.m at_start c [] in
      record {
        well = lent.well;
        ran = [];
        ways = lent.ways;
        closed = λ s some. absurd (omega (arith, some));
        are = lent.are;
        numbered = record { apart = λ s t lt e. told_apart ask.plan ask.root s t (let l = lent.feeds_are.many in omega (arith, lt, l)) e };
        parts = lent.parts;
        world = at_start;
        between = subst P (sym lent.ways) begins;
        fits = fits_unused x k.m context slots size refl lent.unfilled;
      }

  -- ---- what runs them

  pub left_between : (shared : Slots H) (counts : SinkCounts) (lines : List (Line H)) (run : LineRun H) (nodes parts : ℕ) → AreLeft hash_of x ask context shared counts lines → nodes ≡ length shared.slots.items
      → run.runner.context ≡ context → run.runner.nodes ≡ nodes → run.runner.parts ≡ parts → IsPartitionCount context.workers parts → Shares shared run.runner → IsIdle run.runner → NoneOpen run.runner → length run.runner.sinks.items ≡ suc nodes → run.parked.items ≡ [] → run.counts ≡ counts
      → ((ordered n : ℕ) → number_at run.probers.left.items n ≡ passes n (ways_as ordered lines)) → Between (engine_words hash_of x) k run lines
  left_between shared counts lines run nodes parts left many same nodes_are parts_are power has idle shut places parked counts_are probers =
      let ways = ways_as size lines in
      let some = context.workers_in.0 in
      let few : context.workers ≤ 2 ^ 31 = (let most = context.workers_in.1 in omega (arith, most)) in
      let C : PExecutionContext → Type 0 = λ z. SharedFit x k.m z shared left.world in
      let Q : List Way → Type 0 = λ qs. IsBetween k.m left.world (counts_as k run) qs ways in
      let N : SinkCounts → Type 0 = λ z. AreNumbered k z.left.items in
      record {
        w = left.world;
        fits = fits_shared hash_of x k.m left.world shared run.runner has idle shut (subst C (sym same) left.fits) (are_sound ask.plan ask.root left.well)
            (parts_are ∙ same_parts context.workers parts x.parts power left.parts)
            (let enough = left.parts.enough in omega (arith, enough, some))
            (let low = left.parts.smallest 31 few in omega (arith, low))
            (nodes_are ∙ many ∙ left.fits.long) (places ∙ ap suc (sym nodes_are));
        between = subst Q (sym (ap (ways_as size) parked))
            (between_as k.m left.world (counts_left ask counts ways) (counts_as k run) ways (λ s. ap (λ (z : SinkCounts). number_at z.left.items (sink_number ask.plan ask.root s)) counts_are) (probers size) left.between);
        idle = idle;
        lines = record {
          numbered = subst N (sym counts_are) left.numbered;
          parked = subst (AllByRecursion (HasLegs (engine_words hash_of x) k)) (sym parked) tt;
          todo = left.are;
        };
      }

  -- ---- behind a front part

  fed_apart : (s : ℕ) (ws : List Way) (n : ℕ) → feeds s ws ≡ feeds s (take n ws) + feeds s (drop n ws)
  fed_apart s ws n = ap (feeds s) (sym (parted n ws)) ∙ total-append (way_to s) (take n ws) (drop n ws)

  pub left_after : (shared shared' : Slots H) (counts counts' : SinkCounts) (all later : List (Line H)) (old new : LineRun H) (answer : Option Table) → AreLeft hash_of x ask context shared counts all
      → HasRunFront (engine_words hash_of x) k all old new later answer → new.runner.context ≡ context → Shares shared' new.runner → NoneOpen new.runner → counts' ≡ new.counts → AreLeft hash_of x ask context shared' counts' later
  left_after shared shared' counts counts' all later old new answer left ran same has shut counts_are =
      let ws = ways_as size all in
      let front = take ran.count ws in
      let rest : ways_as size later ≡ drop ran.count ws = ap (ways_as size) ran.later_is ∙ dropped_ways size ran.count all in
      let I : List (Line H) → Type 0 = AllByRecursion (IsLine (engine_words hash_of x) k) in
      let C : PExecutionContext → Type 0 = λ z. SharedFit x k.m z shared' ran.between.w in
      let Q : List Way → Type 0 = λ qs. IsBetween k.m ran.between.w (counts_as k new) qs (ways_as size later) in
      let N : SinkCounts → Type 0 = λ z. AreNumbered k z.left.items in
      let between = subst Q (ap (ways_as size) ran.parked) ran.between.between in
      record {
        well = left.well;
        ran = left.ran ++ front;
        ways = append_assoc left.ran front (ways_as size later) ∙ ap (λ l. left.ran ++ l) (ap (λ l. front ++ l) rest ∙ parted ran.count ws) ∙ left.ways;
        closed = λ s some. (
            let a = total-append (way_to s) left.ran front in
            let b = fed_apart s ws ran.count in
            let c = ap (feeds s) rest in
            elim (some-left (feeds s left.ran)) [
              | inr l ↦ (let z = left.closed s l in omega (arith, a, b, c, z))
              | inl z ↦ ran.closed s (omega (arith, a, some, z))
            ]);
        are = subst I (sym ran.later_is) (all_dropped (IsLine (engine_words hash_of x) k) ran.count all left.are);
        numbered = subst N (sym counts_are) ran.between.lines.numbered;
        parts = left.parts;
        world = ran.between.w;
        between = between_as k.m ran.between.w (counts_as k new) (counts_left ask counts' (ways_as size later)) (ways_as size later)
            (λ s. ap (λ (z : SinkCounts). number_at z.left.items (sink_number ask.plan ask.root s)) counts_are)
            (λ n. (let p = between.left.probers n in omega (arith, p))) between;
        fits = subst C same (shared_fits hash_of x k.m ran.between.w shared' new.runner has ran.between.idle shut ran.between.fits);
      }
