-- Where pipelines stand for the branches of a plan, the first can begin.
use Rattle.std.proofs.Common.{◌≡◌, ◌<◌, Bool, List, cond, length, refl, sym, ap, subst, arith, Result, Ok, Err, IfOk}
use Rattle.std.specs.List.{AllByRecursion}
use Rattle.pipe_schema.specs.Rows.{Row}
use Rattle.pipe_plan.specs.PlanRows.{rows_of}
use Rattle.pipe_driver.specs.Shape.{below_sink}
use Rattle.pipe_driver.specs.Meaning.{tree_of}
use Rattle.pipe_driver.specs.Legs.{Way, ways_of}
use Rattle.pipe_driver.specs.Ways.{IsSoundMeaning}
use Rattle.pipe_driver.proofs.Tests.{eq-true}
use Rattle.pipe_driver.proofs.Sounds.{are_sound}
use Rattle.pipe_driver.proofs.Runnable.{can_run}
use Rattle.pipe_driver.proofs.Numbered.{told_apart}
use Rattle.pipe_driver.specs.declared.pipe_line.PipeLine.{PipeLine}
use Rattle.pipe_driver.specs.declared.run.Run.{Run}
use Rattle.pipe_driver.specs.Words.{RunnerWords}
use Rattle.pipe_driver.specs.State.{IsStart, IsBetween}
use Rattle.pipe_driver.specs.Lines.{ways_as, counts_as, HasLegs}
use Rattle.pipe_driver.specs.Runs.{Between, parked_ways}
use Rattle.pipe_driver.specs.Plans.{Ask, task_of, at_start, StandFor}
use Rattle.pipe_driver.proofs.Starts.{starts}

pub if_ok : {T E : Type 0} {A B : T → Type 0} (r : Result T E) → ((x : T) → A x → B x) → IfOk r A → IfOk r B
if_ok (Ok x) f h = f x h
if_ok (Err e) f h = tt

-- the rows of the node below the root's sink
pub root_rows : (ask : Ask) → (task_of ask).m.below (task_of ask).m.ordered ≡ rows_of ask.plan ask.root
root_rows ask =
    let t = tree_of ask.plan ask.root in
    let o = length ask.plan.nodes in
    let f : Bool → List Row = λ c. cond c (t.rows t.root) (t.rows (below_sink (t.kind o))) in
    ap f (eq-true o o refl)

pub stand_between : {R S P : Type 0} (r : RunnerWords R S P) (ask : Ask) (run : Run R S P) (ps : List (PipeLine S P)) → StandFor r ask run ps → Between r (task_of ask) run ps
stand_between r ask run ps is =
    let k = task_of ask in
    let ws = ways_of ask.plan ask.root in
    let start : IsStart at_start (counts_as k run) ws = record { there = λ x. refl; gained = λ j. refl; slot = λ j. refl; sinks = is.sinks; probers = is.probers } in
    let begins = starts k.m at_start (counts_as k run) ws (are_sound ask.plan ask.root is.well) (can_run ask.plan ask.root is.well) start in
    let Q : List Way → Type 0 = λ qs. IsBetween k.m at_start (counts_as k run) qs ws in
    let P : List Way → Type 0 = IsBetween k.m at_start (counts_as k run) (parked_ways k run) in
    record {
      w = at_start;
      fits = is.fits;
      between = subst P (sym is.ways) (subst Q (sym (ap (ways_as k.m.ordered) is.parked)) begins);
      idle = is.idle;
      lines = record {
        numbered = record { apart = λ s t lt e. told_apart ask.plan ask.root s t (let l = is.many in omega arith) e };
        parked = subst (AllByRecursion (HasLegs r k)) (sym is.parked) tt;
        todo = is.lines;
      };
    }

pub stand_open : {R S P : Type 0} (r : RunnerWords R S P) (ask : Ask) (run : Run R S P) (ps : List (PipeLine S P)) → StandFor r ask run ps → 0 < (counts_as (task_of ask) run).sinks (task_of ask).m.ordered
stand_open r ask run ps is =
    let can = can_run ask.plan ask.root is.well in
    let fed = can.root in
    let e = is.sinks (length ask.plan.nodes) in omega arith

pub sound_of : {R S P : Type 0} (r : RunnerWords R S P) (ask : Ask) (run : Run R S P) (ps : List (PipeLine S P)) → StandFor r ask run ps → IsSoundMeaning (task_of ask).m
sound_of r ask run ps is = are_sound ask.plan ask.root is.well
