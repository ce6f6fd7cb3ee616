-- What the driver knows lets each call of what runs legs be made.
use Rattle.std.proofs.Common.{◌≡◌, ℕ, ◌+◌, List, [], ◌∷◌, map, ap, sym, subst, ◌∙◌, Option, Some, arith}
use Rattle.pipe_driver.specs.declared.branch.SinkAt.{SinkAt}
use Rattle.pipe_driver.specs.Legs.{sink_node}
use Rattle.pipe_driver.specs.Ways.{IsSinkOf, IsSoundMeaning}
use Rattle.pipe_driver.specs.declared.pipe_line.Leg.{Leg}
use Rattle.pipe_driver.specs.declared.pipe_line.PipeLine.{PipeLine}
use Rattle.pipe_driver.specs.declared.run.Run.{Run}
use Rattle.pipe_driver.specs.Words.{RunnerWords}
use Rattle.pipe_driver.specs.Tables.{number_at}
use Rattle.pipe_driver.specs.Runner.{MayRunLeg, MayLeave, MaySettle, MayEnd, MayFinish}
use Rattle.pipe_driver.specs.Lines.{Task, leg_as, way_as, ways_as, counts_as, AreLegsOf, SourceHas}
use Rattle.pipe_driver.specs.Runs.{parked_ways, Ready, Passes, Feeds, sink_of}
use Rattle.pipe_driver.proofs.Counting.{seen_all}
use Rattle.pipe_driver.proofs.LegPasses.{leg_tables, leg_there}

pub may_run : {R S P : Type 0} (r : RunnerWords R S P) (k : Task) (p : PipeLine S P) (run : Run R S P) (todo : List (PipeLine S P)) (source : S) (leg : Leg P) (legs : List (Leg P))
    → IsSoundMeaning k.m → Ready r k run p todo → p.source ≡ Some source → p.legs.items ≡ leg ∷ legs → MayRunLeg r k.m run.runner source leg.part
may_run r k p run todo source leg legs sound ready is_source first =
    let m = k.m in
    let o = m.ordered in
    let firsts : (way_as o p).legs ≡ leg_as o leg ∷ map (leg_as o) legs = ap (map (leg_as o)) first in
    let are = leg_there m ready.w (counts_as k run) (way_as o p) (leg_as o leg) (map (leg_as o) legs) (parked_ways k run) (ways_as o todo) ready.ready firsts in
    let T : List (Leg _) → Type 0 = AreLegsOf r k p.start in
    let parts : AreLegsOf r k p.start (leg ∷ legs) = subst T first ready.line.legs in
    let V : Option _ → Type 0 = SourceHas r k p.start in
    record {
      w = ready.w;
      start = p.start;
      leg = leg_as o leg;
      fits = ready.fits;
      stands = parts.0.stands;
      brings = subst V is_source ready.line.source;
      above = are.0.chain;
      above_sink = are.0.chain_sink;
      built = leg_tables m ready.w (counts_as k run) (way_as o p) (leg_as o leg) (map (leg_as o) legs) (parked_ways k run) (ways_as o todo) sound ready.ready firsts;
      idle = ready.idle;
    }

pub may_leave : {R S P : Type 0} (r : RunnerWords R S P) (k : Task) (run : Run R S P) (op : ℕ) (now : List ℕ) (at : SinkAt) (todo : List (PipeLine S P)) → Passes r k run (op ∷ now) at todo → MayLeave r k.m run.runner op
may_leave r k run op now at todo is = record { w = is.w; now = now; at = at; fits = is.fits; before = is.before }

pub may_settle : {R S P : Type 0} (r : RunnerWords R S P) (k : Task) (run : Run R S P) (op left : ℕ) (now : List ℕ) (at : SinkAt) (todo : List (PipeLine S P))
    → IsSoundMeaning k.m → Passes r k run (op ∷ now) at todo → number_at run.probers.left.items op ≡ left + 1 → left ≡ 0 → MaySettle r k.m run.runner op
may_settle r k run op left now at todo sound is here none =
    let last : number_at run.probers.left.items op ≡ 1 = omega arith in
    record {
      w = is.w;
      now = now;
      at = at;
      fits = is.fits;
      before = is.before;
      above = is.passing.alike.0;
      seen = λ join. seen_all k.m is.w (counts_as k run) op now (sink_of k at) (parked_ways k run) (ways_as k.m.ordered todo) sound is.passing join last;
      built = is.passing.tables;
    }

pub may_end : {R S P : Type 0} (r : RunnerWords R S P) (k : Task) (run : Run R S P) (at : SinkAt) (todo : List (PipeLine S P)) → Passes r k run [] at todo → MayEnd r k.m run.runner
may_end r k run at todo is = record { w = is.w; at = at; fits = is.fits; before = is.before }

pub may_finish : {R S P : Type 0} (r : RunnerWords R S P) (k : Task) (run : Run R S P) (at : SinkAt) (count : ℕ) (todo : List (PipeLine S P)) → Feeds r k run at todo → number_at run.counts.left.items count ≡ 0 → IsSinkOf k.m (sink_of k at) at → count ≡ k.number (sink_of k at)
    → MayFinish r k.m run.runner at
may_finish r k run at count todo is none sink number = record {
  w = is.w;
  fits = is.fits;
  idle = is.idle;
  holds = is.holds;
  is_sink = sink;
  rows = is.fed.closed (sym (ap (number_at run.counts.left.items) number) ∙ none);
  waits = is.empty;
}
