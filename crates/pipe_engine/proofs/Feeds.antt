-- A leg is counted at its sink.
use Rattle.std.proofs.Common.{◌≡◌, ℕ, zero, suc, ◌+◌, ◌<◌, ◌==◌, ◌⊎◌, inl, inr, List, [], ◌∷◌, length, refl, sym, ap, ◌∙◌, arith}
use Rattle.pipe_driver.specs.declared.branch.SinkAt.{SinkAt}
use Rattle.pipe_driver.specs.Ways.{one, feeds, IsSoundMeaning}
use Rattle.pipe_driver.proofs.Tests.{by_test, eq-is, eq-true, eq-not}
use Rattle.pipe_driver.specs.declared.pipe_line.PipeLine.{PipeLine}
use Rattle.pipe_driver.specs.declared.run.Run.{Run}
use Rattle.pipe_driver.specs.declared.run.Passing.{Passing}
use Rattle.pipe_driver.specs.declared.sink_counts.SinkCounts.{SinkCounts}
use Rattle.pipe_driver.specs.Words.{RunnerWords}
use Rattle.pipe_driver.specs.Tables.{number_at}
use Rattle.pipe_driver.specs.State.{IsLowered}
use Rattle.pipe_driver.specs.Runner.{EndsLeg}
use Rattle.pipe_driver.specs.Lines.{Task, AreNumbered, ways_as, counts_as, steps_left}
use Rattle.pipe_driver.specs.Runs.{waits_at, parked_ways, Passes, sink_of, HasLed, HasRun}
use Rattle.pipe_driver.proofs.Counting.{counted}
use Rattle.pipe_driver.proofs.Drives.{run_with, Lowered, chosen, other}

pub positive_in : (xs : List ℕ) (n : ℕ) → 0 < number_at xs n → n < length xs
positive_in [] n h = absurd (omega arith)
positive_in (x ∷ xs) zero h = omega arith
positive_in (x ∷ xs) (suc n) h = let r = positive_in xs n h in omega arith

-- what is counted at a sink
pub sink_some : {R S P : Type 0} (r : RunnerWords R S P) (k : Task) (run : Run R S P) (at : SinkAt) (count : ℕ) (todo : List (PipeLine S P)) → Passes r k run [] at todo → count ≡ k.number (sink_of k at) → 0 < number_at run.counts.left.items count
sink_some r k run at count todo is e =
    let s = sink_of k at in
    let a = is.passing.left.sinks s in
    let t : one (s == s) ≡ 1 = ap one (eq-true s s refl) in
    let b = ap (number_at run.counts.left.items) e in omega arith

numbered_as : (k : Task) (old new : List ℕ) → length new ≡ length old → AreNumbered k old → AreNumbered k new
numbered_as k old new e is = record { apart = λ s t lt same. is.apart s t (omega arith) same }

pub sink_lowered : (k : Task) (s count left : ℕ) (old new : List ℕ) → AreNumbered k old → count ≡ k.number s → 0 < number_at old count → Lowered count left old new → IsLowered s (λ t. number_at old (k.number t)) (λ t. number_at new (k.number t))
sink_lowered k s count left old new numbered e some low =
    let there = positive_in old count some in
    let at_s : number_at new (k.number s) ≡ left = chosen (k.number s) count (number_at new (k.number s)) left (number_at old (k.number s)) (low.all (k.number s)) (sym e) in
    let was : number_at old (k.number s) ≡ left + 1 = ap (number_at old) (sym e) ∙ low.here in
    record {
      here = omega arith;
      others = λ t ne. other (k.number t) count (number_at new (k.number t)) left (number_at old (k.number t)) (low.all (k.number t)) (λ same. ne (numbered.apart s t (omega arith) (same ∙ e)));
    }

pub has_run : {R S P : Type 0} (r : RunnerWords R S P) (k : Task) (p : PipeLine S P) (old led mid : Run R S P) (runner : R) (counts : SinkCounts) (todo : List (PipeLine S P)) (leg : Passing) (left : ℕ)
    → IsSoundMeaning k.m → HasLed r k p old led todo leg → Passes r k mid [] leg.at todo → mid.parked ≡ led.parked → mid.counts ≡ led.counts → EndsLeg (r.fits mid.runner) (r.fits runner) (r.before mid.runner) (r.idle runner) (r.holds runner)
    → length counts.left.items ≡ length mid.counts.left.items → Lowered leg.count left mid.counts.left.items counts.left.items
    → HasRun r k p old (run_with runner mid.parked counts mid.probers) todo (record { at = leg.at; count = leg.count; left = left })
has_run r k p old led mid runner counts todo leg left sound has is parked same ends long low =
    let s = sink_of k leg.at in
    let some = sink_some r k mid leg.at leg.count todo is has.number in
    let lowered = sink_lowered k s leg.count left mid.counts.left.items counts.left.items is.lines.numbered has.number some low in
    let did = ends k.m is.w leg.at is.fits is.before in
    let ways = ap (λ v. ways_as k.m.ordered v.items) parked in
    record {
      feeds = record {
        w = is.w;
        fits = did.0;
        fed = counted k.m is.w (counts_as k mid) (λ t. number_at counts.left.items (k.number t)) s (parked_ways k mid) (ways_as k.m.ordered todo) sound is.passing lowered;
        idle = did.1;
        holds = did.2;
        empty = is.empty;
        lines = record { numbered = numbered_as k mid.counts.left.items counts.left.items long is.lines.numbered; parked = is.lines.parked; todo = is.lines.todo };
      };
      left = chosen leg.count leg.count (number_at counts.left.items leg.count) left (number_at mid.counts.left.items leg.count) (low.all leg.count) refl;
      at = has.at;
      number = has.number;
      moved = record {
        steps = (let a = ap (λ v. steps_left v.items) parked in let b = has.moved.steps in omega arith);
        live = λ t. (let a = ap (feeds t) ways in let b = has.moved.live t in omega arith);
        waits = λ n. (let a = ap (waits_at n) ways in let b = has.moved.waits n in omega arith);
      };
      root = λ none. by_test ((number_at old.counts.left.items (k.number k.m.ordered) ≡ 0) ⊎ (s ≡ k.m.ordered)) (k.m.ordered == s)
          (λ e. inr (sym (eq-is k.m.ordered s e)))
          (λ e. inl (ap (λ c. number_at c.left.items (k.number k.m.ordered)) (sym (same ∙ has.counts)) ∙ sym (lowered.others k.m.ordered (eq-not k.m.ordered s e)) ∙ none));
    }
