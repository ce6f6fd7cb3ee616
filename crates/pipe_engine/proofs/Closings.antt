-- A sink is finished after the last leg that feeds it.
use Rattle.std.proofs.Common.{◌≡◌, ℕ, List, [], ◌∷◌, ◌++◌, true, refl, sym, ap, subst, ◌∙◌, arith, Some}
use Rattle.std.specs.List.{AllByRecursion}
use Rattle.std.specs.Global.{Vec}
use Rattle.pipe_frame.specs.Frame.{Table}
use Rattle.pipe_schema.proofs.Weights.{SameBag, total-append}
use Rattle.pipe_ops.specs.declared.sink.FinalizedSink.{FinalizedSink}
use Rattle.pipe_ops.specs.declared.sink.FinalizedSink.TheVariants.{Finished, Operator, Source}
use Rattle.pipe_driver.specs.declared.branch.SinkAt.{SinkAt}
use Rattle.pipe_driver.specs.declared.branch.SinkAt.TheVariants as at
use Rattle.pipe_driver.specs.Legs.{Way}
use Rattle.pipe_driver.specs.Ways.{way_to, feeds, IsSinkOf, IsSoundMeaning}
use Rattle.pipe_driver.proofs.Tests.{all-append}
use Rattle.pipe_driver.specs.declared.pipe_line.PipeLine.{PipeLine}
use Rattle.pipe_driver.specs.declared.run.Run.{Run}
use Rattle.pipe_driver.specs.declared.run.Next.TheVariants.{GoOn}
use Rattle.pipe_driver.specs.Words.{RunnerWords}
use Rattle.pipe_driver.specs.Tables.{number_at}
use Rattle.pipe_driver.specs.State.{IsBuilt, IsBetween, TakesOut, BeginsElsewhere, is_sink}
use Rattle.pipe_driver.specs.Runner.{Becomes, Closes, Finalizes}
use Rattle.pipe_driver.specs.Lines.{Task, way_as, ways_as, counts_as, HasLegs, legs_left, steps_left}
use Rattle.pipe_driver.specs.Runs.{node_of, Unparks, StartsElsewhere, waits_here, waits_at, HasLines, parked_ways, Between, Feeds, sink_of, IsNext}
use Rattle.pipe_driver.proofs.Closed.{closes, resumes, no_sort_elsewhere}
use Rattle.pipe_driver.proofs.Drives.{run_with, ways_append}

none_left : {R S P : Type 0} (k : Task) (run : Run R S P) (a : SinkAt) (count : ℕ) → count ≡ k.number (sink_of k a) → number_at run.counts.left.items count ≡ 0 → (counts_as k run).sinks (sink_of k a) ≡ 0
none_left k run a count e none = sym (ap (number_at run.counts.left.items) e) ∙ none

pub done_with : {R S P : Type 0} (r : RunnerWords R S P) (k : Task) (old : Run R S P) (runner : R) (a : SinkAt) (count : ℕ) (result : FinalizedSink (Unit {0}) S) (todo : List (PipeLine S P)) → (is : Feeds r k old a todo)
    → number_at old.counts.left.items count ≡ 0 → IsSinkOf k.m (sink_of k a) a → count ≡ k.number (sink_of k a) → Finalizes r.brings a (r.fits old.runner) (r.fits runner) result → Becomes (r.fits runner k.m) (Closes r.brings k.m is.w a result)
done_with r k old runner a count result todo is none sink number did = did k.m is.w is.fits sink (is.fed.closed (none_left k old a count number none)) is.empty

same_lines : {R S P : Type 0} (r : RunnerWords R S P) (k : Task) (old : Run R S P) (runner : R) (todo : List (PipeLine S P)) → HasLines r k old todo → HasLines r k (run_with runner old.parked old.counts old.probers) todo
same_lines r k old runner todo is = record { numbered = is.numbered; parked = is.parked; todo = is.todo }

-- a sink for which none waits is closed
closed_as : {R S P : Type 0} (r : RunnerWords R S P) (k : Task) (old : Run R S P) (runner : R) (a : SinkAt) (count : ℕ) (result : FinalizedSink (Unit {0}) S) (todo : List (PipeLine S P)) → (is : Feeds r k old a todo)
    → number_at old.counts.left.items count ≡ 0 → count ≡ k.number (sink_of k a) → (did : Becomes (r.fits runner k.m) (Closes r.brings k.m is.w a result)) → (k.m.is_join (sink_of k a) ≡ true → IsBuilt k.m (sink_of k a) (did.new.slot (sink_of k a)))
    → AllByRecursion (BeginsElsewhere (sink_of k a)) (parked_ways k old) → r.idle runner → Between r k (run_with runner old.parked old.counts old.probers) todo
closed_as r k old runner a count result todo is none number did built apart idle = record {
  w = did.new;
  fits = did.fit;
  between = closes k.m is.w did.new (counts_as k old) (sink_of k a) (parked_ways k old) (ways_as k.m.ordered todo) is.fed (none_left k old a count number none) did.is.closed built apart;
  idle = idle;
  lines = same_lines r k old runner todo is.lines;
}

-- ---- the root

pub close_root : {R S P : Type 0} (r : RunnerWords R S P) (k : Task) (old : Run R S P) (runner : R) (a : SinkAt) (count : ℕ) (frame : Table) (todo : List (PipeLine S P)) → IsSoundMeaning k.m → Feeds r k old a todo
    → number_at old.counts.left.items count ≡ 0 → IsSinkOf k.m (sink_of k a) a → count ≡ k.number (sink_of k a) → Finalizes r.brings a (r.fits old.runner) (r.fits runner) (Finished frame) → r.idle runner
    → Between r k (run_with runner old.parked old.counts old.probers) todo × SameBag frame.rows (k.m.below k.m.ordered) × (old.parked.items ≡ old.parked.items)
close_root r k old runner at.Ordered count frame todo sound is none sink number did idle =
    let d = done_with r k old runner at.Ordered count (Finished frame) todo is none sink number did in (
      closed_as r k old runner at.Ordered count (Finished frame) todo is none number d (λ join. (let l = sound.low_join k.m.ordered join in absurd (omega arith)))
          (no_sort_elsewhere k.m (counts_as k old).sinks (is_sink k.m.ordered) k.m.ordered (ways_as k.m.ordered todo) (parked_ways k old) (λ sort. (let l = sound.low_sort k.m.ordered sort in omega arith)) is.fed.waiting) idle,
      d.is.ends.0,
      refl,
    )
close_root r k old runner (at.Sort n) count frame todo sound is none sink number did idle = absurd (done_with r k old runner (at.Sort n) count (Finished frame) todo is none sink number did).is.ends
close_root r k old runner (at.Build n) count frame todo sound is none sink number did idle = absurd (done_with r k old runner (at.Build n) count (Finished frame) todo is none sink number did).is.ends

-- ---- a build

pub close_build : {R S P : Type 0} (r : RunnerWords R S P) (k : Task) (old : Run R S P) (runner : R) (a : SinkAt) (count : ℕ) (built : Unit {0}) (todo : List (PipeLine S P)) → IsSoundMeaning k.m → Feeds r k old a todo
    → number_at old.counts.left.items count ≡ 0 → IsSinkOf k.m (sink_of k a) a → count ≡ k.number (sink_of k a) → Finalizes r.brings a (r.fits old.runner) (r.fits runner) (Operator built) → r.idle runner
    → Between r k (run_with runner old.parked old.counts old.probers) todo × (old.counts ≡ old.counts) × (sink_of k a ≡ k.m.ordered → ⊥) × (old.parked.items ≡ old.parked.items)
close_build r k old runner at.Ordered count built todo sound is none sink number did idle = absurd (done_with r k old runner at.Ordered count (Operator built) todo is none sink number did).is.ends
close_build r k old runner (at.Sort n) count built todo sound is none sink number did idle = absurd (done_with r k old runner (at.Sort n) count (Operator built) todo is none sink number did).is.ends
close_build r k old runner (at.Build n) count built todo sound is none sink number did idle =
    let d = done_with r k old runner (at.Build n) count (Operator built) todo is none sink number did in (
      closed_as r k old runner (at.Build n) count (Operator built) todo is none number d (λ join. d.is.ends)
          (no_sort_elsewhere k.m (counts_as k old).sinks (is_sink n) n (ways_as k.m.ordered todo) (parked_ways k old) (λ sort. sound.apart n sort sink.1) is.fed.waiting) idle,
      refl,
      (λ e. (let l = sound.low_join n sink.1 in omega arith)),
      refl,
    )

-- ---- a sort

elsewhere_as : {S P : Type 0} (o n : ℕ) (ps : List (PipeLine S P)) → AllByRecursion (StartsElsewhere n) ps → AllByRecursion (BeginsElsewhere n) (ways_as o ps)
elsewhere_as o n [] are = tt
elsewhere_as o n (p ∷ ps) are = (are.0, elsewhere_as o n ps are.1)

pub close_alone : {R S P : Type 0} (r : RunnerWords R S P) (k : Task) (old : Run R S P) (runner : R) (parked : Vec (PipeLine S P)) (a : SinkAt) (count : ℕ) (source : S) (todo : List (PipeLine S P)) → IsSoundMeaning k.m → Feeds r k old a todo
    → number_at old.counts.left.items count ≡ 0 → IsSinkOf k.m (sink_of k a) a → count ≡ k.number (sink_of k a) → Finalizes r.brings a (r.fits old.runner) (r.fits runner) (Source source) → r.idle runner
    → parked.items ≡ old.parked.items → AllByRecursion (StartsElsewhere (node_of a)) parked.items
    → Between r k (run_with runner parked old.counts old.probers) todo × (old.counts ≡ old.counts) × (sink_of k a ≡ k.m.ordered → ⊥) × (parked.items ≡ old.parked.items)
close_alone r k old runner parked at.Ordered count source todo sound is none sink number did idle same apart = absurd (done_with r k old runner at.Ordered count (Source source) todo is none sink number did).is.ends
close_alone r k old runner parked (at.Build n) count source todo sound is none sink number did idle same apart = absurd (done_with r k old runner (at.Build n) count (Source source) todo is none sink number did).is.ends
close_alone r k old runner parked (at.Sort n) count source todo sound is none sink number did idle same apart =
    let o = k.m.ordered in
    let d = done_with r k old runner (at.Sort n) count (Source source) todo is none sink number did in
    let P : List Way → Type 0 = λ ps. AllByRecursion (BeginsElsewhere n) ps in
    let Q : List Way → Type 0 = λ ps. IsBetween k.m d.new (counts_as k old) ps (ways_as o todo) in
    let ways = ap (ways_as o) same in
    let L : List (PipeLine _ _) → Type 0 = AllByRecursion (HasLegs r k) in (
      record {
        w = d.new;
        fits = d.fit;
        between = subst Q (sym ways) (closes k.m is.w d.new (counts_as k old) n (parked_ways k old) (ways_as o todo) is.fed (none_left k old (at.Sort n) count number none) d.is.closed (λ join. absurd (sound.apart n sink.1 join)) (subst P ways (elsewhere_as o n parked.items apart)));
        idle = idle;
        lines = record { numbered = is.lines.numbered; parked = subst L (sym same) is.lines.parked; todo = is.lines.todo };
      },
      refl,
      (λ e. (let l = sound.low_sort n sink.1 in omega arith)),
      same,
    )

pub takes_as : {S P : Type 0} (o n : ℕ) (q : PipeLine S P) (old new : List (PipeLine S P)) → Unparks n q old new → TakesOut n (way_as o q) (ways_as o old) (ways_as o new)
takes_as o n q old new out = record {
  before = ways_as o out.before;
  after = ways_as o out.after;
  was = ap (ways_as o) out.was ∙ ways_append o out.before (q ∷ out.after);
  is = ap (ways_as o) out.is ∙ ways_append o out.before out.after;
  start = out.start;
}

pub all_front : {A : Type 0} (P : A → Type 0) (a b : List A) → AllByRecursion P (a ++ b) → AllByRecursion P a
all_front P [] b h = tt
all_front P (x ∷ a) b h = (h.0, all_front P a b h.1)

pub all_back : {A : Type 0} (P : A → Type 0) (a b : List A) → AllByRecursion P (a ++ b) → AllByRecursion P b
all_back P [] b h = h
all_back P (x ∷ a) b h = all_back P a b h.1

pub close_sort : {R S P : Type 0} (r : RunnerWords R S P) (k : Task) (old : Run R S P) (runner : R) (parked : Vec (PipeLine S P)) (a : SinkAt) (count : ℕ) (source : S) (q : PipeLine S P) (todo : List (PipeLine S P)) → IsSoundMeaning k.m → Feeds r k old a todo
    → number_at old.counts.left.items count ≡ 0 → IsSinkOf k.m (sink_of k a) a → count ≡ k.number (sink_of k a) → Finalizes r.brings a (r.fits old.runner) (r.fits runner) (Source source) → r.idle runner
    → Unparks (node_of a) q old.parked.items parked.items
    → IsNext r k old (run_with runner parked old.counts old.probers) todo (sink_of k a) (GoOn (record { start = q.start; source = Some source; legs = q.legs }))
close_sort r k old runner parked at.Ordered count source q todo sound is none sink number did idle out = absurd (done_with r k old runner at.Ordered count (Source source) todo is none sink number did).is.ends
close_sort r k old runner parked (at.Build n) count source q todo sound is none sink number did idle out = absurd (done_with r k old runner (at.Build n) count (Source source) todo is none sink number did).is.ends
close_sort {S = S} {P = P} r k old runner parked (at.Sort n) count source q todo sound is none sink number did idle out =
    let o = k.m.ordered in
    let d = done_with r k old runner (at.Sort n) count (Source source) todo is none sink number did in
    let takes = takes_as o n q old.parked.items parked.items out in
    let L : List (PipeLine S P) → Type 0 = AllByRecursion (HasLegs r k) in
    let all : AllByRecursion (HasLegs r k) (out.before ++ q ∷ out.after) = subst L out.was is.lines.parked in
    let back = all_back (HasLegs r k) out.before (q ∷ out.after) all in
    let others = all-append (HasLegs r k) out.before out.after (all_front (HasLegs r k) out.before (q ∷ out.after) all) back.1 in
    let T : ℕ → Type 0 = λ i. r.brings source k.m i in (
      record {
        w = d.new;
        fits = d.fit;
        ready = resumes k.m is.w d.new (counts_as k old) n (way_as o q) (parked_ways k old) (ways_as o parked.items) (ways_as o todo) sound sink.1 is.fed (none_left k old (at.Sort n) count number none) d.is.closed takes;
        line = record { legs = back.0; source = subst T (sym out.start) d.is.ends.0 };
        idle = idle;
        lines = record { numbered = is.lines.numbered; parked = subst L (sym out.is) others; todo = is.lines.todo };
      },
      (let a = ap steps_left out.was ∙ total-append legs_left out.before (q ∷ out.after) in
          let b = ap steps_left out.is ∙ total-append legs_left out.before out.after in omega arith),
      refl,
      (λ e. (let l = sound.low_sort n sink.1 in omega arith)),
      (λ t. (let a = ap (feeds t) takes.was ∙ total-append (way_to t) takes.before (way_as o q ∷ takes.after) in
          let b = ap (feeds t) takes.is ∙ total-append (way_to t) takes.before takes.after in omega arith)),
      (λ t. (let a = ap (waits_at t) takes.was ∙ total-append (waits_here t) takes.before (way_as o q ∷ takes.after) in
          let b = ap (waits_at t) takes.is ∙ total-append (waits_here t) takes.before takes.after in omega arith)),
    )
