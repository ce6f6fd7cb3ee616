-- Counts of sinks fall as legs run, and that of the root's sink where an answer comes.
use Rattle.std.proofs.Common.{◌≡◌, ℕ, ◌+◌, ◌<◌, ◌≤◌, ◌==◌, Bool, cond, List, Option, Some, None, refl, ap, subst, ◌∙◌, arith}
use Rattle.pipe_frame.specs.Frame.{Table}
use Rattle.pipe_ops.specs.declared.sink.FinalizedSink.TheVariants.{Finished}
use Rattle.pipe_driver.specs.declared.branch.SinkAt.{SinkAt}
use Rattle.pipe_driver.specs.declared.branch.SinkAt.TheVariants as at
use Rattle.pipe_driver.specs.Fronts.{newer_of}
use Rattle.pipe_driver.specs.Lines.{Task}
use Rattle.pipe_driver.specs.Runner.{Finalizes}
use Rattle.pipe_driver.specs.Runs.{Feeds, sink_of}
use Rattle.pipe_driver.specs.Tables.{number_at}
use Rattle.pipe_driver.specs.Ways.{IsSinkOf}
use Rattle.pipe_driver.specs.Words.{RunnerWords}
use Rattle.pipe_driver.specs.declared.pipe_line.PipeLine.{PipeLine}
use Rattle.pipe_driver.specs.declared.run.Fed.{Fed}
use Rattle.pipe_driver.specs.declared.run.Run.{Run}
use Rattle.pipe_driver.specs.declared.sink_counts.SinkCounts.{SinkCounts}
use Rattle.pipe_driver.proofs.Tests.{by_test, eq-is, eq-true}
use Rattle.pipe_engine.specs.Drives.{LineRun, HasLowered, LowersRoot}
use Rattle.pipe_engine.specs.Known.{Known}
use Rattle.pipe_engine.proofs.Mays.{may_finish}

pub lowered_by : (old mid new : SinkCounts) (fed : Fed) (left : ℕ) → mid ≡ old → number_at mid.left.items fed.count ≡ left + 1 → ((k : ℕ) → number_at new.left.items k ≡ cond (k == fed.count) left (number_at mid.left.items k)) → HasLowered fed old new
lowered_by old mid new fed left same here all =
    let n = fed.count in
    let choose : ℕ → Bool → ℕ = λ k b. cond b left (number_at mid.left.items k) in
    let M : SinkCounts → Type 0 = λ z. HasLowered fed z new in
    subst M same (record {
      here = (let there = all n ∙ ap (choose n) (eq-true n n refl) in omega (arith, here, there));
      none_rose = λ k. by_test (number_at new.left.items k ≤ number_at mid.left.items k) (k == n)
          (λ e. (let there = all k ∙ ap (choose k) e in let at_n = ap (number_at mid.left.items) (eq-is k n e) in omega (arith, here, there, at_n)))
          (λ e. (let there = all k ∙ ap (choose k) e in omega (arith, there)));
      others = λ k ne. all k ∙ ap (choose k) ne;
    })

-- what ends as a frame is the root's sink
pub closed_root : {R S P : Type 0} (r : RunnerWords R S P) (k : Task) (run : Run R S P) (runner : R) (a : SinkAt) (count : ℕ) (frame : Table) (todo : List (PipeLine S P)) → Feeds r k run a todo → number_at run.counts.left.items count ≡ 0 → IsSinkOf k.m (sink_of k a) a → count ≡ k.number (sink_of k a)
    → Finalizes r.brings a (r.fits run.runner) (r.fits runner) (Finished frame) → a ≡ at.Ordered
closed_root r k run runner at.Ordered count frame todo feeds none sink number did = refl
closed_root r k run runner (at.Sort n) count frame todo feeds none sink number did =
    let may = may_finish r k run (at.Sort n) count todo feeds none sink number in
    absurd (did k.m may.w may.fits may.is_sink may.rows may.waits).is.ends
closed_root r k run runner (at.Build n) count frame todo feeds none sink number did =
    let may = may_finish r k run (at.Build n) count todo feeds none sink number in
    absurd (did k.m may.w may.fits may.is_sink may.rows may.waits).is.ends

-- the newer answer
pub newer_lowers : {H : Type 0} (k : Known H) (old mid new : LineRun H) (was more : Option Table) → ((n : ℕ) → number_at mid.counts.left.items n ≤ number_at old.counts.left.items n) → ((n : ℕ) → number_at new.counts.left.items n ≤ number_at mid.counts.left.items n)
    → LowersRoot old mid was k → LowersRoot mid new more k → LowersRoot old new (newer_of more was) k
newer_lowers k old mid new None None first then lowered more = tt
newer_lowers k old mid new (Some frame) None first then lowered more = (let fell = then (k.task.number k.task.m.ordered) in omega (arith, lowered, fell))
newer_lowers k old mid new was (Some frame) first then lowered more = (let fell = first (k.task.number k.task.m.ordered) in omega (arith, more, fell))
