-- What is put together of what is lent to a run stands for the branches of the plan.
use Rattle.std.proofs.Common.{◌≡◌, ℕ, suc, ◌+◌, ◌≤◌, ◌^◌, ◌==◌, cond, List, [], length, refl, sym, ap, subst, ◌∙◌, arith}
use Rattle.pipe_rows.specs.Partition.{IsPartitionCount}
use Rattle.pipe_ops.specs.declared.context.PExecutionContext.{PExecutionContext}
use Rattle.pipe_driver.specs.Numbers.{sink_number}
use Rattle.pipe_driver.specs.Ways.{one, passes}
use Rattle.pipe_driver.proofs.Sounds.{are_sound}
use Rattle.pipe_driver.proofs.Tests.{by_test, eq-is, eq-true, eq-not, eq-false}
use Rattle.pipe_driver.specs.declared.sink_counts.SinkCounts.{SinkCounts}
use Rattle.pipe_driver.specs.Lines.{ways_as}
use Rattle.pipe_driver.specs.Plans.{Ask, task_of, at_start, StandFor}
use Rattle.pipe_driver.specs.Tables.{number_at}
use Rattle.pipe_slots.specs.declared.slots.Slots.{Slots}
use Rattle.pipe_engine.specs.Drives.{Line, LineRun}
use Rattle.pipe_engine.specs.Engine.{engine_words, IsIdle, NoneOpen}
use Rattle.pipe_engine.specs.Left.{Shares, SharedFit}
use Rattle.pipe_engine.specs.Lent.{AreLent}
use Rattle.pipe_engine.specs.Stands.{Settings}
use Rattle.pipe_engine.proofs.Sharing.{fits_shared, fits_unused}

-- one more of a number
pub one_more : (old new : List ℕ) (a : ℕ) → ((k : ℕ) → number_at new k ≡ cond (k == a) (number_at old a + 1) (number_at old k)) → (k : ℕ) → number_at new k ≡ number_at old k + one (a == k)
one_more old new a is k =
    by_test (number_at new k ≡ number_at old k + one (a == k)) (k == a)
    (λ e. (
    let here = is k ∙ ap (λ b. cond b (number_at old a + 1) (number_at old k)) e in
    let same = ap (number_at old) (eq-is k a e) in
    let counted = ap one (eq-true a k (sym (eq-is k a e))) in
    omega arith))
    (λ e. (
    let here = is k ∙ ap (λ b. cond b (number_at old a + 1) (number_at old k)) e in
    let counted = ap one (eq-false a k (λ f. eq-not k a e (sym f))) in
    omega arith))

-- ---- there is one number of partitions

no-more : (workers a b : ℕ) → IsPartitionCount workers a → IsPartitionCount workers b → a ≤ b
no-more workers a b h k = subst (λ p. a ≤ p) (sym k.is_power) (h.smallest k.exponent (subst (λ p. workers ≤ p) k.is_power k.enough))

pub same_parts : (workers a b : ℕ) → IsPartitionCount workers a → IsPartitionCount workers b → a ≡ b
same_parts workers a b h k = let low = no-more workers a b h k in let high = no-more workers b a k h in omega (arith, low, high)

-- ---- all of it

pub assembled : {H : Type 0} (hash_of : H → List ℕ → ℕ) (x : Settings H) (ask : Ask) (context : PExecutionContext) (shared : Slots H) (counts : SinkCounts) (lines : List (Line H)) (run : LineRun H) (nodes parts : ℕ)
    → AreLent hash_of x ask context shared counts lines → nodes ≡ length shared.slots.items → run.runner.context ≡ context → run.runner.nodes ≡ nodes → run.runner.parts ≡ parts → IsPartitionCount context.workers parts → Shares shared run.runner → IsIdle run.runner → NoneOpen run.runner → length run.runner.sinks.items ≡ suc nodes
    → run.parked.items ≡ [] → run.counts ≡ counts → ((ordered n : ℕ) → number_at run.probers.left.items n ≡ passes n (ways_as ordered lines)) → StandFor (engine_words hash_of x) ask run lines
assembled hash_of x ask context shared counts lines run nodes parts lent as_many same nodes_are parts_are power has idle shut places parked counts_are probers =
    let k = task_of ask in
    let o = length ask.plan.nodes in
    let some = context.workers_in.0 in
    let many : context.workers ≤ 2 ^ 31 = (let most = context.workers_in.1 in omega (arith, most)) in
    let C : PExecutionContext → Type 0 = λ z. SharedFit x k.m z shared at_start in
    record {
      well = lent.well;
      ways = lent.ways;
      lines = lent.are;
      fits = fits_shared hash_of x k.m at_start shared run.runner has idle shut (subst C (sym same) (fits_unused x k.m context shared o refl lent.unfilled)) (are_sound ask.plan ask.root lent.well)
          (parts_are ∙ same_parts context.workers parts x.parts power lent.parts)
          (let enough = lent.parts.enough in omega (arith, enough, some))
          (let low = lent.parts.smallest 31 many in omega (arith, low))
          (nodes_are ∙ as_many ∙ lent.unfilled.long) (places ∙ ap suc (sym nodes_are));
      idle = idle;
      parked = parked;
      many = ap (λ c. length c.left.items) counts_are ∙ lent.feeds_are.many;
      sinks = λ s. ap (λ c. number_at c.left.items (sink_number ask.plan ask.root s)) counts_are ∙ lent.feeds_are.each s;
      probers = λ n. probers o n ∙ ap (passes n) lent.ways;
    }
