-- Which sinks are open: those that were fed and that legs still feed.
use Rattle.std.proofs.Common.{◌≡◌, ℕ, zero, suc, ◌+◌, ◌<◌, ◌==◌, Bool, true, false, cond, List, [], ◌∷◌, ◌++◌, length, Option, Some, None, sym, ap, subst, ◌∙◌, inl, inr, arith}
use Rattle.std.specs.Global.{Vec}
use Rattle.pipe_driver.specs.declared.branch.SinkAt.{SinkAt}
use Rattle.pipe_driver.specs.Legs.{sink_node}
use Rattle.pipe_driver.specs.Lines.{AreNumbered}
use Rattle.pipe_driver.specs.Runs.{sink_of}
use Rattle.pipe_driver.specs.Tables.{number_at}
use Rattle.pipe_driver.specs.Ways.{one, occurs}
use Rattle.pipe_driver.specs.declared.run.Fed.{Fed}
use Rattle.pipe_driver.specs.declared.sink_counts.SinkCounts.{SinkCounts}
use Rattle.pipe_driver.proofs.Tests.{by_test, eq-is, eq-not, eq-true, eq-false, occurs-append, some-left}
use Rattle.pipe_engine.specs.declared.engine.FedSink.{FedSink}
use Rattle.pipe_engine.specs.Drives.{LineRun, HasLowered, FedAlone, AreOpen}
use Rattle.pipe_engine.specs.Engine.{IsBefore, IsEmptied, NoneOpen, OthersStay, sink_at}
use Rattle.pipe_engine.specs.Known.{Known}
use Rattle.pipe_engine.specs.declared.engine.Engine.{Engine}
use Rattle.pipe_engine.specs.declared.engine.OpenLeg.{OpenLeg}

-- ---- one leg

-- the leg that ends feeds its sink alone
pub ends_alone : {H : Type 0} (old : Engine H) (leg : OpenLeg H) (taken new : List (Option (FedSink H))) (fed : FedSink H) (place : ℕ) → old.leg ≡ Some leg → place ≡ sink_node old.nodes leg.at → ((s : ℕ) → sink_at taken s ≡ cond (s == place) None (sink_at old.sinks.items s))
    → ((s : ℕ) → sink_at new s ≡ cond (s == place) (Some fed) (sink_at taken s)) → (at : SinkAt) → IsBefore old.leg [] at → OthersStay (sink_node old.nodes at) old.sinks.items new
ends_alone {H = H} old leg taken new fed place opened there took put at before t ne =
    let B : Option (OpenLeg H) → Type 0 = λ l. IsBefore l [] at in
    let same : leg.at ≡ at = (subst B opened before).1 in
    let apart : (t == place) ≡ false = ap (λ p. t == p) (there ∙ ap (sink_node old.nodes) same) ∙ ne in
    put t ∙ ap (λ b. cond b (Some fed) (sink_at taken t)) apart ∙ took t ∙ ap (λ b. cond b None (sink_at old.sinks.items t)) apart

-- so does one that went through nodes before
pub fed_alone : {H : Type 0} (k : Known H) (at : SinkAt) (old passed left new : LineRun H) → passed.runner.sinks ≡ old.runner.sinks → left.runner.sinks ≡ passed.runner.sinks → left.runner.nodes ≡ k.task.m.ordered → OthersStay (sink_node left.runner.nodes at) left.runner.sinks.items new.runner.sinks.items
    → FedAlone at old new k
fed_alone {H = H} k at old passed left new first then ordered ends t ne =
    ends t (ap (λ o. t == sink_node o at) ordered ∙ ne) ∙ ap (λ (v : Vec (Option (FedSink H))). sink_at v.items t) (then ∙ first)

-- ---- behind it

number_in : (ns : List ℕ) (n : ℕ) → 0 < number_at ns n → n < length ns
number_in [] n some = absurd (omega (arith, some))
number_in (a ∷ ns) zero some = omega arith
number_in (a ∷ ns) (suc n) some = let rest = number_in ns n some in omega (arith, rest)

-- what is open but for this sink
record OpenBut {H : Type 0} (at : ℕ) (numbers : List ℕ) (run : LineRun H) (k : Known H) : Type 0 where
  unfed : (s : ℕ) → (s == at) ≡ false → occurs (k.task.number s) numbers ≡ 0 → sink_at run.runner.sinks.items s ≡ None
  fed_out : (s : ℕ) → (s == at) ≡ false → number_at run.counts.left.items (k.task.number s) ≡ 0 → sink_at run.runner.sinks.items s ≡ None

module _ {H : Type 0} (k : Known H) (fed : Fed) (old new : LineRun H) (was now : List ℕ) (numbered : AreNumbered k.task old.counts.left.items) (number : fed.count ≡ k.task.number (sink_of k.task fed.at))
    (lowered : HasLowered fed old.counts new.counts) (alone : FedAlone fed.at old new k) (pushed : now ≡ was ++ fed.count ∷ []) (known : AreOpen was old k) where
  abbrev at : ℕ
  at = sink_of k.task fed.at

  counted : (s : ℕ) → occurs (k.task.number s) now ≡ occurs (k.task.number s) was + one (fed.count == k.task.number s)
  counted s =
      let a = ap (occurs (k.task.number s)) pushed in
      let b = occurs-append (k.task.number s) was (fed.count ∷ []) in
      omega (arith, a, b)

  -- no other sink has its number
  apart : (s : ℕ) → (s == at) ≡ false → (k.task.number s == fed.count) ≡ false
  apart s ne =
      let here = lowered.here in
      let L : ℕ → Type 0 = λ n. n < length old.counts.left.items in
      let there : L fed.count = number_in old.counts.left.items fed.count (omega (arith, here)) in
      eq-false (k.task.number s) fed.count (λ e. eq-not s at ne (numbered.apart at s (subst L number there) (e ∙ number)))

  but : OpenBut at now new k
  but = record {
    unfed = λ s ne none. alone s ne ∙ known.unfed s (let c = counted s in omega (arith, c, none));
    fed_out = λ s ne none. alone s ne ∙ known.fed_out s (sym (lowered.others (k.task.number s) (apart s ne)) ∙ none);
  }

  was_fed : (s : ℕ) → (s == at) ≡ true → occurs (k.task.number s) now ≡ 0 → ⊥
  was_fed s e none =
      let same : fed.count ≡ k.task.number s = number ∙ ap k.task.number (sym (eq-is s at e)) in
      let here = ap one (eq-true fed.count (k.task.number s) same) in
      let c = counted s in
      omega (arith, here, c, none)

  -- where legs still feed it, it is open
  pub left_open : 0 < number_at new.counts.left.items fed.count → AreOpen now new k
  left_open some = record {
    unfed = λ s none. by_test (sink_at new.runner.sinks.items s ≡ None) (s == at) (λ e. absurd (was_fed s e none)) (λ e. but.unfed s e none);
    fed_out = λ s none. by_test (sink_at new.runner.sinks.items s ≡ None) (s == at)
        (λ e. absurd (let same = ap (number_at new.counts.left.items) (number ∙ ap k.task.number (sym (eq-is s at e))) in omega (arith, same, some, none)))
        (λ e. but.fed_out s e none);
  }

  -- where it is closed, none but the others are open
  pub closed_open : (after : LineRun H) → new.runner.nodes ≡ k.task.m.ordered → after.counts ≡ new.counts → IsEmptied (sink_node new.runner.nodes fed.at) new.runner.sinks.items after.runner.sinks.items → AreOpen now after k
  closed_open after ordered counts emptied =
      let gone : (s : ℕ) (b : Bool) → (s == at) ≡ b → sink_at after.runner.sinks.items s ≡ cond b None (sink_at new.runner.sinks.items s) = λ s b e. emptied s ∙ ap (λ o. cond (s == sink_node o fed.at) None (sink_at new.runner.sinks.items s)) ordered ∙ ap (λ t. cond t None (sink_at new.runner.sinks.items s)) e in
      record {
        unfed = λ s none. by_test (sink_at after.runner.sinks.items s ≡ None) (s == at) (λ e. gone s true e) (λ e. gone s false e ∙ but.unfed s e none);
        fed_out = λ s none. by_test (sink_at after.runner.sinks.items s ≡ None) (s == at) (λ e. gone s true e)
            (λ e. gone s false e ∙ but.fed_out s e (ap (λ (z : SinkCounts). number_at z.left.items (k.task.number s)) (sym counts) ∙ none));
      }

-- ---- a front part

pub none_open : {H : Type 0} (k : Known H) (run : LineRun H) → NoneOpen run.runner → AreOpen [] run k
none_open k run none = record { unfed = λ s n. none s; fed_out = λ s n. none s }

pub all_closed : {H : Type 0} (k : Known H) (run : LineRun H) (numbers : List ℕ) → AreOpen numbers run k → ((n : ℕ) → 0 < occurs n numbers → number_at run.counts.left.items n ≡ 0) → NoneOpen run.runner
all_closed k run numbers known closed = λ s. elim (some-left (occurs (k.task.number s) numbers)) [
  | inl none ↦ known.unfed s none
  | inr some ↦ known.fed_out s (closed (k.task.number s) some)
]
