-- The front part of the branches that one call runs.
use Rattle.std.proofs.Common.{◌≡◌, ℕ, zero, suc, ◌+◌, ◌-◌, ◌<◌, ◌≤◌, List, [], ◌∷◌, ◌++◌, refl, sym, ap, subst, ◌∙◌, arith, ◌==◌, ◌⊎◌, inl, inr, Option, Some, None, take, drop}
use Rattle.std.specs.List.{AllByRecursion}
use Rattle.pipe_frame.specs.Frame.{Table}
use Rattle.pipe_driver.specs.Meaning.{Meaning}
use Rattle.pipe_driver.specs.Legs.{Way}
use Rattle.pipe_driver.specs.Ways.{one, occurs, way_to, feeds}
use Rattle.pipe_driver.proofs.Tests.{eq-true, some-left, occurs-append}
use Rattle.pipe_driver.specs.declared.pipe_line.PipeLine.{PipeLine}
use Rattle.pipe_driver.specs.declared.run.Run.{Run}
use Rattle.pipe_driver.specs.Words.{RunnerWords}
use Rattle.pipe_driver.specs.State.{World, Counts, IsParked, IsBetween, nothing}
use Rattle.pipe_driver.specs.Lines.{Task, way_as, ways_as, counts_as}
use Rattle.pipe_driver.specs.Runs.{waits_at, parked_ways, Between, Ready, IsAnswer, KeepsRoot}
use Rattle.pipe_driver.specs.Fronts.{IsClosed, IsFront, IsOnTheWay, HasRunFront, newer_of}
use Rattle.pipe_driver.proofs.Sums.{no_more, above}
use Rattle.pipe_driver.proofs.Begins.{begins_way, over}

-- a leg has fed its sink
pub front_fed : (front : List Way) (fs : List ℕ) (s : ℕ) (old_live old_parked new : List Way) → ((t : ℕ) → feeds t old_live ≡ one (s == t) + feeds t new) → ((n : ℕ) → waits_at n new ≤ waits_at n old_parked + one (s == n))
    → IsFront front fs old_live old_parked → IsFront front (fs ++ s ∷ []) new new
front_fed front fs s old_live old_parked new live waits is =
    let added : (t : ℕ) → occurs t (fs ++ s ∷ []) ≡ occurs t fs + one (s == t) = λ t. (let e = occurs-append t fs (s ∷ []) in omega arith) in
    record {
      of_front = λ t lt. (let a = added t in let l = live t in elim (some-left (occurs t fs)) [ inr k ↦ is.of_front t k | inl z ↦ is.begun t (omega arith) ]);
      covered = λ t lt. (let a = added t in let l = live t in elim (is.covered t lt) [
        | inl k ↦ inl (omega arith)
        | inr k ↦ elim (some-left (one (s == t))) [ inr o ↦ inl (omega arith) | inl z ↦ inr (omega arith) ]
      ]);
      begun = λ t lt. is.begun t (let l = live t in omega arith);
      waits = λ n lt. (let a = added n in let w = waits n in elim (some-left (waits_at n old_parked)) [ inr k ↦ (let o = is.waits n k in omega arith) | inl z ↦ omega arith ]);
    }

-- a way goes on
pub front_on : (front : List Way) (fs : List ℕ) (old live parked : List Way) → ((t : ℕ) → feeds t live ≡ feeds t old) → ((n : ℕ) → waits_at n parked ≤ waits_at n old) → IsFront front fs old old → IsFront front fs live parked
front_on front fs old live parked same fewer is = record {
  of_front = is.of_front;
  covered = λ t lt. elim (is.covered t lt) [ inl k ↦ inl k | inr k ↦ inr (let e = same t in omega arith) ];
  begun = λ t lt. is.begun t (let e = same t in omega arith);
  waits = λ n lt. is.waits n (let w = fewer n in omega arith);
}

-- ---- what is open

waits_first : (q : Way) (qs : List Way) → 0 < waits_at q.start (q ∷ qs)
waits_first q qs = let t : one (q.start == q.start) ≡ 1 = ap one (eq-true q.start q.start refl) in omega arith

none_waiting : (m : Meaning) (sinks : ℕ → ℕ) (todo all qs : List Way) (s : ℕ) → AllByRecursion (IsParked m sinks nothing todo) qs → ((n : ℕ) → waits_at n qs ≤ waits_at n all)
    → ((t : ℕ) → 0 < waits_at t all → t < s → sinks t ≡ 0) → feeds s qs ≡ 0
none_waiting m sinks todo all [] s are fewer low = refl
none_waiting m sinks todo all (q ∷ qs) s are fewer low =
    let here : way_to s q ≡ 0 = no_more (way_to s q) (λ some. (
    let up = above m s q.start q.legs are.0.legs some in
    let f = fewer q.start in
    let w = waits_first q qs in
    let none = low q.start (omega arith) up.up in
    let open_still = are.0.waits refl in omega arith)) in
    let rest = none_waiting m sinks todo all qs s are.1 (λ n. (let f = fewer n in omega arith)) low in omega arith

-- where no later branch feeds what the front part feeds, all of that is closed
all_zero : (m : Meaning) (w : World) (c : Counts) (front : List Way) (fs : List ℕ) (parked todo : List Way) → IsBetween m w c parked todo → IsFront front fs parked parked → IsClosed front todo → (b s : ℕ) → s < b → 0 < feeds s front → c.sinks s ≡ 0
all_zero m w c front fs parked todo between is closed zero s lt some = absurd (omega arith)
all_zero m w c front fs parked todo between is closed (suc b) s lt some =
    let q = between.left.sinks s in
    let later = closed s some in
    let n = none_waiting m c.sinks todo parked parked s between.waiting (λ n. omega arith) (λ t waits low. all_zero m w c front fs parked todo between is closed b t (omega arith) (is.of_front t (is.waits t waits))) in
    omega arith

open_front : (m : Meaning) (w : World) (c : Counts) (front : List Way) (fs : List ℕ) (parked todo : List Way) (x : ℕ) → IsBetween m w c parked todo → IsFront front fs parked parked → 0 < occurs x fs → 0 < c.sinks x → IsClosed front todo → ⊥
open_front m w c front fs parked todo x between is fed some closed = let z = all_zero m w c front fs parked todo between is closed (suc x) x (omega arith) (is.of_front x fed) in absurd (omega arith)

-- where each sink that was fed is closed, no way waits
none_waits : (m : Meaning) (sinks : ℕ → ℕ) (fs : List ℕ) (front todo qs : List Way) → AllByRecursion (IsParked m sinks nothing todo) qs → IsFront front fs qs qs → ((s : ℕ) → 0 < occurs s fs → sinks s ≡ 0) → qs ≡ []
none_waits m sinks fs front todo [] are is zero_all = refl
none_waits m sinks fs front todo (q ∷ qs) are is zero_all =
    let z = zero_all q.start (is.waits q.start (waits_first q qs)) in let w = are.0.waits refl in absurd (omega arith)

closed_front : (m : Meaning) (w : World) (c : Counts) (fs : List ℕ) (front todo : List Way) → IsBetween m w c [] todo → IsFront front fs [] [] → ((s : ℕ) → 0 < occurs s fs → c.sinks s ≡ 0) → IsClosed front todo
closed_front m w c fs front todo between is zero_all s some =
    let q = between.left.sinks s in
    elim (is.covered s some) [ inl k ↦ (let z = zero_all s k in omega arith) | inr k ↦ absurd (omega arith) ]

-- ---- a call

take_next : (s : ℕ) (all : List Way) (i : ℕ) (x : Way) (rest : List Way) → drop i all ≡ x ∷ rest → feeds s (take (suc i) all) ≡ feeds s (take i all) + way_to s x
take_next s [] zero x rest e = absurd (let f : [] ≡ x ∷ rest = e in cc)
take_next s [] (suc i) x rest e = absurd (let f : [] ≡ x ∷ rest = e in cc)
take_next s (y ∷ all) zero x rest e = let f : y ∷ all ≡ x ∷ rest = e in let g : y ≡ x = cc in let h = ap (way_to s) g in omega arith
take_next s (y ∷ all) (suc i) x rest e = let r = take_next s all i x rest e in omega arith

drop_next : {A : Type 0} (all : List A) (i : ℕ) (x : A) (rest : List A) → drop i all ≡ x ∷ rest → drop (suc i) all ≡ rest
drop_next [] zero x rest e = absurd (let f : [] ≡ x ∷ rest = e in cc)
drop_next [] (suc i) x rest e = absurd (let f : [] ≡ x ∷ rest = e in cc)
drop_next (y ∷ all) zero x rest e = let f : y ∷ all ≡ x ∷ rest = e in cc
drop_next (y ∷ all) (suc i) x rest e = drop_next all i x rest e

drop_ways : {S P : Type 0} (o i : ℕ) (ps : List (PipeLine S P)) → ways_as o (drop i ps) ≡ drop i (ways_as o ps)
drop_ways o zero ps = refl
drop_ways o (suc i) [] = refl
drop_ways o (suc i) (p ∷ ps) = drop_ways o i ps

no_ways : {S P : Type 0} (o : ℕ) (ps : List (PipeLine S P)) → ways_as o ps ≡ [] → ps ≡ []
no_ways o [] e = refl
no_ways o (p ∷ ps) e = absurd (let f : way_as o p ∷ ways_as o ps ≡ [] = e in cc)

-- the next pipeline begins
pub begins_line : {R S P : Type 0} (r : RunnerWords R S P) (k : Task) (run : Run R S P) (p : PipeLine S P) (later : List (PipeLine S P)) → Between r k run (p ∷ later) → Ready r k run p later
begins_line r k run p later is = record {
  w = is.w;
  fits = is.fits;
  ready = begins_way k.m is.w (counts_as k run) (way_as k.m.ordered p) (parked_ways k run) (ways_as k.m.ordered later) is.between;
  line = is.lines.todo.0;
  idle = is.idle;
  lines = record { numbered = is.lines.numbered; parked = is.lines.parked; todo = is.lines.todo.1 };
}

pub starts_front : {R S P : Type 0} (r : RunnerWords R S P) (k : Task) (run : Run R S P) (first : PipeLine S P) (later : List (PipeLine S P)) → Between r k run (first ∷ later) → run.parked.items ≡ [] → IsOnTheWay r k (first ∷ later) run run first later [] None
starts_front r k run first later between parked =
    let o = k.m.ordered in
    let Q : List Way → Type 0 = λ ps. IsFront (way_as o first ∷ []) [] (way_as o first ∷ ps) ps in
    record {
      before = 0;
      rest = refl;
      ready = begins_line r k run first later between;
      front = subst Q (sym (ap (ways_as o) parked)) (record { of_front = λ s lt. absurd (omega arith); covered = λ s lt. inr lt; begun = λ s lt. lt; waits = λ n lt. absurd (omega arith) });
      shortest = λ i some le. absurd (omega arith);
      root = λ z. z;
    }

-- the answer so far
answer_more : {R S P : Type 0} (k : Task) (old mid new : Run R S P) (answer : Option Table) → IsAnswer k old mid answer → KeepsRoot k mid new → IsAnswer k old new answer
answer_more k old mid new None is keeps = λ z. is (keeps z)
answer_more k old mid new (Some rows) is keeps = is

pub answer_newer : {R S P : Type 0} (k : Task) (old mid new : Run R S P) (was more : Option Table) → IsAnswer k old mid was → IsAnswer k mid new more → IsAnswer k old new (newer_of more was)
answer_newer k old mid new was None is next = answer_more k old mid new was is next
answer_newer k old mid new was (Some rows) is next = next

pub ends_front : {R S P : Type 0} (r : RunnerWords R S P) (k : Task) (all : List (PipeLine S P)) (old mid new : Run R S P) (current : PipeLine S P) (later : List (PipeLine S P)) (fs new_fs : List ℕ) (was answer : Option Table)
    → IsOnTheWay r k all old mid current later fs was → Between r k new later → IsAnswer k old new answer
    → ((front : List Way) → IsFront front fs (way_as k.m.ordered current ∷ parked_ways k mid) (parked_ways k mid) → IsFront front new_fs (parked_ways k new) (parked_ways k new))
    → ((s : ℕ) → 0 < occurs s new_fs → (counts_as k new).sinks s ≡ 0) → HasRunFront r k all old new later answer
ends_front r k all old mid new current later fs new_fs was answer on between root keeps zero_all =
    let o = k.m.ordered in
    let ways = ways_as o all in
    let front = keeps (take (suc on.before) ways) on.front in
    let none = none_waits k.m (counts_as k new).sinks new_fs (take (suc on.before) ways) (ways_as o later) (parked_ways k new) between.between.waiting front zero_all in
    let P : List Way → Type 0 = λ ps. IsBetween k.m between.w (counts_as k new) ps (ways_as o later) in
    let Q : List Way → Type 0 = λ ps. IsFront (take (suc on.before) ways) new_fs ps ps in
    record {
      count = suc on.before;
      some = omega arith;
      later_is = sym (drop_next all on.before current later on.rest);
      closed = closed_front k.m between.w (counts_as k new) new_fs (take (suc on.before) ways) (ways_as o later) (subst P none between.between) (subst Q none front) zero_all;
      shortest = λ i some lt. on.shortest i some (omega arith);
      between = between;
      parked = no_ways o new.parked.items none;
      root = root;
    }

pub goes_further : {R S P : Type 0} (r : RunnerWords R S P) (k : Task) (all : List (PipeLine S P)) (old mid new : Run R S P) (current next : PipeLine S P) (later rest : List (PipeLine S P)) (fs new_fs : List ℕ) (was answer : Option Table) (x : ℕ)
    → IsOnTheWay r k all old mid current later fs was → Between r k new later → IsAnswer k old new answer
    → ((front : List Way) → IsFront front fs (way_as k.m.ordered current ∷ parked_ways k mid) (parked_ways k mid) → IsFront front new_fs (parked_ways k new) (parked_ways k new))
    → 0 < occurs x new_fs → 0 < (counts_as k new).sinks x → later ≡ next ∷ rest → IsOnTheWay r k all old new next rest new_fs answer
goes_further r k all old mid new current next later rest fs new_fs was answer x on between root keeps fed some is_later =
    let o = k.m.ordered in
    let ways = ways_as o all in
    let front = keeps (take (suc on.before) ways) on.front in
    let B : List (PipeLine _ _) → Type 0 = Between r k new in
    let dropped : drop (suc on.before) all ≡ later = drop_next all on.before current later on.rest in
    let dropped_ways : drop (suc on.before) ways ≡ ways_as o later = sym (drop_ways o (suc on.before) all) ∙ ap (ways_as o) dropped in
    let Q : List Way → Type 0 = IsClosed (take (suc on.before) ways) in
    let more : (s : ℕ) → feeds s (take (suc (suc on.before)) ways) ≡ feeds s (take (suc on.before) ways) + way_to s (way_as o next) =
    λ s. take_next s ways (suc on.before) (way_as o next) (ways_as o rest) (dropped_ways ∙ ap (ways_as o) is_later) in
    record {
      before = suc on.before;
      rest = dropped ∙ is_later;
      ready = begins_line r k new next rest (subst B is_later between);
      front = record {
        of_front = λ s lt. (let a = more s in let b = front.of_front s lt in omega arith);
        covered = λ s lt. (let a = more s in elim (some-left (way_to s (way_as o next))) [ inr l ↦ inr (omega arith) | inl z ↦ elim (front.covered s (omega arith)) [ inl l ↦ inl l | inr l ↦ inr (omega arith) ] ]);
        begun = λ s lt. (let a = more s in elim (some-left (way_to s (way_as o next))) [ inr l ↦ omega arith | inl z ↦ (let b = front.begun s (omega arith) in omega arith) ]);
        waits = front.waits;
      };
      shortest = λ i positive le closed. (
          let split : (i ≤ on.before) ⊎ (i ≡ suc on.before) = elim (some-left (suc on.before - i)) [ inl z ↦ inr (omega arith) | inr lt ↦ inl (omega arith) ] in
          elim split [
            | inl lower ↦ on.shortest i positive lower closed
            | inr e ↦ (let V : ℕ → Type 0 = λ j. IsClosed (take j ways) (drop j ways) in
                open_front k.m between.w (counts_as k new) (take (suc on.before) ways) new_fs (parked_ways k new) (ways_as o later) x between.between front fed some (subst Q dropped_ways (subst V e closed)))
          ]);
      root = root;
    }

-- where a sink is open, a branch is left
pub some_later : {R S P : Type 0} (r : RunnerWords R S P) (k : Task) (run : Run R S P) (later : List (PipeLine S P)) (x : ℕ) → Between r k run later → 0 < (counts_as k run).sinks x → later ≡ [] → ⊥
some_later r k run later x is some e =
    let P : List Way → Type 0 = IsBetween k.m is.w (counts_as k run) (parked_ways k run) in
    let z = over k.m is.w (counts_as k run) (parked_ways k run) (subst P (ap (ways_as k.m.ordered) e) is.between) x in absurd (omega arith)
