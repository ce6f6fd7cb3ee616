-- The sinks that were fed, by their numbers.
use Rattle.std.proofs.Common.{◌≡◌, ℕ, zero, suc, ◌+◌, ◌<◌, ◌≤◌, List, [], ◌∷◌, length, ◌++◌, refl, sym, ap, subst, ◌∙◌, arith, ◌==◌, inl, inr, Option, Some, None, take, get_or, map, append_assoc}
use Rattle.std.proofs.lemmas.List.{append-nil}
use Rattle.pipe_frame.specs.Frame.{Table}
use Rattle.pipe_schema.proofs.Weights.{SameBag}
use Rattle.pipe_driver.specs.Legs.{Way}
use Rattle.pipe_driver.specs.Ways.{one, occurs, feeds}
use Rattle.pipe_driver.proofs.Tests.{by_test, eq-is, eq-true, some-left}
use Rattle.pipe_driver.specs.declared.pipe_line.PipeLine.{PipeLine}
use Rattle.pipe_driver.specs.declared.run.Run.{Run}
use Rattle.pipe_driver.specs.declared.run.Fed.{Fed}
use Rattle.pipe_driver.specs.Words.{RunnerWords}
use Rattle.pipe_driver.specs.Tables.{number_at}
use Rattle.pipe_driver.specs.Lines.{Task, way_as, ways_as, counts_as}
use Rattle.pipe_driver.specs.Runs.{waits_at, parked_ways, Between, sink_of, HasRun, HasStopped, IsAnswer, KeepsRoot}
use Rattle.pipe_driver.specs.Fronts.{IsFront, FedMore, FedOn, IsOnTheWayBy, HasRunFront}
use Rattle.pipe_driver.proofs.Closed.{stays_open}
use Rattle.pipe_driver.proofs.Fronts.{front_fed, front_on, starts_front, ends_front, goes_further, some_later}

one_is : (x s : ℕ) → 0 < one (x == s) → s ≡ x
one_is x s h = by_test (s ≡ x) (x == s) (λ e. sym (eq-is x s e)) (λ e. (let t : one (x == s) ≡ 0 = ap one e in absurd (omega arith)))

occurs_next : (s : ℕ) (xs : List ℕ) (i d : ℕ) → i < length xs → occurs s (take (suc i) xs) ≡ occurs s (take i xs) + one (get_or xs i d == s)
occurs_next s [] i d lt = absurd (omega arith)
occurs_next s (x ∷ xs) zero d lt = omega arith
occurs_next s (x ∷ xs) (suc i) d lt = let r = occurs_next s xs i d (omega arith) in omega arith

pub closed_so_far : (counts sinks : List ℕ) (i n : ℕ) (d : ℕ) → n ≡ suc i → i < length sinks → number_at counts (get_or sinks i d) ≡ 0 → ((s : ℕ) → 0 < occurs s (take i sinks) → number_at counts s ≡ 0) → (s : ℕ) → 0 < occurs s (take n sinks) → number_at counts s ≡ 0
closed_so_far counts sinks i n d e lt zero_here is s some =
    let a = ap (λ k. occurs s (take k sinks)) e in
    let b = occurs_next s sinks i d lt in
    elim (some-left (occurs s (take i sinks))) [
      | inr k ↦ is s k
      | inl z ↦ ap (number_at counts) (one_is (get_or sinks i d) s (omega arith)) ∙ zero_here
    ]

pub open_found : (sinks : List ℕ) (i : ℕ) (d : ℕ) → i < length sinks → 0 < occurs (get_or sinks i d) sinks
open_found [] i d lt = absurd (omega arith)
open_found (x ∷ sinks) zero d lt = let t : one (x == x) ≡ 1 = ap one (eq-true x x refl) in omega arith
open_found (x ∷ sinks) (suc i) d lt = let r = open_found sinks i d (omega arith) in omega arith

-- ---- numbers and sinks

pub occurs_map : (f : ℕ → ℕ) (s : ℕ) (fs : List ℕ) → 0 < occurs s fs → 0 < occurs (f s) (map f fs)
occurs_map f s [] h = absurd (omega arith)
occurs_map f s (x ∷ fs) h =
    by_test (0 < occurs (f s) (map f (x ∷ fs))) (x == s)
    (λ e. (let t : one (f x == f s) ≡ 1 = ap one (eq-true (f x) (f s) (ap f (eq-is x s e))) in omega arith))
    (λ e. (let z = ap one e in let r = occurs_map f s fs (omega arith) in omega arith))

record Found (f : ℕ → ℕ) (n : ℕ) (fs : List ℕ) : Type 0 where
  at : ℕ
  is : f at ≡ n
  there : 0 < occurs at fs

found_map : (f : ℕ → ℕ) (n : ℕ) (fs : List ℕ) → 0 < occurs n (map f fs) → Found f n fs
found_map f n [] h = absurd (omega arith)
found_map f n (x ∷ fs) h =
    by_test (Found f n (x ∷ fs)) (f x == n)
    (λ e. record { at = x; is = eq-is (f x) n e; there = (let t : one (x == x) ≡ 1 = ap one (eq-true x x refl) in omega arith) })
    (λ e. (let z = ap one e in let r = found_map f n fs (omega arith) in let t = r.there in record { at = r.at; is = r.is; there = omega arith }))

map_append : {A B : Type 0} (f : A → B) (a b : List A) → map f (a ++ b) ≡ map f a ++ map f b
map_append f [] b = refl
map_append f (x ∷ a) b = ap (λ l. f x ∷ l) (map_append f a b)

-- ---- one pipeline and those that go on

pub fed_none : {R S P : Type 0} (k : Task) (p : PipeLine S P) (run : Run R S P) (fed : List ℕ) → FedOn k p run run p fed fed
fed_none k p run fed = record {
  more = [];
  is = sym (append-nil fed);
  front = λ front fs is. (let Q : List ℕ → Type 0 = λ gs. IsFront front gs (way_as k.m.ordered p ∷ parked_ways k run) (parked_ways k run) in subst Q (sym (append-nil fs)) is);
}

-- a leg more
pub fed_leg : {R S P : Type 0} (r : RunnerWords R S P) (k : Task) (p current : PipeLine S P) (old run new : Run R S P) (todo : List (PipeLine S P)) (fed was now : List ℕ) (done : Fed) → FedOn k p old run current fed was → HasRun r k current run new todo done → now ≡ was ++ done.count ∷ []
    → FedMore k p old new fed now
fed_leg r k p current old run new todo fed was now done on ran is = record {
  more = on.more ++ sink_of k done.at ∷ [];
  is = is ∙ ap (λ l. l ++ done.count ∷ []) on.is ∙ append_assoc fed (map k.number on.more) (done.count ∷ [])
      ∙ ap (λ l. fed ++ l) (ap (λ n. map k.number on.more ++ n ∷ []) ran.number ∙ sym (map_append k.number on.more (sink_of k done.at ∷ [])));
  front = λ front fs first. (
      let Q : List ℕ → Type 0 = λ gs. IsFront front gs (parked_ways k new) (parked_ways k new) in
      subst Q (append_assoc fs on.more (sink_of k done.at ∷ [])) (front_fed front (fs ++ on.more) (sink_of k done.at) (way_as k.m.ordered current ∷ parked_ways k run) (parked_ways k run) (parked_ways k new) ran.moved.live ran.moved.waits (on.front front fs first)));
}

-- a way goes on
pub fed_goes : {R S P : Type 0} (k : Task) (p next : PipeLine S P) (old mid new : Run R S P) (fed now : List ℕ) → FedMore k p old mid fed now → ((t : ℕ) → feeds t (way_as k.m.ordered next ∷ parked_ways k new) ≡ feeds t (parked_ways k mid)) → ((n : ℕ) → waits_at n (parked_ways k new) ≤ waits_at n (parked_ways k mid))
    → FedOn k p old new next fed now
fed_goes k p next old mid new fed now more same fewer = record {
  more = more.more;
  is = more.is;
  front = λ front fs first. front_on front (fs ++ more.more) (parked_ways k mid) (way_as k.m.ordered next ∷ parked_ways k new) (parked_ways k new) same fewer (more.front front fs first);
}

pub fed_stays : {R S P : Type 0} (k : Task) (p : PipeLine S P) (old mid new : Run R S P) (fed now : List ℕ) → FedMore k p old mid fed now → new.parked.items ≡ mid.parked.items → FedMore k p old new fed now
fed_stays k p old mid new fed now more same = record {
  more = more.more;
  is = more.is;
  front = λ front fs first. (let Q : List Way → Type 0 = λ ps. IsFront front (fs ++ more.more) ps ps in subst Q (sym (ap (ways_as k.m.ordered) same)) (more.front front fs first));
}

-- a pipeline that has come to an open sink
pub stopped_open : {R S P : Type 0} (r : RunnerWords R S P) (k : Task) (first old new : Run R S P) (p : PipeLine S P) (todo : List (PipeLine S P)) (done : Fed) → HasRun r k p old new todo done → 0 < done.left → KeepsRoot k first old → HasStopped r k first new todo None
stopped_open r k first old new p todo done ran some root =
    let is = ran.feeds in
    let s = sink_of k done.at in
    let left : 0 < (counts_as k new).sinks s = (let l = ran.left in let e = ap (number_at new.counts.left.items) ran.number in omega arith) in
    record {
      between = record { w = is.w; fits = is.fits; between = stays_open k.m is.w (counts_as k new) s (parked_ways k new) (ways_as k.m.ordered todo) is.fed left; idle = is.idle; lines = is.lines };
      root = λ none. elim (ran.root none) [
        | inl was ↦ root was
        | inr e ↦ (let a : (counts_as k new).sinks s ≡ 0 = ap (counts_as k new).sinks e ∙ none in absurd (omega arith))
      ];
    }

-- a pipeline that goes on has not closed the root's sink
pub went_on : {R S P : Type 0} (r : RunnerWords R S P) (k : Task) (first old mid new : Run R S P) (p : PipeLine S P) (todo : List (PipeLine S P)) (done : Fed) → HasRun r k p old mid todo done → new.counts ≡ mid.counts → (sink_of k done.at ≡ k.m.ordered → ⊥) → KeepsRoot k first old → KeepsRoot k first new
went_on r k first old mid new p todo done ran same ne root = λ none. elim (ran.root (ap (λ c. number_at c.left.items (k.number k.m.ordered)) (sym same) ∙ none)) [
  | inl was ↦ root was
  | inr e ↦ absurd (ne e)
]

-- ---- all of a call

pub starts_by : {R S P : Type 0} (r : RunnerWords R S P) (k : Task) (run : Run R S P) (first : PipeLine S P) (later : List (PipeLine S P)) (numbers : List ℕ) → Between r k run (first ∷ later) → run.parked.items ≡ [] → numbers ≡ [] → IsOnTheWayBy r k (first ∷ later) run run first later numbers None
starts_by r k run first later numbers between parked none = record { fed = []; numbers_are = none; on = starts_front r k run first later between parked }

pub ends_by : {R S P : Type 0} (r : RunnerWords R S P) (k : Task) (all : List (PipeLine S P)) (old mid new : Run R S P) (current : PipeLine S P) (later : List (PipeLine S P)) (was now : List ℕ) (answer newer : Option Table)
    → IsOnTheWayBy r k all old mid current later was answer → Between r k new later → IsAnswer k old new newer → FedMore k current mid new was now
    → ((n : ℕ) → 0 < occurs n now → number_at new.counts.left.items n ≡ 0) → HasRunFront r k all old new later newer
ends_by r k all old mid new current later was now answer newer on between root more zero_all =
    ends_front r k all old mid new current later on.fed (on.fed ++ more.more) answer newer on.on between root (λ front first. more.front front on.fed first)
    (λ s some. zero_all (k.number s) (
    let e : now ≡ map k.number (on.fed ++ more.more) = more.is ∙ ap (λ l. l ++ map k.number more.more) on.numbers_are ∙ sym (map_append k.number on.fed more.more) in
    let g = ap (occurs (k.number s)) e in
    let h = occurs_map k.number s (on.fed ++ more.more) some in omega arith))

-- an open sink among those that were fed
pub record OpenSink {R S P : Type 0} (k : Task) (run : Run R S P) (fed : List ℕ) : Type 0 where
  pub at : ℕ
  pub there : 0 < occurs at fed
  pub some : 0 < (counts_as k run).sinks at

pub open_sink : {R S P : Type 0} (k : Task) (run : Run R S P) (numbers fed : List ℕ) (n : ℕ) → numbers ≡ map k.number fed → 0 < occurs n numbers → 0 < number_at run.counts.left.items n → OpenSink k run fed
open_sink k run numbers fed n e some left =
    let g = ap (occurs n) e in
    let f = found_map k.number n fed (omega arith) in
    let h = ap (number_at run.counts.left.items) f.is in
    record { at = f.at; there = f.there; some = omega arith }

pub goes_by : {R S P : Type 0} (r : RunnerWords R S P) (k : Task) (all : List (PipeLine S P)) (old mid new : Run R S P) (current next : PipeLine S P) (later rest : List (PipeLine S P)) (was now : List ℕ) (answer newer : Option Table) (n : ℕ)
    → IsOnTheWayBy r k all old mid current later was answer → Between r k new later → IsAnswer k old new newer → FedMore k current mid new was now → 0 < occurs n now → 0 < number_at new.counts.left.items n → later ≡ next ∷ rest
    → IsOnTheWayBy r k all old new next rest now newer
goes_by r k all old mid new current next later rest was now answer newer n on between root more some left is_later =
    let e : now ≡ map k.number (on.fed ++ more.more) = more.is ∙ ap (λ l. l ++ map k.number more.more) on.numbers_are ∙ sym (map_append k.number on.fed more.more) in
    let x = open_sink k new now (on.fed ++ more.more) n e some left in
    record {
      fed = on.fed ++ more.more;
      numbers_are = e;
      on = goes_further r k all old mid new current next later rest on.fed (on.fed ++ more.more) answer newer x.at on.on between root (λ front first. more.front front on.fed first) x.there x.some is_later;
    }

-- ---- call after call

-- where a call gave no answer, the root's sink is open
pub root_open : {R S P : Type 0} (r : RunnerWords R S P) (k : Task) (all : List (PipeLine S P)) (old new : Run R S P) (later : List (PipeLine S P)) (answer : Option Table) → HasRunFront r k all old new later answer → answer ≡ None → 0 < (counts_as k old).sinks k.m.ordered → 0 < (counts_as k new).sinks k.m.ordered
root_open r k all old new later answer ran none some =
    let keeps : KeepsRoot k old new = subst (IsAnswer k old new) none ran.root in
    elim (some-left ((counts_as k new).sinks k.m.ordered)) [ inr lt ↦ lt | inl z ↦ (let e = keeps z in absurd (omega arith)) ]

pub root_given : {R S P : Type 0} (r : RunnerWords R S P) (k : Task) (all : List (PipeLine S P)) (old new : Run R S P) (later : List (PipeLine S P)) (answer : Option Table) (frame : Table) → HasRunFront r k all old new later answer → answer ≡ Some frame → SameBag frame.rows (k.m.below k.m.ordered)
root_given r k all old new later answer frame ran is = subst (IsAnswer k old new) is ran.root

-- where a sink that was fed is open, a branch is left
pub open_later : {R S P : Type 0} (r : RunnerWords R S P) (k : Task) (all : List (PipeLine S P)) (old mid new : Run R S P) (current : PipeLine S P) (later : List (PipeLine S P)) (was now : List ℕ) (answer : Option Table) (n : ℕ)
    → IsOnTheWayBy r k all old mid current later was answer → Between r k new later → FedMore k current mid new was now → 0 < occurs n now → 0 < number_at new.counts.left.items n → later ≡ [] → ⊥
open_later r k all old mid new current later was now answer n on between more some left =
    let e : now ≡ map k.number (on.fed ++ more.more) = more.is ∙ ap (λ l. l ++ map k.number more.more) on.numbers_are ∙ sym (map_append k.number on.fed more.more) in
    let x = open_sink k new now (on.fed ++ more.more) n e some left in
    some_later r k new later x.at between x.some
