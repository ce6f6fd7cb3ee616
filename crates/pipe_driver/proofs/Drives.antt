-- From what the driver's calls ensure to what is known of its state.
use Rattle.std.proofs.Common.{◌≡◌, ◌≢◌, ℕ, zero, suc, ◌+◌, ◌<◌, ◌≤◌, true, false, ◌==◌, ◌⊎◌, inl, inr, List, [], ◌∷◌, ◌++◌, length, map, take, drop, get_or, refl, sym, ap, subst, ◌∙◌, arith, cond, Option, Some, None}
use Rattle.std.specs.List.{AllByRecursion, remove}
use Rattle.std.specs.Global.{Vec}
use Rattle.std.specs.Prelude.{OnOk, Result, Ok, Err}
use Rattle.std.specs.Vec.{vec_len}
use Rattle.std.proofs.lemmas.List.{take-append-drop, take_all, append-nil}
use Rattle.std.proofs.Math.Seq.{drop-cons}
use Rattle.pipe_schema.specs.Rows.{Row}
use Rattle.pipe_schema.proofs.Weights.{SameBag, total-append}
use Rattle.pipe_driver.specs.declared.branch.SinkAt.{SinkAt}
use Rattle.pipe_driver.specs.declared.branch.SinkAt.TheVariants as at
use Rattle.pipe_driver.specs.Meaning.{Meaning}
use Rattle.pipe_driver.specs.Legs as plan
use Rattle.pipe_driver.specs.Legs.{Way, sink_node}
use Rattle.pipe_driver.specs.Ways.{one, legs_to, way_to, feeds, MayGoOn, IsSoundMeaning}
use Rattle.pipe_driver.proofs.Tests.{by_test, eq-is, eq-true, eq-not, all-append}
use Rattle.pipe_driver.specs.declared.pipe_line.Leg.{Leg}
use Rattle.pipe_driver.specs.declared.pipe_line.PipeLine.{PipeLine}
use Rattle.pipe_driver.specs.declared.run.Run.{Run}
use Rattle.pipe_driver.specs.declared.sink_counts.SinkCounts.{SinkCounts}
use Rattle.pipe_driver.specs.Words.{RunnerWords}
use Rattle.pipe_driver.specs.Tables.{number_at}
use Rattle.pipe_driver.specs.State.{World, Counts, IsReady, HasTail, IsTail, IsLowered}
use Rattle.pipe_driver.specs.Runner.{AreBuilt, RunsLeg, Leaves, Settles}
use Rattle.pipe_driver.specs.Lines.{Task, leg_as, way_as, ways_as, counts_as, AreLegsOf, HasLegs, SourceHas, legs_left, steps_left}
use Rattle.pipe_driver.specs.Runs.{node_of, IsRest, Parks, Unparks, waits_here, waits_at, HasLines, parked_ways, Ready, Passes, sink_of, HasLed}
use Rattle.pipe_driver.proofs.LegPasses.{leg_tables, leg_there, passed}
use Rattle.pipe_driver.proofs.Counting.{stays, seen_all, waits_still, closes_last}

-- ---- lists

pub ways_append : {S P : Type 0} (o : ℕ) (a b : List (PipeLine S P)) → ways_as o (a ++ b) ≡ ways_as o a ++ ways_as o b
ways_append o [] b = refl
ways_append o (p ∷ a) b = ap (λ l. way_as o p ∷ l) (ways_append o a b)

all_take_suc : {A : Type 0} (P : A → Type 0) (xs : List A) (i : ℕ) (d : A) → i < length xs → P (get_or xs i d) → AllByRecursion P (take i xs) → AllByRecursion P (take (suc i) xs)
all_take_suc P [] i d lt p h = absurd (omega arith)
all_take_suc P (x ∷ xs) zero d lt p h = (p, tt)
all_take_suc P (x ∷ xs) (suc i) d lt p h = (h.0, all_take_suc P xs i d (omega arith) p h.1)

pub all_take : {A : Type 0} (P : A → Type 0) (xs : List A) (i n : ℕ) (d : A) → n ≡ suc i → i < length xs → P (get_or xs i d) → AllByRecursion P (take i xs) → AllByRecursion P (take n xs)
all_take P xs i n d e lt p h = let Q : ℕ → Type 0 = λ k. AllByRecursion P (take k xs) in subst Q (sym e) (all_take_suc P xs i d lt p h)

pub all_taken : {A : Type 0} (P : A → Type 0) (xs : List A) (n : ℕ) → length xs ≤ n → AllByRecursion P (take n xs) → AllByRecursion P xs
all_taken P xs n le h = let R : List _ → Type 0 = AllByRecursion P in subst R (take_all n xs le) h

pub same_get : {A : Type 0} (xs : List A) (i : ℕ) (d e : A) → i < length xs → get_or xs i d ≡ get_or xs i e
same_get [] i d e lt = absurd (omega arith)
same_get (x ∷ xs) zero d e lt = refl
same_get (x ∷ xs) (suc i) d e lt = same_get xs i d e (omega arith)

pub first_is : {A : Type 0} (xs new : List A) (x : A) → (xs ≡ [] → ⊥) → x ≡ get_or xs 0 x → new ≡ remove xs 0 → xs ≡ x ∷ new
first_is [] new x some is e = absurd (some refl)
first_is (y ∷ xs) new x some is e = ap (λ z. z ∷ xs) (sym is) ∙ ap (λ ys. x ∷ ys) (sym e)

none_there : {A : Type 0} (xs : List A) → length xs ≡ 0 → xs ≡ []
none_there [] h = refl
none_there (x ∷ xs) h = absurd (omega arith)

pub no_items : {A : Type 0} (v : Vec A) → (vec_len v == 0) ≡ true → v.items ≡ []
no_items v h = let z : vec_len v ≡ 0 = eq-is (vec_len v) 0 h in none_there v.items (omega arith)

pub some_items : {A : Type 0} (v : Vec A) → (vec_len v == 0) ≡ false → v.items ≡ [] → ⊥
some_items v h e = let z : vec_len v ≡ 0 = (let l : length v.items ≡ 0 = ap length e in omega arith) in eq-not (vec_len v) 0 h z

pub some_vec : {A : Type 0} (v : Vec A) → (v.items ≡ [] → ⊥) → 0 < vec_len v
some_vec {A = A} v some =
    let split : (xs : List A) → v.items ≡ xs → 0 < length v.items = elim [
      | [] ↦ λ e. absurd (some e)
      | x ∷ xs ↦ λ e. (let l = ap length e in omega arith)
    ] in let l = split v.items refl in omega arith

no_map : {A B : Type 0} (f : A → B) (xs : List A) → map f xs ≡ [] → xs ≡ []
no_map f [] e = refl
no_map f (x ∷ xs) e = absurd (let g : f x ∷ map f xs ≡ [] = e in cc)

pub some_map : {A B : Type 0} (f : A → B) (xs : List A) → (map f xs ≡ [] → ⊥) → xs ≡ [] → ⊥
some_map f xs some e = some (ap (map f) e)

-- ---- parked pipelines

pub parks_one : {S P : Type 0} (n : ℕ) (q : PipeLine S P) (old : List (PipeLine S P)) → (q.legs.items ≡ [] → ⊥) → q.start ≡ n → Parks n q.legs.items old (old ++ q ∷ [])
parks_one {S = S} {P = P} n q old some start =
    let split : (legs : List (Leg P)) → legs ≡ q.legs.items → (legs ≡ [] → ⊥) → IsRest n legs (q ∷ []) = elim [
      | [] ↦ λ e h. absurd (h refl)
      | leg ∷ legs ↦ λ e h. (q, start, sym e, refl)
    ] in record { tails = q ∷ []; is = refl; rest = split q.legs.items refl some }

pub parks_none : {S P : Type 0} (n : ℕ) (v : Vec (Leg P)) (old : List (PipeLine S P)) → (vec_len v == 0) ≡ true → Parks n v.items old old
parks_none {S = S} {P = P} n v old h =
    let Q : List (Leg P) → Type 0 = λ ls. Parks n ls old old in
    let none : Parks n [] old old = record { tails = []; is = sym (append-nil old); rest = refl } in subst Q (sym (no_items v h)) none

pub unparks_at : {S P : Type 0} (n : ℕ) (q : PipeLine S P) (ps new : List (PipeLine S P)) (i : ℕ) → i < length ps → q ≡ get_or ps i q → q.start ≡ n → new ≡ remove ps i → Unparks n q ps new
unparks_at n q ps new i lt is start e = record {
  before = take i ps;
  after = drop (suc i) ps;
  was = sym (take-append-drop i ps) ∙ ap (λ xs. take i ps ++ xs) (drop-cons ps i q lt ∙ ap (λ x. x ∷ drop (suc i) ps) (sym is));
  is = e;
  start = start;
}

rest_tail : {S P : Type 0} (o n : ℕ) (legs : List (Leg P)) (tails : List (PipeLine S P)) → IsRest n legs tails → IsTail n (map (leg_as o) legs) (ways_as o tails)
rest_tail o n [] tails is = ap (ways_as o) is
rest_tail o n (leg ∷ legs) tails is = (way_as o is.0, is.1, ap (map (leg_as o)) is.2, ap (ways_as o) is.3)

parks_tail : {S P : Type 0} (o n : ℕ) (legs : List (Leg P)) (old new : List (PipeLine S P)) → Parks n legs old new → HasTail n (map (leg_as o) legs) (ways_as o old) (ways_as o new)
parks_tail o n legs old new parks = record {
  tails = ways_as o parks.tails;
  is = ap (ways_as o) parks.is ∙ ways_append o old parks.tails;
  tail = rest_tail o n legs parks.tails parks.rest;
}

-- only behind a sort something waits
tail_at : {S P : Type 0} (m : Meaning) (a : SinkAt) (legs : List (Leg P)) (old new : List (PipeLine S P)) → IsSoundMeaning m → MayGoOn m (sink_node m.ordered a) (map (leg_as m.ordered) legs) → Parks (node_of a) legs old new → HasTail (sink_node m.ordered a) (map (leg_as m.ordered) legs) (ways_as m.ordered old) (ways_as m.ordered new)
tail_at m (at.Sort n) legs old new sound on parks = parks_tail m.ordered n legs old new parks
tail_at m (at.Build n) legs old new sound on parks = parks_tail m.ordered n legs old new parks
tail_at m at.Ordered [] old new sound on parks = record { tails = ways_as m.ordered parks.tails; is = ap (ways_as m.ordered) parks.is ∙ ways_append m.ordered old parks.tails; tail = ap (ways_as m.ordered) parks.rest }
tail_at m at.Ordered (leg ∷ legs) old new sound on parks = absurd (let l = sound.low_sort m.ordered on in omega arith)

rest_legs : {R S P : Type 0} (r : RunnerWords R S P) (k : Task) (n : ℕ) (legs : List (Leg P)) (tails : List (PipeLine S P)) → IsRest n legs tails → AreLegsOf r k n legs → AllByRecursion (HasLegs r k) tails
rest_legs r k n [] tails is are = let Q : List (PipeLine _ _) → Type 0 = AllByRecursion (HasLegs r k) in subst Q (sym is) tt
rest_legs r k n (leg ∷ legs) tails is are =
    let Q : List (PipeLine _ _) → Type 0 = AllByRecursion (HasLegs r k) in
    let T : List (Leg _) → Type 0 = AreLegsOf r k n in
    let N : ℕ → Type 0 = λ i. AreLegsOf r k i is.0.legs.items in
    subst Q (sym is.3) (subst N (sym is.1) (subst T (sym is.2) are), tt)

-- only behind a sort something waits, and it begins there
begin_at : {R S P : Type 0} (r : RunnerWords R S P) (k : Task) (a : SinkAt) (legs : List (Leg P)) → IsSoundMeaning k.m → MayGoOn k.m (sink_of k a) (map (leg_as k.m.ordered) legs) → AreLegsOf r k (sink_of k a) legs → AreLegsOf r k (node_of a) legs
begin_at r k (at.Sort n) legs sound on are = are
begin_at r k (at.Build n) legs sound on are = are
begin_at r k at.Ordered [] sound on are = tt
begin_at r k at.Ordered (leg ∷ legs) sound on are = absurd (let l = sound.low_sort k.m.ordered on in omega arith)

parks_legs : {R S P : Type 0} (r : RunnerWords R S P) (k : Task) (a : SinkAt) (legs : List (Leg P)) (old new : List (PipeLine S P)) → IsSoundMeaning k.m → MayGoOn k.m (sink_of k a) (map (leg_as k.m.ordered) legs) → Parks (node_of a) legs old new
    → AllByRecursion (HasLegs r k) old → AreLegsOf r k (sink_of k a) legs → AllByRecursion (HasLegs r k) new
parks_legs r k a legs old new sound on parks olds are =
    let Q : List (PipeLine _ _) → Type 0 = AllByRecursion (HasLegs r k) in
    subst Q (sym parks.is) (all-append (HasLegs r k) old parks.tails olds (rest_legs r k (node_of a) legs parks.tails parks.rest (begin_at r k a legs sound on are)))

rest_steps : {S P : Type 0} (n : ℕ) (legs : List (Leg P)) (tails : List (PipeLine S P)) → IsRest n legs tails → steps_left tails ≡ length legs
rest_steps n [] tails is = ap steps_left is
rest_steps n (leg ∷ legs) tails is = ap steps_left is.3 ∙ (let e : legs_left is.0 ≡ length (leg ∷ legs) = ap length is.2 in omega arith)

tail_feeds : (t s : ℕ) (legs : List plan.Leg) (tails : List Way) → IsTail s legs tails → feeds t tails ≡ legs_to t legs
tail_feeds t s [] tails is = ap (feeds t) is
tail_feeds t s (leg ∷ legs) tails is = ap (feeds t) is.3 ∙ (let e : way_to t is.0 ≡ legs_to t (leg ∷ legs) = ap (legs_to t) is.2 in omega arith)

tail_waits : (n s : ℕ) (legs : List plan.Leg) (tails : List Way) → IsTail s legs tails → waits_at n tails ≤ one (s == n)
tail_waits n s [] tails is = let e = ap (waits_at n) is in omega arith
tail_waits n s (leg ∷ legs) tails is = let e = ap (waits_at n) is.3 in let g : waits_here n is.0 ≡ one (s == n) = ap (λ k. one (k == n)) is.1 in omega arith

-- ---- a leg

sink_counted : (m : Meaning) (w : World) (c : Counts) (p : Way) (leg : plan.Leg) (legs : List plan.Leg) (parked todo : List Way) → IsReady m w c p parked todo → p.legs ≡ leg ∷ legs → 0 < c.sinks leg.sink
sink_counted m w c p leg legs parked todo ready first =
    let q = ready.left.sinks leg.sink in
    let e = ap (legs_to leg.sink) first in
    let t : one (leg.sink == leg.sink) ≡ 1 = ap one (eq-true leg.sink leg.sink refl) in omega arith

abbrev pub run_with : {R S P : Type 0} → R → Vec (PipeLine S P) → SinkCounts → SinkCounts → Run R S P
run_with runner parked counts probers = record { runner = runner; parked = parked; counts = counts; probers = probers }

pub no_source : {R S P : Type 0} (r : RunnerWords R S P) (k : Task) (start : ℕ) (source : Option S) → SourceHas r k start source → source ≡ None → ⊥
no_source r k start None h e = h
no_source {S = S} r k start (Some x) h e = let f : Some x ≡ None = e in cc

pub has_led : {R S P : Type 0} (r : RunnerWords R S P) (k : Task) (p : PipeLine S P) (old : Run R S P) (runner : R) (parked : Vec (PipeLine S P)) (todo : List (PipeLine S P)) (source : S) (leg : Leg P) (legs : List (Leg P))
    → IsSoundMeaning k.m → Ready r k old p todo → p.source ≡ Some source → p.legs.items ≡ leg ∷ legs → RunsLeg (r.brings source) (r.stands leg.part) (r.fits old.runner) (r.fits runner) (r.before runner)
    → Parks (node_of leg.at) legs old.parked.items parked.items → HasLed r k p old (run_with runner parked old.counts old.probers) todo (record { operators = leg.operators; at = leg.at; count = leg.count })
has_led r k p old runner parked todo source leg legs sound ready is_source first runs parks =
    let m = k.m in
    let o = m.ordered in
    let s = sink_of k leg.at in
    let spec_leg = leg_as o leg in
    let spec_legs = map (leg_as o) legs in
    let firsts : (way_as o p).legs ≡ spec_leg ∷ spec_legs = ap (map (leg_as o)) first in
    let are = leg_there m ready.w (counts_as k old) (way_as o p) spec_leg spec_legs (parked_ways k old) (ways_as o todo) ready.ready firsts in
    let T : List (Leg _) → Type 0 = AreLegsOf r k p.start in
    let parts : AreLegsOf r k p.start (leg ∷ legs) = subst T first ready.line.legs in
    let V : Option _ → Type 0 = SourceHas r k p.start in
    let rows : r.brings source m p.start = subst V is_source ready.line.source in
    let built : AreBuilt m ready.w spec_leg.operators = leg_tables m ready.w (counts_as k old) (way_as o p) spec_leg spec_legs (parked_ways k old) (ways_as o todo) sound ready.ready firsts in
    let done = runs m ready.w p.start spec_leg ready.fits parts.0.stands rows are.0.chain are.0.chain_sink built in
    let tail = tail_at m leg.at legs old.parked.items parked.items sound are.0.on parks in
    record {
      passes = record {
        w = done.0.new;
        fits = done.0.fit;
        passing = passed m ready.w done.0.new (counts_as k old) (way_as o p) spec_leg spec_legs (parked_ways k old) (ways_as o parked.items) (ways_as o todo) sound ready.ready firsts done.0.is tail;
        before = done.1;
        empty = ap (λ q. q s) done.0.is.slot ∙ ready.ready.left.empty s (sink_counted m ready.w (counts_as k old) (way_as o p) spec_leg spec_legs (parked_ways k old) (ways_as o todo) ready.ready firsts);
        lines = record {
          numbered = ready.lines.numbered;
          parked = parks_legs r k leg.at legs old.parked.items parked.items sound are.0.on parks ready.lines.parked parts.1;
          todo = ready.lines.todo;
        };
      };
      at = are.0.at;
      number = parts.0.number;
      counts = refl;
      moved = record {
        steps = (
            let t = rest_steps (node_of leg.at) legs parks.tails parks.rest in
            let a = ap steps_left parks.is ∙ total-append legs_left old.parked.items parks.tails in
            let b : legs_left p ≡ length (leg ∷ legs) = ap length first in omega arith);
        live = λ t. (
            let a = ap (feeds t) tail.is ∙ total-append (way_to t) (parked_ways k old) tail.tails in
            let b = tail_feeds t s spec_legs tail.tails tail.tail in
            let e = ap (legs_to t) firsts in omega arith);
        waits = λ n. (
            let a = ap (waits_at n) tail.is ∙ total-append (waits_here n) (parked_ways k old) tail.tails in
            let b = tail_waits n s spec_legs tail.tails tail.tail in omega arith);
      };
    }

-- ---- a leg is counted at a node

pub node_counted : {R S P : Type 0} (r : RunnerWords R S P) (k : Task) (run : Run R S P) (op : ℕ) (now : List ℕ) (at : SinkAt) (todo : List (PipeLine S P)) → Passes r k run (op ∷ now) at todo → 0 < number_at run.probers.left.items op
node_counted r k run op now at todo is = let a = is.passing.left.probers op in let t : one (op == op) ≡ 1 = ap one (eq-true op op refl) in omega arith

-- what `lower` ensured
pub record Lowered (n left : ℕ) (old new : List ℕ) : Type 0 where
  pub here : number_at old n ≡ left + 1
  pub all : (j : ℕ) → number_at new j ≡ cond (j == n) left (number_at old j)

pub chosen : {A : Type 0} (k i : ℕ) (x y z : A) → x ≡ cond (k == i) y z → k ≡ i → x ≡ y
chosen k i x y z h e = h ∙ ap (λ b. cond b y z) (eq-true k i e)

pub other : {A : Type 0} (k i : ℕ) (x y z : A) → x ≡ cond (k == i) y z → k ≢ i → x ≡ z
other k i x y z h ne = by_test (x ≡ z) (k == i) (λ e. absurd (ne (eq-is k i e))) (λ e. h ∙ ap (λ b. cond b y z) e)

is_lowered : (n left : ℕ) (old new : List ℕ) → Lowered n left old new → IsLowered n (number_at old) (number_at new) × (number_at new n ≡ left)
is_lowered n left old new low =
    let at_n = chosen n n (number_at new n) left (number_at old n) (low.all n) refl in
    (record { here = low.here ∙ ap (λ x. x + 1) (sym at_n); others = λ j ne. other j n (number_at new j) left (number_at old j) (low.all j) ne }, at_n)

-- with other legs left to go through nodes, pipelines stand for as much
same_lines : {R S P : Type 0} (r : RunnerWords R S P) (k : Task) (old : Run R S P) (runner : R) (probers : SinkCounts) (todo : List (PipeLine S P)) → HasLines r k old todo → HasLines r k (run_with runner old.parked old.counts probers) todo
same_lines r k old runner probers todo is = record { numbered = is.numbered; parked = is.parked; todo = is.todo }

zero_or : (n : ℕ) → (n ≡ 0) ⊎ (0 < n)
zero_or zero = inl refl
zero_or (suc n) = inr (omega arith)

pub left_behind : {R S P : Type 0} (r : RunnerWords R S P) (k : Task) (old : Run R S P) (runner : R) (probers : SinkCounts) (op left : ℕ) (now : List ℕ) (at : SinkAt) (todo : List (PipeLine S P))
    → Passes r k old (op ∷ now) at todo → Lowered op left old.probers.left.items probers.left.items → (left ≡ 0 → ⊥) → Leaves op (r.fits old.runner) (r.fits runner) (r.before old.runner) (r.before runner) → Passes r k (run_with runner old.parked old.counts probers) now at todo
left_behind r k old runner probers op left now at todo is low some leaves =
    let s = sink_of k at in
    let l = is_lowered op left old.probers.left.items probers.left.items low in
    let did = leaves k.m is.w now at is.fits is.before in
    let positive : 0 < number_at probers.left.items op = elim (zero_or left) [ inl z ↦ absurd (some z) | inr p ↦ (let e = l.1 in omega arith) ] in
    record {
      w = is.w;
      fits = did.0;
      passing = stays k.m is.w (counts_as k old) (number_at probers.left.items) op now s (parked_ways k old) (ways_as k.m.ordered todo) is.passing l.0 positive;
      before = did.1;
      empty = is.empty;
      lines = same_lines r k old runner probers todo is.lines;
    }

pub settled_behind : {R S P : Type 0} (r : RunnerWords R S P) (k : Task) (old : Run R S P) (runner : R) (probers : SinkCounts) (op left : ℕ) (now : List ℕ) (at : SinkAt) (todo : List (PipeLine S P))
    → IsSoundMeaning k.m → Passes r k old (op ∷ now) at todo → Lowered op left old.probers.left.items probers.left.items → left ≡ 0 → Settles op (r.fits old.runner) (r.fits runner) (r.before old.runner) (r.before runner) → Passes r k (run_with runner old.parked old.counts probers) now at todo
settled_behind r k old runner probers op left now at todo sound is low none settles =
    let s = sink_of k at in
    let l = is_lowered op left old.probers.left.items probers.left.items low in
    let last : number_at old.probers.left.items op ≡ 1 = (let h = low.here in omega arith) in
    let did = settles k.m is.w now at is.fits is.before is.passing.alike.0
    (λ join. seen_all k.m is.w (counts_as k old) op now s (parked_ways k old) (ways_as k.m.ordered todo) sound is.passing join last)
    is.passing.tables in
    record {
      w = did.0.new;
      fits = did.0.fit;
      passing = closes_last k.m is.w did.0.new (counts_as k old) (number_at probers.left.items) op now s (parked_ways k old) (ways_as k.m.ordered todo) sound is.passing l.0 (let e = l.1 in omega arith) did.0.is;
      before = did.1;
      empty = waits_still op s is.w did.0.new did.0.is.passed.slot is.empty;
      lines = same_lines r k old runner probers todo is.lines;
    }

-- the nodes from a place on
pub drop_at : (xs : List ℕ) (i d : ℕ) → i < length xs → drop i xs ≡ get_or xs i d ∷ drop (i + 1) xs
drop_at xs i d lt = let e : suc i ≡ i + 1 = omega arith in drop-cons xs i d lt ∙ ap (λ n. get_or xs i d ∷ drop n xs) e

pub on_ok : {T E A B : Type 0} (r : Result T E) → (A → B) → OnOk r A → OnOk r B
on_ok (Ok x) f h = f h
on_ok (Err e) f h = tt
