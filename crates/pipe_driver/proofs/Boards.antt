-- The chains of a board: what the rows of a node come to on their way.
use Rattle.std.proofs.Common.{◌≡◌, ℕ, ◌+◌, ◌<◌, ◌≤◌, Bool, true, false, cond, eqb, ◌==◌, List, [], ◌∷◌, refl, ap, sym, ◌∙◌, subst, arith, filter}
use Rattle.std.specs.List.{list_any}
use Rattle.pipe_schema.specs.Rows.{Row}
use Rattle.pipe_events.specs.Stages.{JoinStage, Stage, Stages, Scan, Each, Union, Sort, Joined, feeds}
use Rattle.pipe_events.specs.Worlds.{count}
use Rattle.pipe_events.specs.Runs.{inputs_of, IsTree}
use Rattle.pipe_events.proofs.Members.{either, or_cases, or_left, mem, head, behind}
use Rattle.pipe_events.proofs.Chains.{Comes}
use Rattle.pipe_events.proofs.Flows.{supplies}
use Rattle.pipe_driver.specs.Ways.{one, occurs}
use Rattle.pipe_driver.proofs.Tests.{by_test, eq-is, eq-true, eq-false, not-both}
use Rattle.pipe_driver.specs.State.{Counts}
use Rattle.pipe_driver.specs.Boards.{Board, may_hold, is_held, held_at, is_scan, is_union, IsBoard}
use Rattle.pipe_driver.specs.Recorded.{left_at}
use Rattle.pipe_driver.proofs.Climbs.{chain, chain_sort, chain_build, chain_probe, along}

-- ---- members that pass

pub passes_in : (f : ℕ → Bool) (n : ℕ) (ns : List ℕ) → mem n (filter f ns) ≡ true → (f n ≡ true) × (mem n ns ≡ true)
passes_in f n [] e = cc
passes_in f n (k ∷ ns) e =
    by_test ((f n ≡ true) × (mem n (k ∷ ns) ≡ true)) (f k)
    (λ yes.
    let there : mem n (k ∷ filter f ns) ≡ true = sym (ap (λ b. mem n (cond b (k ∷ filter f ns) (filter f ns))) yes) ∙ e in
    either
    (λ same. (sym (ap f (eq-is k n same)) ∙ yes, or_left (eqb k n) (mem n ns) same))
    (λ rest. (let h = passes_in f n ns rest in (h.0, behind n k ns h.1)))
    (or_cases (eqb k n) (mem n (filter f ns)) there))
    (λ no.
    let there : mem n (filter f ns) ≡ true = sym (ap (λ b. mem n (cond b (k ∷ filter f ns) (filter f ns))) no) ∙ e in
    let h = passes_in f n ns there in (h.0, behind n k ns h.1))

pub in_passing : (f : ℕ → Bool) (n : ℕ) (ns : List ℕ) → f n ≡ true → mem n ns ≡ true → mem n (filter f ns) ≡ true
in_passing f n [] passed e = cc
in_passing f n (k ∷ ns) passed e =
    either
    (λ same. ap (λ b. mem n (cond b (k ∷ filter f ns) (filter f ns))) (ap f (eq-is k n same) ∙ passed) ∙ or_left (eqb k n) (mem n (filter f ns)) same)
    (λ rest.
    let h = in_passing f n ns passed rest in
    by_test (mem n (filter f (k ∷ ns)) ≡ true) (f k)
    (λ it. ap (λ b. mem n (cond b (k ∷ filter f ns) (filter f ns))) it ∙ behind n k (filter f ns) h)
    (λ no. ap (λ b. mem n (cond b (k ∷ filter f ns) (filter f ns))) no ∙ h))
    (or_cases (eqb k n) (mem n ns) e)

pub fewer : (f : ℕ → Bool) (n : ℕ) (ns : List ℕ) → count n (filter f ns) ≤ count n ns
fewer f n [] = omega arith
fewer f n (k ∷ ns) =
    let rest = fewer f n ns in
    by_test (count n (filter f (k ∷ ns)) ≤ count n (k ∷ ns)) (f k)
    (λ yes. (let e : count n (filter f (k ∷ ns)) ≡ count n (k ∷ filter f ns) = ap (λ b. count n (cond b (k ∷ filter f ns) (filter f ns))) yes in omega (arith, e, rest)))
    (λ no. (let e : count n (filter f (k ∷ ns)) ≡ count n (filter f ns) = ap (λ b. count n (cond b (k ∷ filter f ns) (filter f ns))) no in omega (arith, e, rest)))

one_only : (n x : ℕ) → count n (x ∷ []) ≤ 1
one_only n x = elim (eqb x n) as (λ b. cond b 1 0 + 0 ≤ 1) [ true ↦ omega arith | false ↦ omega arith ]

hold_once : (x n : ℕ) (s : Stage) → count n (inputs_of s) ≤ 1 → count n (may_hold x s) ≤ 1
hold_once x n (Scan rows) once = one_only n x
hold_once x n (Each input op) once = omega arith
hold_once x n (Union inputs) once = once
hold_once x n (Sort input sorted) once = one_only n x
hold_once x n (Joined j) once = omega arith

-- ---- whether a node was run

pub run_as : (b : Board) (c : Counts) (begun : ℕ → ℕ) (n : ℕ) (s : Stage) → (supplies s ≡ true → begun (b.source_of n) ≡ 0) → ((j : JoinStage) → s ≡ Joined j → c.probers n ≡ 0) → (left_at b c begun n s == 0) ≡ true
run_as b c begun n (Scan rows) a f = eq-true (begun (b.source_of n)) 0 (a refl)
run_as b c begun n (Each input op) a f = refl
run_as b c begun n (Union inputs) a f = refl
run_as b c begun n (Sort input sorted) a f = eq-true (begun (b.source_of n)) 0 (a refl)
run_as b c begun n (Joined j) a f = eq-true (c.probers n) 0 (f j refl)

pub some_not : (n : ℕ) → 0 < n → (n == 0) ≡ false
some_not n l = eq-false n 0 (λ e. absurd (omega (arith, l, e)))

pub unrun_as : (b : Board) (c : Counts) (begun : ℕ → ℕ) (n : ℕ) (s : Stage) → supplies s ≡ true → 0 < begun (b.source_of n) → (left_at b c begun n s == 0) ≡ false
unrun_as b c begun n (Scan rows) e l = some_not (begun (b.source_of n)) l
unrun_as b c begun n (Each input op) e l = cc
unrun_as b c begun n (Union inputs) e l = cc
unrun_as b c begun n (Sort input sorted) e l = some_not (begun (b.source_of n)) l
unrun_as b c begun n (Joined j) e l = cc

-- ---- chains

supplies_held : (x : ℕ) (s : Stage) → supplies s ≡ true → mem x (may_hold x s) ≡ true
supplies_held x (Scan rows) e = head x []
supplies_held x (Each input op) e = cc
supplies_held x (Union inputs) e = cc
supplies_held x (Sort input sorted) e = head x []
supplies_held x (Joined j) e = cc

union_held : (x n : ℕ) (s : Stage) → is_union s ≡ true → list_any (λ i. i == n) (feeds s) ≡ true → mem n (may_hold x s) ≡ true
union_held x n (Scan rows) e f = cc
union_held x n (Each input op) e f = cc
union_held x n (Union inputs) e f = f
union_held x n (Sort input sorted) e f = cc
union_held x n (Joined j) e f = cc

module _ (b : Board) (ok : IsBoard b) where
  abbrev plan : Stages
  plan = b.stages

  abbrev tree : IsTree b.stages
  tree = ok.tree

  -- a join whose probe side the rows of a node come to is on the chain of the node
  pub on_chain : (n k : ℕ) (j : JoinStage) → k < plan.size → plan.stage k ≡ Joined j → Comes plan tree n j.probe → 0 < occurs k (b.m.above n)
  on_chain n k j lt is r =
      let a = along plan tree n j.probe r in
      let probe : (chain plan tree j.probe).operators ≡ k ∷ (chain plan tree k).operators = ap (λ c. c.operators) (chain_probe plan tree k j lt is) in
      let self : one (k == k) ≡ 1 = ap one (eq-true k k refl) in
      let here : 0 < occurs k (chain plan tree j.probe).operators = subst (λ l. 0 < occurs k l) (sym probe) (omega (arith, self)) in
      subst (λ l. 0 < occurs k l) (sym (ok.above n)) (a.behind k here)

  -- and on that of where the leg begins that takes its rows
  pub on_leg : (n k : ℕ) (j : JoinStage) → k < plan.size → plan.stage k ≡ Joined j → Comes plan tree n j.probe → 0 < occurs k (b.m.above (b.source_of n))
  on_leg n k j lt is r =
      let some = on_chain n k j lt is r in
      let u = b.source_of n in
      either
      (λ same. subst (λ i. 0 < occurs k (b.m.above i)) (sym same) some)
      (λ part.
      let e : occurs k (b.m.above n) ≡ one (u == k) + occurs k (b.m.above u) = ap (occurs k) part.above in
      by_test (0 < occurs k (b.m.above u)) (u == k)
      (λ yes. absurd (not-both (is_union (plan.stage u)) part.union (ap (λ i. is_union (plan.stage i)) (eq-is u k yes) ∙ ap is_union is)))
      (λ no. (let none : one (u == k) ≡ 0 = ap one no in omega (arith, e, none, some))))
      (ok.source n)

  -- rows come to one sink all the way
  pub to_sink : (n t : ℕ) → Comes plan tree n t → b.m.above_sink n ≡ b.m.above_sink t
  to_sink n t r = ok.above_sink n ∙ (along plan tree n t r).sink ∙ sym (ok.above_sink t)

  pub leg_sink : (n t : ℕ) → Comes plan tree n t → b.m.above_sink (b.source_of n) ≡ b.m.above_sink t
  leg_sink n t r =
      either
      (λ same. ap b.m.above_sink same ∙ to_sink n t r)
      (λ part. sym part.above_sink ∙ to_sink n t r)
      (ok.source n)

  pub sort_sink : (k input : ℕ) (sorted : List Row → List Row) → k < plan.size → plan.stage k ≡ Sort input sorted → b.m.above_sink input ≡ k
  sort_sink k input sorted lt is = ok.above_sink input ∙ ap (λ c. c.sink) (chain_sort plan tree k input sorted lt is)

  pub build_sink : (k : ℕ) (j : JoinStage) → k < plan.size → plan.stage k ≡ Joined j → b.m.above_sink j.build ≡ k
  build_sink k j lt is = ok.above_sink j.build ∙ ap (λ c. c.sink) (chain_build plan tree k j lt is)

  pub join_there : (k : ℕ) (j : JoinStage) → plan.stage k ≡ Joined j → k < plan.size
  join_there k j is = ok.inside k (λ none. (let e : Joined j ≡ Union [] = sym is ∙ none in cc))

  pub sort_there : (k input : ℕ) (sorted : List Row → List Row) → plan.stage k ≡ Sort input sorted → k < plan.size
  sort_there k input sorted is = ok.inside k (λ none. (let e : Sort input sorted ≡ Union [] = sym is ∙ none in cc))

  pub source_there : (n : ℕ) → supplies (plan.stage n) ≡ true → n < plan.size
  source_there n s = ok.inside n (λ none. (let e : supplies (plan.stage n) ≡ false = ap supplies none in not-both (supplies (plan.stage n)) s e))

  -- ---- what a leg takes

  pub held_once : (x n : ℕ) → count n (held_at b x) ≤ 1
  held_once x n =
      let few = fewer (is_held b x) n (may_hold x (plan.stage x)) in
      let once = hold_once x n (plan.stage x) (tree.once x n) in
      omega (arith, few, once)

  pub held_from : (x n : ℕ) → mem n (held_at b x) ≡ true → b.source_of n ≡ x
  held_from x n e = eq-is (b.source_of n) x (passes_in (is_held b x) n (may_hold x (plan.stage x)) e).0

  pub held_no_join : (x n : ℕ) (j : JoinStage) → mem n (held_at b x) ≡ true → plan.stage n ≡ Joined j → ⊥
  held_no_join x n j e is =
      let from = held_from x n e in
      let there = (passes_in (is_held b x) n (may_hold x (plan.stage x)) e).1 in
      either
      (λ same.
      let here : x ≡ n = sym from ∙ same in
      let none : mem n (may_hold x (plan.stage x)) ≡ false = ap (λ i. mem n (may_hold x (plan.stage i))) here ∙ ap (λ s. mem n (may_hold x s)) is in
      not-both (mem n (may_hold x (plan.stage x))) there none)
      (λ part. not-both (is_scan (plan.stage n)) part.scan (ap is_scan is))
      (ok.source n)

  pub sort_own : (n input : ℕ) (sorted : List Row → List Row) → plan.stage n ≡ Sort input sorted → b.source_of n ≡ n
  sort_own n input sorted is = either (λ same. same) (λ part. absurd (not-both (is_scan (plan.stage n)) part.scan (ap is_scan is))) (ok.source n)

  pub held : (x n : ℕ) → supplies (plan.stage n) ≡ true → b.source_of n ≡ x → mem n (held_at b x) ≡ true
  held x n s from =
      in_passing (is_held b x) n (may_hold x (plan.stage x)) (eq-true (b.source_of n) x from)
      (either
      (λ same.
      let here : n ≡ x = sym same ∙ from in
      subst (λ i. mem n (may_hold i (plan.stage i)) ≡ true) here (supplies_held n (plan.stage n) s))
      (λ part. subst (λ i. mem n (may_hold i (plan.stage i)) ≡ true) from (union_held (b.source_of n) n (plan.stage (b.source_of n)) part.union part.fed))
      (ok.source n))
