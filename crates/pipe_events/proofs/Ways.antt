-- What reaches what; and what follows from the facts that every event keeps.
use Rattle.std.proofs.Common.{◌≡◌, ℕ, zero, suc, ◌+◌, ◌<◌, ◌≤◌, Bool, true, false, cond, eqb, ◌||◌, List, [], ◌∷◌, ◌++◌, refl, ap, sym, ◌∙◌, subst, arith, ◌⊎◌, inl, inr}
use Rattle.std.proofs.lemmas.Bool.{cases_lt}
use Rattle.std.proofs.lemmas.Bool.Decides.{Decides-eqb}
use Rattle.std.specs.Prelude.{not}
use Rattle.std.specs.List.{list_any, range_with_len}
use Rattle.pipe_schema.specs.Rows.{Row}
use Rattle.pipe_schema.proofs.Weights.{SameBag, total-append, SameBag-refl, SameBag-sym, SameBag-trans, SameBag-append, Same-from_bag}
use Rattle.pipe_events.specs.Stages.{JoinStage, Stages, Stage, Scan, Each, Union, Sort, Joined, rows, flow, feeds, reach_at, reaches_to, reaches, own_rows, build_key, matches_built, IsBelow, GivesOneList, IsStages, only, marks}
use Rattle.pipe_events.specs.Worlds.{World, Load, mine, others, is_of, source_rows, IsReady, ends, is_sink, carried, ChainBuilt}
use Rattle.pipe_events.proofs.Bags.{SameBag-nil}
use Rattle.pipe_events.proofs.WalkLemmas.{walk_stays, walk_is, Decides-no}
use Rattle.pipe_events.proofs.Tests.{any-same, any-never, any-weaker, any-alike, any-stronger}
use Rattle.pipe_events.proofs.Settled.{settled, unreached}
use Rattle.pipe_events.proofs.Builds.{other_build}
use Rattle.pipe_events.proofs.Facts.{IsFlagged, own_whole, hits, matches-hits, met, Gave, EachLoad, own, came, due, Holds}

-- ---- sinks

ends_of : (p : ℕ → Bool) (n a m : ℕ) → a ≤ n → n < a + m → p n ≡ true → list_any p (range_with_len a m) ≡ true
ends_of p n a zero lo hi e = absurd (omega arith)
ends_of p n a (suc m) lo hi e =
    let split : (b : Bool) → p a ≡ b → (b || list_any p (range_with_len (a + 1) m)) ≡ true =
    elim [ true ↦ λ _. refl | false ↦ λ no. (let apart : a ≡ n → ⊥ = λ same. (let e' : p a ≡ true = rw same e in cc) in ends_of p n (a + 1) m (omega arith) (omega arith) e) ]
    in split (p a) refl

pub eqb-refl : (n : ℕ) → eqb n n ≡ true
eqb-refl n = (Decides-eqb n n).1 refl

module _ (plan : Stages) where
  sink_from : (n t : ℕ) → n < plan.size → ends (plan.stage n) t ≡ true → is_sink plan t ≡ true
  sink_from n t lt e =
      let some = ends_of (λ k. ends (plan.stage k) t) n 0 plan.size (omega arith) (omega arith) e in
      elim (eqb plan.root t) as (λ b. (b || list_any (λ k. ends (plan.stage k) t) (range_with_len 0 plan.size)) ≡ true) [ true ↦ refl | false ↦ some ]

  pub sink_sort : (n i : ℕ) (sorted : List Row → List Row) → n < plan.size → plan.stage n ≡ Sort i sorted → is_sink plan i ≡ true
  sink_sort n i sorted lt e = sink_from n i lt (rw e (eqb-refl i))

  pub sink_build : (n : ℕ) (join : JoinStage) → n < plan.size → plan.stage n ≡ Joined join → is_sink plan join.build ≡ true
  sink_build n join lt e = sink_from n join.build lt (rw e (eqb-refl join.build))

  -- ---- what loads bring

  pub carried_none : (build : ℕ → List Row) (t : ℕ) (loads : List Load) → list_any (λ l. reaches plan l.node t) loads ≡ false → carried plan build loads t ≡ []
  carried_none build t [] e = refl
  carried_none build t (l ∷ loads) e =
      let split : (b : Bool) → reaches plan l.node t ≡ b → (b || list_any (λ k. reaches plan k.node t) loads) ≡ false → flow plan build (only l.node l.rows) t ++ carried plan build loads t ≡ [] =
      elim [ true ↦ λ _ f. cc | false ↦ λ s f. (let a = unreached plan build l.node l.rows plan.size t s in let b = carried_none build t loads f in rw (a, b) refl) ]
      in split (reaches plan l.node t) refl e

  -- a filter of loads and the rest
  pub carried_parts : (build : ℕ → List Row) (t w : ℕ) (loads : List Load) → SameBag (carried plan build loads t) (carried plan build (mine w loads) t ++ carried plan build (others w loads) t)
  carried_parts build t w [] = SameBag-refl []
  carried_parts build t w (l ∷ loads) =
      let ih = carried_parts build t w loads in
      let one = flow plan build (only l.node l.rows) t in
      elim (is_of w l) as (λ b. SameBag (one ++ carried plan build loads t) (carried plan build (cond b (l ∷ mine w loads) (mine w loads)) t ++ carried plan build (cond (not b) (l ∷ others w loads) (others w loads)) t)) [
        | true ↦ record { sums = λ f. omega (arith, ih.sums f, total-append f one (carried plan build loads t), total-append f one (carried plan build (mine w loads) t), total-append f (one ++ carried plan build (mine w loads) t) (carried plan build (others w loads) t), total-append f (carried plan build (mine w loads) t) (carried plan build (others w loads) t)) }
        | false ↦ record { sums = λ f. omega (arith, ih.sums f, total-append f one (carried plan build loads t), total-append f one (carried plan build (others w loads) t), total-append f (carried plan build (mine w loads) t) (one ++ carried plan build (others w loads) t), total-append f (carried plan build (mine w loads) t) (carried plan build (others w loads) t)) }
      ]

  -- ---- what follows from the facts

  pub reach_small : (m k t : ℕ) → k ≤ m → reaches_to plan m k t ≡ false
  reach_small m zero t le = refl
  reach_small m (suc k) t le =
      let ih : (i : ℕ) → reaches_to plan m k i ≡ false = λ i. reach_small m k i (omega arith) in
      let apart : eqb k m ≡ false = Decides-no k m (λ same. omega arith) in
      let none : list_any (reaches_to plan m k) (feeds (plan.stage k)) ≡ false = any-never (reaches_to plan m k) (feeds (plan.stage k)) ih in
      elim (eqb t k) as (λ b. cond b (reach_at plan m (reaches_to plan m k) k) (reaches_to plan m k t) ≡ false) [ true ↦ rw apart none | false ↦ ih t ]

  -- a number that reaches a node is a node's
  reaches-size : (m t : ℕ) → reaches plan m t ≡ true → m < plan.size
  reaches-size m t e =
      let split : (m < plan.size) ⊎ (plan.size ≤ m) → m < plan.size = elim [ inl lt ↦ lt | inr le ↦ (let f = reach_small m plan.size t le in cc) ]
      in split (cases_lt m plan.size)

  -- ---- ways

  -- what reaches the probe side of a join reaches the join
  pub reach_over : IsStages plan → (n j : ℕ) (join : JoinStage) → j < plan.size → plan.stage j ≡ Joined join → reaches plan n join.probe ≡ true → reaches plan n j ≡ true
  reach_over ok n j join lt e r =
      let b : (join.probe < j) × (join.build < j) = subst (IsBelow j) e (ok.below j lt) in
      let low : reaches_to plan n j join.probe ≡ true = sym (walk_stays false (reach_at plan n) plan.size j join.probe b.0 (omega arith)) ∙ r in
      let fed : feeds (plan.stage j) ≡ join.probe ∷ [] = ap feeds e in
      walk_is false (reach_at plan n) plan.size j lt
      ∙ elim (eqb j n) as (λ t. (t || list_any (reaches_to plan n j) (feeds (plan.stage j))) ≡ true) [ true ↦ refl | false ↦ rw (fed, low) refl ]

  -- and on
  pub reach_on : (n m k t : ℕ) → k ≤ plan.size → reaches plan n m ≡ true → reaches_to plan m k t ≡ true → reaches_to plan n k t ≡ true
  reach_on n m zero t le r s = cc
  reach_on n m (suc k) t le r s =
      let ih = λ (i : ℕ). reach_on n m k i (omega arith) r in
      let split : (b : Bool) → eqb t k ≡ b → cond b (reach_at plan m (reaches_to plan m k) k) (reaches_to plan m k t) ≡ true → cond b (reach_at plan n (reaches_to plan n k) k) (reaches_to plan n k t) ≡ true =
      elim [
        | true ↦ λ _ s.
            let inner : (b : Bool) → eqb k m ≡ b → (b || list_any (reaches_to plan m k) (feeds (plan.stage k))) ≡ true → reach_at plan n (reaches_to plan n k) k ≡ true =
            elim [
              | true ↦ λ e _. (let same : k ≡ m = (Decides-eqb k m).0 e in sym (walk_is false (reach_at plan n) plan.size k (omega arith)) ∙ subst (λ i. reaches plan n i ≡ true) (sym same) r)
              | false ↦ λ _ f. elim (eqb k n) as (λ b. (b || list_any (reaches_to plan n k) (feeds (plan.stage k))) ≡ true) [ true ↦ refl | false ↦ any-stronger (reaches_to plan m k) (reaches_to plan n k) (feeds (plan.stage k)) ih f ]
            ]
            in inner (eqb k m) refl s
        | false ↦ λ _ f. ih t f
      ]
      in split (eqb t k) refl s

module _ (plan : Stages) (ok : IsStages plan) (w : World) (kept : Holds plan w) where
  -- no load reaches the probe side of a join that reaches a node that none reaches
  pub idle_below : (t j : ℕ) (join : JoinStage) → j < plan.size → plan.stage j ≡ Joined join → reaches plan j t ≡ true → list_any (λ l. reaches plan l.node t) w.pending ≡ false → list_any (λ l. reaches plan l.node join.probe) w.pending ≡ false
  idle_below t j join lt e r idle =
      any-weaker (λ l. reaches plan l.node join.probe) (λ l. reaches plan l.node t) w.pending (λ l h. reach_on plan l.node j plan.size t (omega arith) (reach_over plan ok l.node j join lt e h) r) idle

  -- where all came and nothing is on its way, what went through has the same rows
  all_out : (t : ℕ) → list_any (λ l. reaches plan l.node t) w.pending ≡ false → SameBag (came plan w t) (rows plan t) → SameBag (kept.out t) (rows plan t)
  all_out t idle all =
      let gone : due plan w t ≡ [] = carried_none plan (rows plan) t w.pending idle in
      let sum : SameBag (came plan w t) (kept.out t ++ []) = rw gone at (kept.sums t) in
      SameBag-trans (SameBag-sym (SameBag-nil (kept.out t))) (SameBag-trans (SameBag-sym sum) all)

  -- and the flags are those of its rows
  pub all_flagged : (j : ℕ) (join : JoinStage) → j < plan.size → plan.stage j ≡ Joined join → marks join ≡ true → list_any (λ l. reaches plan l.node join.probe) w.pending ≡ false → SameBag (came plan w join.probe) (rows plan join.probe) → IsFlagged (rows plan) (w.flag j) join
  all_flagged j join lt e marking idle all =
      let outs = all_out join.probe idle all in
      record {
        marked = any-alike (λ r. cond (met join (rows plan join.probe) r) (not (w.flag j (build_key join r))) false) (λ r. cond (list_any (matches_built join r) (kept.out join.probe)) (not (w.flag j (build_key join r))) false) (rows plan join.build)
            (λ r. ap (λ b. cond b (not (w.flag j (build_key join r))) false) (sym (any-same (matches_built join r) outs)))
            ∙ kept.full j join lt e marking;
        back = λ r f. sym (any-same (matches_built join r) all) ∙ any-alike (matches_built join r) (hits join (build_key join r)) (came plan w join.probe) (matches-hits join r) ∙ kept.sound j join lt e marking (build_key join r) f;
      }

  pub settled_at : (t : ℕ) → list_any (λ l. reaches plan l.node t) w.pending ≡ false → ((n : ℕ) → n < plan.size → reaches plan n t ≡ true → Gave plan.parts (rows plan) (w.taken n) (w.flushed n) (plan.stage n)) → SameBag (came plan w t) (rows plan t)
  settled_at t idle gave =
      settled plan ok (own plan w) plan.size (omega arith) t
      (λ m e waits. let lt = reaches-size plan m t e in
      own_whole plan.part plan.parts ok.parted (rows plan) (w.taken m) (w.flushed m) (w.flag m) (kept.once m) (plan.stage m) (ok.built_right m) (kept.inside m) (gave m lt e)
      (λ join is marking. all_flagged m join lt is marking (idle_below t m join lt is e idle) (waits join is marking)))

  pub closed_rows : (t : ℕ) → w.closed t ≡ true → SameBag (came plan w t) (rows plan t)
  closed_rows t c = settled_at t (kept.quiet t c) (kept.gave t c)

  pub closed_out : (t : ℕ) → w.closed t ≡ true → SameBag (kept.out t) (rows plan t)
  closed_out t c = all_out t (kept.quiet t c) (closed_rows t c)

  pub closed_bag : (t : ℕ) → w.closed t ≡ true → is_sink plan t ≡ true → SameBag (w.bag t) (rows plan t)
  closed_bag t c s = SameBag-trans (kept.sinks t s) (closed_out t c)

  -- loads bring the same over the bags of the world and in the plan's terms
  pub carried_alike : (loads : List Load) → EachLoad (λ l. ChainBuilt plan w.closed l.node) loads → (t : ℕ) → SameBag (carried plan w.bag loads t) (carried plan (rows plan) loads t)
  carried_alike [] h t = SameBag-refl []
  carried_alike (l ∷ loads) h t =
      SameBag-append
      (other_build plan ok w.bag (rows plan) l.node l.rows (λ j join lt e r. closed_bag join.build (h.0 j join lt e r) (sink_build plan j join lt e)) plan.size (omega arith) t)
      (carried_alike loads h.1 t)

  -- where a source is ready its rows are the plan's
  pub source_is : (s : ℕ) (x : Stage) → s < plan.size → plan.stage s ≡ x → IsReady w.closed x → source_rows w.bag x ≡ own_rows (rows plan) x
  source_is s (Scan rows) lt e r = refl
  source_is s (Each i op) lt e r = absurd r
  source_is s (Union is) lt e r = absurd r
  source_is s (Sort i sorted) lt e r = let canon : GivesOneList (rows plan) (Sort i sorted) = subst (GivesOneList (rows plan)) e (ok.one_list s lt) in canon (w.bag i) (Same-from_bag (closed_bag i r (sink_sort plan s i sorted lt e)))
  source_is s (Joined j) lt e r = absurd r

pub unflagged : (a b : Bool) → (a ≡ true → b ≡ true) → not b ≡ true → not a ≡ true
unflagged true b h e = let f = h refl in rw f at e
unflagged false b h e = refl
