-- What reached a closed side is all its rows, and what came anywhere is within the rows there.
use Rattle.std.proofs.Common.{◌≡◌, ℕ, zero, suc, ◌<◌, ◌≤◌, Bool, true, false, cond, eqb, List, [], ◌∷◌, ◌++◌, refl, ap, subst, arith, ◌||◌}
use Rattle.std.specs.List.{flat_map, list_any}
use Rattle.std.proofs.lemmas.Bool.Decides.{Decides-eqb}
use Rattle.pipe_schema.specs.Rows.{Row}
use Rattle.pipe_schema.proofs.Weights.{SameBag, WithinBag, SameBag-refl, SameBag-sym, SameBag-trans, SameBag-append, SameBag-flat_map}
use Rattle.pipe_events.specs.Stages.{JoinStage, Stages, Joined, rows_at, rows_to, rows, flow_to, flow_at, made, flow, through, feeds, reach_at, reaches_to, own_rows, IsBelow, IsStages, only, marks}
use Rattle.pipe_events.proofs.Bags.{WithinBag-append, WithinBag-pieces, WithinBag-flat_map, WithinBag-trans, WithinBag-from_SameBag}
use Rattle.pipe_events.proofs.WalkLemmas.{walk_both, walk_stays}
use Rattle.pipe_events.proofs.StageLemmas.{node_split}

eqb-refl : (n : ℕ) → eqb n n ≡ true
eqb-refl n = (Decides-eqb n n).1 refl

module _ (plan : Stages) (ok : IsStages plan) where
  -- the rows of build sides in the plan
  abbrev pub sides : ℕ → List Row
  sides = rows plan

  -- what a node has of its own in the plan
  abbrev pub whole : ℕ → List Row
  whole n = own_rows (rows plan) (plan.stage n)

  rows_split : (k : ℕ) → k < plan.size → SameBag (rows_at plan (rows_to plan k) k) (whole k ++ made plan sides (rows_to plan k) k)
  rows_split k h = node_split k (plan.stage k) (rows_to plan k) (rows plan) (ok.below k h) (λ i lt. walk_stays [] (rows_at plan) plan.size k i lt (omega arith))

  -- of each input in turn, where each node that reaches one of them is whole
  over_feeds : (Done : ℕ → Type 0) (r : ℕ → ℕ → Bool) (f g : ℕ → List Row) → ((i : ℕ) → ((m : ℕ) → r m i ≡ true → Done m) → SameBag (f i) (g i)) → (is : List ℕ) → ((m : ℕ) → list_any (r m) is ≡ true → Done m) → SameBag (flat_map f is) (flat_map g is)
  over_feeds Done r f g ih [] h = SameBag-refl []
  over_feeds Done r f g ih (i ∷ is) h =
      SameBag-append (ih i (λ m e. h m (rw e refl))) (over_feeds Done r f g ih is (λ m e. h m (elim (r m i) as (λ b. (b || (list_any (r m) is)) ≡ true) [ true ↦ refl | false ↦ e ])))

  -- a node gave all that it has of its own, once all came that it waits for
  abbrev pub GaveAll : (own : ℕ → List Row) → ℕ → Type 0
  GaveAll own m = ((join : JoinStage) → plan.stage m ≡ Joined join → marks join ≡ true → SameBag (flow plan sides own join.probe) (rows plan join.probe)) → SameBag (own m) (whole m)

  -- the rows that came to a node are its rows, where each node that reaches it gave all that it has
  pub settled : (own : ℕ → List Row) (k : ℕ) → k ≤ plan.size → (n : ℕ) → ((m : ℕ) → reaches_to plan m k n ≡ true → GaveAll own m) → SameBag (flow_to plan sides own k n) (rows_to plan k n)
  settled own zero le n h = SameBag-refl []
  settled own (suc k) le n h =
      let ih = settled own k (omega arith) in
      let x = plan.stage k in
      let split : (b : Bool) → eqb n k ≡ b → ((m : ℕ) → cond b (reach_at plan m (reaches_to plan m k) k) (reaches_to plan m k n) ≡ true → GaveAll own m) → SameBag (cond b (flow_at plan sides own (flow_to plan sides own k) k) (flow_to plan sides own k n)) (cond b (rows_at plan (rows_to plan k) k) (rows_to plan k n)) =
      elim [
        | true ↦ λ e g.
            let g' : (m : ℕ) → list_any (reaches_to plan m k) (feeds x) ≡ true → GaveAll own m =
            λ m r. g m (elim (eqb k m) as (λ b. (b || (list_any (reaches_to plan m k) (feeds x))) ≡ true) [ true ↦ refl | false ↦ r ]) in
            let waits : (join : JoinStage) → x ≡ Joined join → marks join ≡ true → SameBag (flow plan sides own join.probe) (rows plan join.probe) =
            λ join e _.
            let b : (join.probe < k) × (join.build < k) = subst (IsBelow k) e (ok.below k (omega arith)) in
            let s = walk_stays [] (flow_at plan sides own) plan.size k join.probe b.0 (omega arith) in
            let s' = walk_stays [] (rows_at plan) plan.size k join.probe b.0 (omega arith) in
            let feeds_is : feeds x ≡ join.probe ∷ [] = ap feeds e in
            rw (s, s') (ih join.probe (λ m r. g' m (rw (feeds_is, r) refl))) in
            let self : SameBag (own k) (whole k) = g k (let r = eqb-refl k in rw r refl) waits in
            let lower : SameBag (flat_map (flow_to plan sides own k) (feeds x)) (flat_map (rows_to plan k) (feeds x)) =
            over_feeds (GaveAll own) (λ m. reaches_to plan m k) _ _ ih (feeds x) g' in
            SameBag-trans (SameBag-append self (SameBag-flat_map (through sides x) lower)) (SameBag-sym (rows_split k (omega arith)))
        | false ↦ λ e g. ih n g
      ]
      in split (eqb n k) refl h

  -- it has never more, where no node has more than is its own
  pub never_more : (own : ℕ → List Row) → ((m : ℕ) → m < plan.size → ((join : JoinStage) → plan.stage m ≡ Joined join → marks join ≡ true → WithinBag (flow plan sides own join.probe) (rows plan join.probe)) → WithinBag (own m) (whole m)) → (k : ℕ) → k ≤ plan.size → (n : ℕ) → WithinBag (flow_to plan sides own k n) (rows_to plan k n)
  never_more own h zero le n = record { sums = λ f. omega arith }
  never_more own h (suc k) le n =
      let ih = never_more own h k (omega arith) in
      let x = plan.stage k in
      let waits : (join : JoinStage) → x ≡ Joined join → marks join ≡ true → WithinBag (flow plan sides own join.probe) (rows plan join.probe) =
      λ join e _.
      let b : (join.probe < k) × (join.build < k) = subst (IsBelow k) e (ok.below k (omega arith)) in
      let s = walk_stays [] (flow_at plan sides own) plan.size k join.probe b.0 (omega arith) in
      let s' = walk_stays [] (rows_at plan) plan.size k join.probe b.0 (omega arith) in
      rw (s, s') (ih join.probe) in
      elim (eqb n k) as (λ b. WithinBag (cond b (flow_at plan sides own (flow_to plan sides own k) k) (flow_to plan sides own k n)) (cond b (rows_at plan (rows_to plan k) k) (rows_to plan k n))) [
        | true ↦ WithinBag-trans (WithinBag-append (h k (omega arith) waits) (WithinBag-flat_map (through sides x) (WithinBag-pieces _ _ (feeds x) ih))) (WithinBag-from_SameBag (SameBag-sym (rows_split k (omega arith))))
        | false ↦ ih n
      ]

-- ---- one bag

none_over : (r : ℕ → Bool) (f : ℕ → List Row) → ((i : ℕ) → r i ≡ false → f i ≡ []) → (is : List ℕ) → list_any r is ≡ false → flat_map f is ≡ []
none_over r f ih [] h = refl
none_over r f ih (i ∷ is) h =
    let split : (b : Bool) → r i ≡ b → (b || (list_any r is)) ≡ false → f i ++ flat_map f is ≡ [] =
    elim [ true ↦ λ _ e. cc | false ↦ λ e no. (let a = ih i e in let b = none_over r f ih is no in rw (a, b) refl) ]
    in split (r i) refl h

module _ (plan : Stages) (build : ℕ → List Row) (n : ℕ) (bag : List Row) where
  -- a bag comes to no node that its node doesn't reach
  pub unreached : (k t : ℕ) → reaches_to plan n k t ≡ false → flow_to plan build (only n bag) k t ≡ []
  unreached =
      walk_both (λ t r x. r ≡ false → x ≡ []) false [] (reach_at plan n) (flow_at plan build (only n bag)) (λ t _. refl)
      (λ k r x ih h.
      let split : (b : Bool) → (b || (list_any r (feeds (plan.stage k)))) ≡ false → cond b bag [] ++ made plan build x k ≡ [] =
      elim [ true ↦ λ e. cc | false ↦ λ e. ap (λ l. flat_map (through build (plan.stage k)) l) (none_over r x ih (feeds (plan.stage k)) e) ]
      in split (eqb k n) h)
