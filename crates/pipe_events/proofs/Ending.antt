-- The end of a load of work keeps the facts: all marks, and then the emission.
use Rattle.std.proofs.Common.{◌≡◌, ℕ, zero, suc, ◌<◌, ◌≤◌, Bool, true, false, cond, eqb, List, [], ◌∷◌, refl, sym, ◌∙◌, subst, arith}
use Rattle.std.proofs.lemmas.Bool.Decides.{Decides-eqb}
use Rattle.std.specs.Prelude.{not}
use Rattle.std.specs.List.{list_any}
use Rattle.pipe_schema.specs.Rows.{Row, eq_row}
use Rattle.pipe_schema.proofs.Weights.{eq_row-refl}
use Rattle.pipe_events.specs.Stages.{JoinStage, Stages, Stage, Scan, Each, Union, Sort, Joined, rows, reach_at, reaches, build_key, matches_built, IsBelow, IsStages, marks}
use Rattle.pipe_events.specs.Worlds.{World, Load, mine, with_load, seen, mark_keys, mark_seen, mark_below, emitted, given, carried}
use Rattle.pipe_events.proofs.WalkLemmas.{walk_stays}
use Rattle.pipe_events.proofs.Tests.{any_known, any-weaker}
use Rattle.pipe_events.proofs.Settled.{unreached}
use Rattle.pipe_events.proofs.Facts.{Holds}
use Rattle.pipe_events.proofs.Ways.{eqb-refl, reach_small}
use Rattle.pipe_events.proofs.Marking.{kept_keys}
use Rattle.pipe_events.proofs.Emitting.{kept_emitted}

-- ---- marking all and emitting

module _ (plan : Stages) (ok : IsStages plan) (worker : ℕ) where
  kept_seen : (v : World) → Holds plan v → (k : ℕ) → k < plan.size → (x : Stage) → plan.stage k ≡ x → Holds plan (mark_seen plan worker k v x)
  kept_seen v kept k lt (Scan rows) e = kept
  kept_seen v kept k lt (Each i op) e = kept
  kept_seen v kept k lt (Union is) e = kept
  kept_seen v kept k lt (Sort i sorted) e = kept
  kept_seen v kept k lt (Joined join) e =
      elim (marks join) as (λ b. Holds plan (cond b (mark_keys plan worker k join (seen plan worker v join) v) v)) [ true ↦ kept_keys plan ok v kept worker k (seen plan worker v join) join lt e (λ key f. f) | false ↦ kept ]

  kept_below : (w : World) → Holds plan w → (k : ℕ) → k ≤ plan.size → Holds plan (mark_below plan worker k w)
  kept_below w kept zero le = kept
  kept_below w kept (suc k) le = kept_seen (mark_below plan worker k w) (kept_below w kept k (omega arith)) k (omega arith) (plan.stage k) refl

  -- a node brings nothing to a lower one
  reach_down : (n t : ℕ) → t < n → t < plan.size → reaches plan n t ≡ false
  reach_down n t lt lt' = walk_stays false (reach_at plan n) plan.size (suc t) t (omega arith) lt' ∙ reach_small plan n (suc t) t lt

  -- a load of a node leaves what comes to a lower one
  mine_with : (build : ℕ → List Row) (k : ℕ) (bag : List Row) (loads : List Load) (t : ℕ) → t < k → t < plan.size → carried plan build (mine worker (with_load worker k bag loads)) t ≡ carried plan build (mine worker loads) t
  mine_with build k [] loads t lt lt' = refl
  mine_with build k (r ∷ rs) loads t lt lt' =
      let self = eqb-refl worker in
      let none = unreached plan build k (r ∷ rs) plan.size t (reach_down k t lt lt') in
      rw self (rw none refl)

  -- each key that the worker's rows match at a join below k is flagged
  abbrev AllMarked : World → ℕ → Type 0
  AllMarked v k = (j : ℕ) (join : JoinStage) → j < k → j < plan.size → plan.stage j ≡ Joined join → marks join ≡ true →
      list_any (λ r. cond (list_any (matches_built join r) (carried plan v.bag (mine worker v.pending) join.probe)) (not (v.flag j (build_key join r))) false) (v.bag join.build) ≡ false

  mark_more : (v : World) (k : ℕ) → k < plan.size → AllMarked v k → (at : JoinStage) → plan.stage k ≡ Joined at → AllMarked (mark_keys plan worker k at (seen plan worker v at) v) (suc k)
  mark_more v k lt h at e j join lt' below is marking =
      let keys = seen plan worker v at in
      let v' = mark_keys plan worker k at keys v in
      let b : (join.probe < j) × (join.build < j) = subst (IsBelow j) is (ok.below j below) in
      let same_rows = mine_with v.bag k (given (v.flag k) keys v.bag at) v.pending join.probe (let p = b.0 in omega arith) (let p = b.0 in omega arith) in
      let split : (b : Bool) → eqb j k ≡ b → list_any (λ r. cond (list_any (matches_built join r) (carried plan v.bag (mine worker v.pending) join.probe)) (not (v'.flag j (build_key join r))) false) (v.bag join.build) ≡ false =
      elim [
        | true ↦ λ s.
            let same : j ≡ k = (Decides-eqb j k).0 s in
            let joins : at ≡ join = (let is' = subst (λ i. plan.stage i ≡ Joined join) same is in let g : Joined at ≡ Joined join = sym e ∙ is' in cc) in
            any_known eq_row eq_row-refl (build_key join) (λ r. list_any (matches_built join r) (carried plan v.bag (mine worker v.pending) join.probe)) (v'.flag j) (v.bag join.build)
            (λ key f.
            let known : seen plan worker v at key ≡ true = subst (λ i. seen plan worker v i key ≡ true) (sym joins) f in
            rw (s, known) refl)
        | false ↦ λ s. any-weaker _ (λ r. cond (list_any (matches_built join r) (carried plan v.bag (mine worker v.pending) join.probe)) (not (v.flag j (build_key join r))) false) (v.bag join.build)
            (λ r. rw s (λ f. f))
            (h j join (let apart : j ≡ k → ⊥ = λ same. (let t : eqb j k ≡ true = (Decides-eqb j k).1 same in cc) in omega arith) below is marking)
      ]
      in rw same_rows (split (eqb j k) refl)

  no_more : (v : World) (k : ℕ) → AllMarked v k → ((join : JoinStage) → plan.stage k ≡ Joined join → marks join ≡ true → ⊥) → AllMarked v (suc k)
  no_more v k h none j join lt below is marking =
      let split : (b : Bool) → eqb j k ≡ b → list_any (λ r. cond (list_any (matches_built join r) (carried plan v.bag (mine worker v.pending) join.probe)) (not (v.flag j (build_key join r))) false) (v.bag join.build) ≡ false =
      elim [
        | true ↦ λ s. absurd (none join (subst (λ i. plan.stage i ≡ Joined join) ((Decides-eqb j k).0 s) is) marking)
        | false ↦ λ s. h j join (let apart : j ≡ k → ⊥ = λ same. (let t : eqb j k ≡ true = (Decides-eqb j k).1 same in cc) in omega arith) below is marking
      ]
      in split (eqb j k) refl

  one_more : (v : World) (k : ℕ) → k < plan.size → AllMarked v k → (x : Stage) → plan.stage k ≡ x → AllMarked (mark_seen plan worker k v x) (suc k)
  one_more v k lt h (Scan rows) e = no_more v k h (λ join is _. let g : Scan rows ≡ Joined join = sym e ∙ is in cc)
  one_more v k lt h (Each i op) e = no_more v k h (λ join is _. let g : Each i op ≡ Joined join = sym e ∙ is in cc)
  one_more v k lt h (Union is') e = no_more v k h (λ join is _. let g : Union is' ≡ Joined join = sym e ∙ is in cc)
  one_more v k lt h (Sort i sorted) e = no_more v k h (λ join is _. let g : Sort i sorted ≡ Joined join = sym e ∙ is in cc)
  one_more v k lt h (Joined at) e =
      elim (marks at) as (λ b. marks at ≡ b → AllMarked (cond b (mark_keys plan worker k at (seen plan worker v at) v) v) (suc k)) [
        | true ↦ λ _. mark_more v k lt h at e
        | false ↦ λ m. no_more v k h (λ join is marking. let g : Joined at ≡ Joined join = sym e ∙ is in let same : at ≡ join = cc in let m' = subst (λ i. marks i ≡ false) same m in cc)
      ] refl

  all_marked : (w : World) (k : ℕ) → k ≤ plan.size → AllMarked (mark_below plan worker k w) k
  all_marked w zero le = λ j join lt. absurd (omega arith)
  all_marked w (suc k) le = one_more (mark_below plan worker k w) k (omega arith) (all_marked w k (omega arith)) (plan.stage k) refl

  pub kept_done : (w : World) → Holds plan w → Holds plan (emitted plan worker (mark_below plan worker plan.size w))
  kept_done w kept =
      kept_emitted plan ok (mark_below plan worker plan.size w) (kept_below w kept plan.size (omega arith)) worker
      (λ j join lt is marking. all_marked w plan.size (omega arith) j join lt lt is marking)
