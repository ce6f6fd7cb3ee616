-- What a bag brings doesn't depend on the order of the build sides that it passes.
use Rattle.std.proofs.Common.{◌≡◌, ℕ, zero, suc, ◌<◌, ◌≤◌, Bool, true, false, cond, eqb, List, [], ◌∷◌, ◌++◌, refl, ◌∙◌, subst, arith}
use Rattle.std.specs.List.{flat_map}
use Rattle.pipe_schema.specs.Rows.{Row}
use Rattle.pipe_schema.proofs.Weights.{SameBag, SameBag-refl, SameBag-trans, SameBag-append, SameBag-flat_map, SameBag-pieces, SameBag-map, SameBag-filter}
use Rattle.pipe_expr.specs.Joins.{Join}
use Rattle.pipe_expr.specs.Shares.{meets, probe_pair, probe_pairs, pairs_or_padding, share_by, probe_share}
use Rattle.pipe_expr.specs.declared.join_words.JoinType.{JoinType}
use Rattle.pipe_expr.specs.declared.join_words.JoinType.TheVariants as how
use Rattle.pipe_events.specs.Stages.{JoinStage, Stage, Stages, Scan, Each, Union, Sort, Joined, flow_to, flow_at, through, feeds, reach_at, reaches_to, reaches, IsBelow, IsStages, only}
use Rattle.pipe_events.proofs.WalkLemmas.{walk_stays}
use Rattle.pipe_events.proofs.Settled.{unreached}
use Rattle.pipe_events.proofs.Tests.{any-same}

pairs_alike : (j : Join) (right_built : Bool) (a b : List Row) → SameBag a b → (p : Row) → SameBag (probe_pairs j right_built a p) (probe_pairs j right_built b p)
pairs_alike j right_built a b h p = SameBag-map (probe_pair j right_built p) (SameBag-filter (meets j right_built p) h)

padded_alike : (j : Join) (right_built : Bool) (a b : List Row) → SameBag a b → (p : Row) → SameBag (pairs_or_padding j right_built a p) (pairs_or_padding j right_built b p)
padded_alike j right_built a b h p = let e = any-same (meets j right_built p) h in SameBag-append (pairs_alike j right_built a b h p) (rw e (SameBag-refl _))

-- a probed row gives the same over a build side in another order: one case for each kind of join
share_alike : (kind : JoinType) (right_built : Bool) (j : Join) (a b : List Row) → SameBag a b → (p : Row) → SameBag (share_by kind j right_built a p) (share_by kind j right_built b p)
share_alike how.Inner right_built j a b h p = pairs_alike j right_built a b h p
share_alike how.Left true j a b h p = padded_alike j true a b h p
share_alike how.Left false j a b h p = pairs_alike j false a b h p
share_alike how.Full right_built j a b h p = padded_alike j right_built a b h p
share_alike how.Cross right_built j a b h p = pairs_alike j right_built a b h p
share_alike how.Semi true j a b h p = let e = any-same (meets j true p) h in rw e (SameBag-refl _)
share_alike how.Semi false j a b h p = SameBag-refl []
share_alike how.Anti true j a b h p = let e = any-same (meets j true p) h in rw e (SameBag-refl _)
share_alike how.Anti false j a b h p = SameBag-refl []

-- what a join makes, over build sides in another order, where they are the same or no row comes
joined_other : (op : List Row → Row → List Row) → ((a b : List Row) → SameBag a b → (l : Row) → SameBag (op a l) (op b l)) → (j : JoinStage) (s t f g : ℕ → List Row) → ((n : ℕ) → SameBag (f n) (g n)) → (r : ℕ → Bool) →
    (r j.probe ≡ false → f j.probe ≡ []) → (r j.probe ≡ true → SameBag (s j.build) (t j.build)) →
    SameBag (flat_map (op (s j.build)) (flat_map f (j.probe ∷ []))) (flat_map (op (t j.build)) (flat_map g (j.probe ∷ [])))
joined_other op alike j s t f g ih r idle built =
    let after : SameBag (flat_map (op (t j.build)) (f j.probe ++ [])) (flat_map (op (t j.build)) (g j.probe ++ [])) = SameBag-flat_map (op (t j.build)) (SameBag-pieces f g (j.probe ∷ []) ih) in
    let split : (b : Bool) → r j.probe ≡ b → SameBag (flat_map (op (s j.build)) (f j.probe ++ [])) (flat_map (op (t j.build)) (f j.probe ++ [])) =
    elim [
      | true ↦ λ e. SameBag-pieces (op (s j.build)) (op (t j.build)) (f j.probe ++ []) (alike (s j.build) (t j.build) (built e))
      | false ↦ λ e. (let gone = idle e in rw gone (SameBag-refl []))
    ]
    in SameBag-trans (split (r j.probe) refl) after

-- what a node makes, over build sides in another order
made_other : (x : Stage) (s t : ℕ → List Row) (f g : ℕ → List Row) → ((n : ℕ) → SameBag (f n) (g n)) → (r : ℕ → Bool) →
    ((join : JoinStage) → x ≡ Joined join → r join.probe ≡ false → f join.probe ≡ []) → ((join : JoinStage) → x ≡ Joined join → r join.probe ≡ true → SameBag (s join.build) (t join.build)) →
    SameBag (flat_map (through s x) (flat_map f (feeds x))) (flat_map (through t x) (flat_map g (feeds x)))
made_other (Scan rows) s t f g ih r idle built = SameBag-refl _
made_other (Each i op) s t f g ih r idle built = SameBag-flat_map op (SameBag-pieces f g (i ∷ []) ih)
made_other (Union is) s t f g ih r idle built = SameBag-flat_map (λ l. l ∷ []) (SameBag-pieces f g is ih)
made_other (Sort i sorted) s t f g ih r idle built = SameBag-refl _
made_other (Joined j) s t f g ih r idle built = joined_other (probe_share j.join j.right_built) (share_alike j.join.how j.right_built j.join) j s t f g ih r (idle j refl) (built j refl)

-- what a bag brings, over build sides in another order at the joins that it passes
pub other_build : (plan : Stages) → IsStages plan → (s t : ℕ → List Row) (n : ℕ) (bag : List Row) →
    ((j : ℕ) (join : JoinStage) → j < plan.size → plan.stage j ≡ Joined join → reaches plan n join.probe ≡ true → SameBag (s join.build) (t join.build)) →
    (k : ℕ) → k ≤ plan.size → (m : ℕ) → SameBag (flow_to plan s (only n bag) k m) (flow_to plan t (only n bag) k m)
other_build plan ok s t n bag h zero le m = SameBag-refl []
other_build plan ok s t n bag h (suc k) le m =
    let ih = other_build plan ok s t n bag h k (omega arith) in
    let own : List Row = only n bag k in
    elim (eqb m k) as (λ b. SameBag (cond b (flow_at plan s (only n bag) (flow_to plan s (only n bag) k) k) (flow_to plan s (only n bag) k m)) (cond b (flow_at plan t (only n bag) (flow_to plan t (only n bag) k) k) (flow_to plan t (only n bag) k m))) [
      | true ↦ SameBag-append (SameBag-refl own) (made_other (plan.stage k) s t _ _ ih (reaches_to plan n k)
          (λ join e r. unreached plan s n bag k join.probe r)
          (λ join e r.
          let b : (join.probe < k) × (join.build < k) = subst (IsBelow k) e (ok.below k (omega arith)) in
          h k join (omega arith) e (walk_stays false (reach_at plan n) plan.size k join.probe b.0 (omega arith) ∙ r)))
      | false ↦ ih m
    ]
