-- The rows of a node are what it has of its own and what it makes of the rows that pass it.
use Rattle.std.proofs.Common.{◌≡◌, ℕ, ◌<◌, Bool, true, false, cond, List, [], ◌∷◌, ◌++◌, refl, ap}
use Rattle.std.specs.List.{flat_map}
use Rattle.pipe_schema.specs.Rows.{Row}
use Rattle.pipe_schema.proofs.Weights.{SameBag, SameBag-refl, SameBag-sym, SameBag-trans, SameBag-append, SameBag-append_comm, SameBag-flat_map}
use Rattle.pipe_expr.specs.Joins.{Join, join_rows}
use Rattle.pipe_expr.specs.Shares.{probe_share, built_share}
use Rattle.pipe_expr.proofs.ShareLaw.{right-built, left-built}
use Rattle.pipe_events.specs.Stages.{JoinStage, Stage, Scan, Each, Union, Sort, Joined, joined_rows, stage_rows, own_rows, through, feeds, IsBelow}
use Rattle.pipe_events.proofs.Bags.{SameBag-nil}

singles : {X : Type 0} (xs : List X) → flat_map (λ x. x ∷ []) xs ≡ xs
singles [] = refl
singles (x ∷ xs) = ap (λ l. x ∷ l) (singles xs)

-- the rows of a join, whichever side is built
join_split_by : (join : Join) (right_built : Bool) (probed built : List Row) →
    SameBag (cond right_built (join_rows join probed built) (join_rows join built probed)) (built_share join right_built probed built ++ flat_map (probe_share join right_built built) probed)
join_split_by join true probed built = SameBag-trans (SameBag-sym (right-built join.how join probed built)) (SameBag-append_comm (flat_map (probe_share join true built) probed) (built_share join true probed built))
join_split_by join false probed built = SameBag-trans (SameBag-sym (left-built join.how join built probed)) (SameBag-append_comm (flat_map (probe_share join false built) probed) (built_share join false probed built))

pub join_split : (j : JoinStage) (probed built : List Row) → SameBag (joined_rows j probed built) (built_share j.join j.right_built probed built ++ flat_map (probe_share j.join j.right_built built) probed)
join_split j probed built = join_split_by j.join j.right_built probed built

-- the rows of a node: one case for each kind
pub node_split : (k : ℕ) (x : Stage) (at all : ℕ → List Row) → IsBelow k x → ((i : ℕ) → i < k → all i ≡ at i) →
    SameBag (stage_rows at x) (own_rows all x ++ flat_map (through all x) (flat_map at (feeds x)))
node_split k (Scan rows) at all h same = SameBag-sym (SameBag-nil rows)
node_split k (Each i op) at all h same = SameBag-sym (SameBag-flat_map op (SameBag-nil (at i)))
node_split k (Union is) at all h same = let e = singles (flat_map at is) in rw e (SameBag-refl _)
node_split k (Sort i sorted) at all h same = let e = same i h in rw e (SameBag-sym (SameBag-nil (sorted (at i))))
node_split k (Joined j) at all h same =
    let e = same j.probe h.0 in
    let e' = same j.build h.1 in
    let split : SameBag (joined_rows j (at j.probe) (at j.build)) (built_share j.join j.right_built (all j.probe) (all j.build) ++ flat_map (probe_share j.join j.right_built (all j.build)) (at j.probe ++ [])) =
    rw (e, e') (SameBag-trans (join_split j (at j.probe) (at j.build)) (SameBag-append (SameBag-refl _) (SameBag-flat_map (probe_share j.join j.right_built (at j.build)) (SameBag-sym (SameBag-nil (at j.probe)))))) in
    split
