-- A worker that alone has something on its way, from a node or above it, hands it on: then nothing is on its way, and
-- nothing below the node has changed.
use Rattle.std.proofs.Common.{◌≡◌, ℕ, zero, suc, ◌<◌, ◌≤◌, Bool, true, false, cond, eqb, List, [], ◌∷◌, ◌++◌, refl, ap, sym, ◌∙◌, subst, append-nil, arith, ◌⊎◌, inl, inr}
use Rattle.std.specs.Prelude.{not}
use Rattle.std.specs.List.{list_any}
use Rattle.std.proofs.lemmas.Bool.{cases_lt}
use Rattle.std.proofs.lemmas.Bool.Decides.{Decides-eqb}
use Rattle.pipe_schema.specs.Rows.{Row, eq_row}
use Rattle.pipe_expr.specs.declared.join_words.JoinType.{JoinType}
use Rattle.pipe_expr.specs.declared.join_words.JoinType.TheVariants as how
use Rattle.pipe_events.specs.Stages.{Key, JoinStage, Stage, Stages, Scan, Each, Union, Sort, Joined, IsStages, IsBelow, build_key, matches_built, marks}
use Rattle.pipe_events.specs.Worlds.{World, Load, Done, mine, others, is_of, with_load, given, given_by, newly_marked, seen, is_brought, mark_keys, mark_seen, mark_below, emitted, carried, is_sink, after}
use Rattle.pipe_events.proofs.Facts.{EachLoad, EachLoad-filter, EachLoad-weaker}
use Rattle.pipe_events.proofs.Tests.{any-never, filter-never}
use Rattle.pipe_events.proofs.Above.{none-carried}

-- a load of a worker, at a node or above it
pub record IsAbove (worker n : ℕ) (l : Load) : Type 0 where
  pub own : l.worker ≡ worker
  pub above : n ≤ l.node

-- marks change neither what is taken, flushed and closed nor a bag
pub record IsMarking (worker n : ℕ) (w v : World) : Type 0 where
  pub taken : v.taken ≡ w.taken
  pub flushed : v.flushed ≡ w.flushed
  pub closed : v.closed ≡ w.closed
  pub bag : v.bag ≡ w.bag
  pub loads : EachLoad (IsAbove worker n) v.pending

one-load : (worker n k : ℕ) (rows : List Row) (loads : List Load) → n ≤ k → EachLoad (IsAbove worker n) loads → EachLoad (IsAbove worker n) (with_load worker k rows loads)
one-load worker n k [] loads le h = h
one-load worker n k (r ∷ rows) loads le h = (record { own = refl; above = le }, h)

none-given : (kind : JoinType) (right_built : Bool) → given_by kind right_built [] ≡ []
none-given how.Inner right_built = refl
none-given how.Left right_built = refl
none-given how.Full right_built = refl
none-given how.Cross right_built = refl
none-given how.Semi true = refl
none-given how.Semi false = refl
none-given how.Anti right_built = refl

no-others : (worker n : ℕ) (loads : List Load) → EachLoad (IsAbove worker n) loads → others worker loads ≡ []
no-others worker n [] h = refl
no-others worker n (l ∷ loads) h =
    let own : eqb l.worker worker ≡ true = (Decides-eqb l.worker worker).1 h.0.own in
    rw own (no-others worker n loads h.1)

module _ (plan : Stages) (ok : IsStages plan) (worker n : ℕ) where
  -- nothing is carried below the node
  low : (v : World) (t : ℕ) → EachLoad (IsAbove worker n) v.pending → t < n → carried plan v.bag (mine worker v.pending) t ≡ []
  low v t h lt = none-carried plan v.bag n (mine worker v.pending) t (EachLoad-weaker (IsAbove worker n) (λ l. n ≤ l.node) (λ l is. is.above) (mine worker v.pending) (EachLoad-filter (IsAbove worker n) (is_of worker) v.pending h)) lt

  none-seen : (v : World) (j : JoinStage) → carried plan v.bag (mine worker v.pending) j.probe ≡ [] → (key : Key) → seen plan worker v j key ≡ false
  none-seen v j none key =
      any-never (λ r. cond (eq_row (build_key j r) key) (is_brought plan worker v j r) false) (v.bag j.build)
      (λ r.
      let brings : is_brought plan worker v j r ≡ false = ap (list_any (matches_built j r)) none in
      rw brings (elim (eq_row (build_key j r) key) as (λ b. cond b false false ≡ false) [ true ↦ refl | false ↦ refl ]))

  none-new : (v : World) (k : ℕ) (j : JoinStage) → carried plan v.bag (mine worker v.pending) j.probe ≡ [] → given (v.flag k) (seen plan worker v j) v.bag j ≡ []
  none-new v k j none =
      let nothing : newly_marked (v.flag k) (seen plan worker v j) v.bag j ≡ [] =
      filter-never (λ r. cond (seen plan worker v j (build_key j r)) (not (v.flag k (build_key j r))) false) (v.bag j.build)
      (λ r. let no = none-seen v j none (build_key j r) in rw no refl)
      in ap (given_by j.join.how j.right_built) nothing ∙ none-given j.join.how j.right_built

  marked : (k : ℕ) (w v : World) (j : JoinStage) → k < plan.size → IsBelow k (Joined j) → IsMarking worker n w v → IsMarking worker n w (mark_keys plan worker k j (seen plan worker v j) v)
  marked k w v j lt below h = record {
    taken = h.taken;
    flushed = h.flushed;
    closed = h.closed;
    bag = h.bag;
    loads =
        let sides : (k < n) ⊎ (n ≤ k) → EachLoad (IsAbove worker n) (with_load worker k (given (v.flag k) (seen plan worker v j) v.bag j) v.pending) =
        elim [
          | inl less ↦
              let none = none-new v k j (low v j.probe h.loads (omega (arith, less, below.0))) in
              subst (λ rows. EachLoad (IsAbove worker n) (with_load worker k rows v.pending)) (sym none) h.loads
          | inr le ↦ one-load worker n k (given (v.flag k) (seen plan worker v j) v.bag j) v.pending le h.loads
        ]
        in sides (cases_lt k n);
  }

  marked-at : (k : ℕ) (w v : World) (x : Stage) → k < plan.size → IsBelow k x → IsMarking worker n w v → IsMarking worker n w (mark_seen plan worker k v x)
  marked-at k w v (Scan rows) lt below h = h
  marked-at k w v (Each input op) lt below h = h
  marked-at k w v (Union inputs) lt below h = h
  marked-at k w v (Sort input sorted) lt below h = h
  marked-at k w v (Joined j) lt below h = elim (marks j) as (λ b. IsMarking worker n w (cond b (mark_keys plan worker k j (seen plan worker v j) v) v)) [ true ↦ marked k w v j lt below h | false ↦ h ]

  all-marked : (k : ℕ) (w : World) → k ≤ plan.size → EachLoad (IsAbove worker n) w.pending → IsMarking worker n w (mark_below plan worker k w)
  all-marked zero w le h = record { taken = refl; flushed = refl; closed = refl; bag = refl; loads = h }
  all-marked (suc k) w le h =
      let lt : k < plan.size = omega (arith, le) in
      marked-at k w (mark_below plan worker k w) (plan.stage k) lt (ok.below k lt) (all-marked k w (omega (arith, le)) h)

  -- what the worker hands on
  pub record IsHandedOn (w end : World) : Type 0 where
    pub idle : end.pending ≡ []
    pub taken : end.taken ≡ w.taken
    pub flushed : end.flushed ≡ w.flushed
    pub closed : end.closed ≡ w.closed
    pub below : (t : ℕ) → t < n → end.bag t ≡ w.bag t

  pub handed-on : (w : World) → EachLoad (IsAbove worker n) w.pending → IsHandedOn w (after plan w (Done worker))
  handed-on w h =
      let v = mark_below plan worker plan.size w in
      let still = all-marked plan.size w (omega arith) h in
      record {
        idle = no-others worker n v.pending still.loads;
        taken = still.taken;
        flushed = still.flushed;
        closed = still.closed;
        below = λ t lt.
            let none = low v t still.loads lt in
            let same : (emitted plan worker v).bag t ≡ v.bag t = rw none (elim (is_sink plan t) as (λ b. cond b (v.bag t ++ []) (v.bag t) ≡ v.bag t) [ true ↦ append-nil (v.bag t) | false ↦ refl ]) in
            same ∙ ap (λ bag. bag t) still.bag;
      }
