-- What is on its way from a node comes to no node below it.
use Rattle.std.proofs.Common.{◌≡◌, ℕ, zero, suc, ◌<◌, ◌≤◌, Bool, true, false, cond, eqb, List, [], ◌∷◌, ◌++◌, refl, ap, ◌∙◌, arith, ◌⊎◌, inl, inr}
use Rattle.std.specs.List.{flat_map}
use Rattle.std.proofs.lemmas.Bool.{cases_lt}
use Rattle.std.proofs.lemmas.Bool.Decides.{Decides-eqb}
use Rattle.pipe_schema.specs.Rows.{Row}
use Rattle.pipe_plan.specs.Walk.{walk}
use Rattle.pipe_events.specs.Stages.{Stages, only, through, feeds, flow_at, flow_to}
use Rattle.pipe_events.specs.Worlds.{Load, carried}
use Rattle.pipe_events.proofs.Bags.{flat_nil}
use Rattle.pipe_events.proofs.Facts.{EachLoad}
use Rattle.pipe_events.proofs.WalkLemmas.{Decides-no}

walk-past : {X : Type 0} (none : X) (f : (ℕ → X) → ℕ → X) (k n : ℕ) → k ≤ n → walk none f k n ≡ none
walk-past none f zero n le = refl
walk-past none f (suc k) n le = let e = Decides-no n k (λ same. omega arith) in rw e (walk-past none f k n (omega arith))

module _ (plan : Stages) (built : ℕ → List Row) where
  none-below : (n : ℕ) (rows : List Row) (k t : ℕ) → t < n → flow_to plan built (only n rows) k t ≡ []
  none-below n rows zero t lt = refl
  none-below n rows (suc k) t lt =
      let at : ℕ → List Row = flow_to plan built (only n rows) k in
      let split : (b : Bool) → eqb t k ≡ b → cond b (flow_at plan built (only n rows) at k) (at t) ≡ [] =
      elim [
        | true ↦ λ e.
            let same : t ≡ k = (Decides-eqb t k).0 e in
            let own : eqb k n ≡ false = Decides-no k n (λ is. omega arith) in
            let nothing : (i : ℕ) → at i ≡ [] = λ i.
            (let sides : (i < n) ⊎ (n ≤ i) → at i ≡ [] =
            elim [
              | inl less ↦ none-below n rows k i less
              | inr past ↦ walk-past [] (flow_at plan built (only n rows)) k i (omega arith)
            ]
            in sides (cases_lt i n)) in
            let passes : flat_map at (feeds (plan.stage k)) ≡ [] = flat_nil at (feeds (plan.stage k)) nothing in
            ap (λ b. cond b rows [] ++ flat_map (through built (plan.stage k)) (flat_map at (feeds (plan.stage k)))) own
            ∙ ap (flat_map (through built (plan.stage k))) passes
        | false ↦ λ _. none-below n rows k t lt
      ]
      in split (eqb t k) refl

  pub none-carried : (n : ℕ) (loads : List Load) (t : ℕ) → EachLoad (λ l. n ≤ l.node) loads → t < n → carried plan built loads t ≡ []
  none-carried n [] t h lt = refl
  none-carried n (l ∷ loads) t h lt =
      let here : flow_to plan built (only l.node l.rows) plan.size t ≡ [] = none-below l.node l.rows plan.size t (omega (arith, h.0, lt)) in
      let rest = none-carried n loads t h.1 lt in
      rw (here, rest) refl
