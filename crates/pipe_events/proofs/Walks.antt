-- The equations of what is told of a node by those of its inputs.
use Rattle.std.proofs.Common.{◌≡◌, ℕ, zero, suc, ◌<◌, ◌≤◌, true, false, cond, eqb, ◌||◌, List, [], ◌∷◌, ◌++◌, refl, ap, sym, ◌∙◌, arith}
use Rattle.std.specs.List.{list_any}
use Rattle.pipe_plan.specs.Walk.{walk}
use Rattle.pipe_events.specs.Stages.{Stage, Stages, Scan, Each, Union, Sort, Joined, marks, feeds, reach_at, reaches}
use Rattle.pipe_events.proofs.WalkLemmas.{walk_is, walk_stays, Decides-no}
use Rattle.pipe_events.specs.Runs.{begins_of, marking_of, inputs_of, begins, begins_at, marking, marking_at, IsTree}
use Rattle.pipe_events.proofs.Members.{mem, head, any_alike, all_alike}

-- where the value of a node is made from those of smaller ones, a walk is its own equation
pub walk_over : {X : Type 0} (none : X) (f : (ℕ → X) → ℕ → X) → ((k : ℕ) (a b : ℕ → X) → ((i : ℕ) → i < k → a i ≡ b i) → f a k ≡ f b k) → (m k : ℕ) → k < m → walk none f m k ≡ f (walk none f m) k
walk_over none f alike m k lt = walk_is none f m k lt ∙ alike k (walk none f k) (walk none f m) (λ i less. sym (walk_stays none f m k i less (omega (arith, lt))))

-- and says nothing of the nodes above it
pub walk_past : {X : Type 0} (none : X) (f : (ℕ → X) → ℕ → X) (k n : ℕ) → k ≤ n → walk none f k n ≡ none
walk_past none f zero n le = refl
walk_past none f (suc k) n le = let apart = Decides-no n k (λ same. omega arith) in rw apart (walk_past none f k n (omega arith))

begins_alike : (k : ℕ) (x : Stage) (a b : ℕ → List ℕ) → ((i : ℕ) → mem i (inputs_of x) ≡ true → a i ≡ b i) → begins_of a k x ≡ begins_of b k x
begins_alike k (Scan rows) a b h = refl
begins_alike k (Each input op) a b h = h input (head input [])
begins_alike k (Union inputs) a b h = all_alike a b inputs h
begins_alike k (Sort input sorted) a b h = refl
begins_alike k (Joined j) a b h = elim (marks j) as (λ t. cond t (k ∷ []) (a j.probe) ≡ cond t (k ∷ []) (b j.probe)) [ true ↦ refl | false ↦ h j.probe (head j.probe (j.build ∷ [])) ]

marking_alike : (k : ℕ) (x : Stage) (a b : ℕ → List ℕ) → ((i : ℕ) → mem i (inputs_of x) ≡ true → a i ≡ b i) → marking_of a k x ≡ marking_of b k x
marking_alike k (Scan rows) a b h = refl
marking_alike k (Each input op) a b h = h input (head input [])
marking_alike k (Union inputs) a b h = all_alike a b inputs h
marking_alike k (Sort input sorted) a b h = refl
marking_alike k (Joined j) a b h =
    let probe = h j.probe (head j.probe (j.build ∷ [])) in
    elim (marks j) as (λ t. cond t (a j.probe ++ k ∷ []) (a j.probe) ≡ cond t (b j.probe ++ k ∷ []) (b j.probe)) [ true ↦ ap (λ l. l ++ k ∷ []) probe | false ↦ probe ]

pub feeds_read : (x : Stage) (i : ℕ) → mem i (feeds x) ≡ true → mem i (inputs_of x) ≡ true
feeds_read (Scan rows) i e = cc
feeds_read (Each input op) i e = e
feeds_read (Union inputs) i e = e
feeds_read (Sort input sorted) i e = cc
feeds_read (Joined j) i e = elim (eqb j.probe i) as (λ b. (b || false) ≡ true → (b || mem i (j.build ∷ [])) ≡ true) [ true ↦ λ _. refl | false ↦ λ none. cc ] e

module _ (plan : Stages) (tree : IsTree plan) where
  pub begins_is : (x : ℕ) → x < plan.size → begins plan x ≡ begins_of (begins plan) x (plan.stage x)
  begins_is x lt = walk_over [] (begins_at plan) (λ k a b h. begins_alike k (plan.stage k) a b (λ i e. h i (tree.smaller k i e))) plan.size x lt

  pub marking_is : (x : ℕ) → x < plan.size → marking plan x ≡ marking_of (marking plan) x (plan.stage x)
  marking_is x lt = walk_over [] (marking_at plan) (λ k a b h. marking_alike k (plan.stage k) a b (λ i e. h i (tree.smaller k i e))) plan.size x lt

  pub reach_is : (n x : ℕ) → x < plan.size → reaches plan n x ≡ (eqb x n || list_any (reaches plan n) (feeds (plan.stage x)))
  reach_is n x lt = walk_over false (reach_at plan n) (λ k a b h. ap (λ t. eqb k n || t) (any_alike a b (feeds (plan.stage k)) (λ i e. h i (tree.smaller k i (feeds_read (plan.stage k) i e))))) plan.size x lt
