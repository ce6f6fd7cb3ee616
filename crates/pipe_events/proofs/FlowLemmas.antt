-- What comes to each node of two bags together is what comes of the one and of the other.
use Rattle.std.proofs.Common.{ℕ, List, [], ◌++◌}
use Rattle.std.specs.List.{flat_map}
use Rattle.pipe_schema.specs.Rows.{Row}
use Rattle.pipe_schema.proofs.Weights.{SameBag, WithinBag, SameBag-refl, SameBag-trans, SameBag-append, SameBag-flat_map, SameBag-pieces, SameBag-pieces_apart}
use Rattle.pipe_events.specs.Stages.{Stages, flow_to, flow_at, made, through, feeds}
use Rattle.pipe_events.proofs.Bags.{SameBag-flat_map_append, WithinBag-append, WithinBag-pieces, WithinBag-flat_map, WithinBag-nothing, middle}
use Rattle.pipe_events.proofs.WalkLemmas.{walk_both, walk_three}

module _ (plan : Stages) (build : ℕ → List Row) where
  made_add : (k : ℕ) (a b c : ℕ → List Row) → ((n : ℕ) → SameBag (a n) (b n ++ c n)) → SameBag (made plan build a k) (made plan build b k ++ made plan build c k)
  made_add k a b c h =
      let op = through build (plan.stage k) in
      let is = feeds (plan.stage k) in
      SameBag-trans (SameBag-flat_map op (SameBag-trans (SameBag-pieces a (λ n. b n ++ c n) is h) (SameBag-pieces_apart b c is))) (SameBag-flat_map_append op (flat_map b is) (flat_map c is))

  -- the rows of two bags at each node are those of the one and those of the other
  pub flow_add : (a b c : ℕ → List Row) → ((n : ℕ) → SameBag (a n) (b n ++ c n)) → (k n : ℕ) → SameBag (flow_to plan build a k n) (flow_to plan build b k n ++ flow_to plan build c k n)
  flow_add a b c h =
      walk_three (λ n x y z. SameBag x (y ++ z)) [] [] [] (flow_at plan build a) (flow_at plan build b) (flow_at plan build c) (λ n. SameBag-refl [])
      (λ k x y z ih. SameBag-trans (SameBag-append (h k) (made_add k x y z ih)) (middle (b k) (c k) (made plan build y k) (made plan build z k)))

  -- the same rows at each node give the same rows
  pub flow_same : (a b : ℕ → List Row) → ((n : ℕ) → SameBag (a n) (b n)) → (k n : ℕ) → SameBag (flow_to plan build a k n) (flow_to plan build b k n)
  flow_same a b h =
      walk_both (λ n x y. SameBag x y) [] [] (flow_at plan build a) (flow_at plan build b) (λ n. SameBag-refl [])
      (λ k x y ih. SameBag-append (h k) (SameBag-flat_map (through build (plan.stage k)) (SameBag-pieces x y (feeds (plan.stage k)) ih)))

  -- no more rows at each node give no more rows
  pub flow_within : (a b : ℕ → List Row) → ((n : ℕ) → WithinBag (a n) (b n)) → (k n : ℕ) → WithinBag (flow_to plan build a k n) (flow_to plan build b k n)
  flow_within a b h =
      walk_both (λ n x y. WithinBag x y) [] [] (flow_at plan build a) (flow_at plan build b) (λ n. WithinBag-nothing [])
      (λ k x y ih. WithinBag-append (h k) (WithinBag-flat_map (through build (plan.stage k)) (WithinBag-pieces x y (feeds (plan.stage k)) ih)))
