-- Plans that grow: what stood is as it was, and what a new node gives.
use Rattle.std.proofs.Common.{◌≡◌, ℕ, zero, suc, ◌<◌, ◌≤◌, false, ◌||◌, cond, eqb, List, [], ◌∷◌, ◌++◌, length, refl, ap, ◌∙◌, arith, length-append}
use Rattle.std.specs.List.{list_any}
use Rattle.pipe_frame.specs.Frame.{Table}
use Rattle.pipe_plan.specs.Walk.{walk}
use Rattle.pipe_plan.specs.Node.{Node}
use Rattle.pipe_plan.specs.Under.{node_at, inputs_of, reaches_at, is_under}
use Rattle.pipe_plan.specs.Schemas.{node_schema, schema_at, schemas_to, schema_of}
use Rattle.pipe_plan.specs.PlanRows.{node_rows, rows_at, rows_to, rows_of}
use Rattle.pipe_check.proofs.Walks.{walk-at, walk-below}
use Rattle.pipe_rules.specs.Grown.{over}
use Rattle.pipe_rules.proofs.Parts.{same-function}

pub node-before : (xs ys : List Node) (k : ℕ) → k < length xs → node_at (xs ++ ys) k ≡ node_at xs k
node-before [] ys k lt = absurd (omega arith)
node-before (x ∷ xs) ys zero lt = refl
node-before (x ∷ xs) ys (suc k) lt = node-before xs ys k (omega arith)

pub node-new : (xs : List Node) (x : Node) (ys : List Node) → node_at (xs ++ x ∷ ys) (length xs) ≡ x
node-new [] x ys = refl
node-new (y ∷ xs) x ys = node-new xs x ys

pub walk-same : {X : Type 0} (none : X) (f g : (ℕ → X) → ℕ → X) (k : ℕ) → ((at : ℕ → X) (j : ℕ) → j < k → f at j ≡ g at j) → walk none f k ≡ walk none g k
walk-same none f g zero h = same-function (walk none f zero) (walk none g zero) (λ n. refl)
walk-same none f g (suc k) h =
    let ih = walk-same none f g k (λ at j lt. h at j (omega arith)) in
    same-function (walk none f (suc k)) (walk none g (suc k)) (λ n.
    ap (λ w. cond (eqb n k) (f w k) (w n)) ih
    ∙ ap (λ v. cond (eqb n k) v (walk none g k n)) (h (walk none g k) k (omega arith)))

module _ (frames : List Table) where
  schemas-stay : (xs ys : List Node) (k : ℕ) → k ≤ length xs → schemas_to (over frames (xs ++ ys)) k ≡ schemas_to (over frames xs) k
  schemas-stay xs ys k le = walk-same [] (schema_at (over frames (xs ++ ys))) (schema_at (over frames xs)) k (λ at j lt. ap (node_schema frames at) (node-before xs ys j (omega arith)))

  rows-stay : (xs ys : List Node) (k : ℕ) → k ≤ length xs → rows_to (over frames (xs ++ ys)) k ≡ rows_to (over frames xs) k
  rows-stay xs ys k le = walk-same [] (rows_at (over frames (xs ++ ys))) (rows_at (over frames xs)) k (λ at j lt.
      ap (λ s. node_rows frames s at (node_at (xs ++ ys) j)) (schemas-stay xs ys j (omega arith))
      ∙ ap (node_rows frames (schemas_to (over frames xs) j) at) (node-before xs ys j (omega arith)))

  longer : (xs ys : List Node) (k : ℕ) → k < length xs → k < length (xs ++ ys)
  longer xs ys k lt = (let e = length-append xs ys in omega arith)

  pub schema-stays : (xs ys : List Node) (k : ℕ) → k < length xs → schema_of (over frames (xs ++ ys)) k ≡ schema_of (over frames xs) k
  schema-stays xs ys k lt =
      walk-below [] (schema_at (over frames (xs ++ ys))) (length (xs ++ ys)) (length xs) k (longer xs ys k lt) lt
      ∙ ap (λ w. w k) (schemas-stay xs ys (length xs) (omega arith))

  pub rows-stays : (xs ys : List Node) (k : ℕ) → k < length xs → rows_of (over frames (xs ++ ys)) k ≡ rows_of (over frames xs) k
  rows-stays xs ys k lt =
      walk-below [] (rows_at (over frames (xs ++ ys))) (length (xs ++ ys)) (length xs) k (longer xs ys k lt) lt
      ∙ ap (λ w. w k) (rows-stay xs ys (length xs) (omega arith))

  one-longer : (xs : List Node) (x : Node) → length xs < length (xs ++ x ∷ [])
  one-longer xs x = (let e = length-append xs (x ∷ []) in let z : length (x ∷ []) ≡ 1 = refl in omega arith)

  pub schema-new : (xs : List Node) (x : Node) → schema_of (over frames (xs ++ x ∷ [])) (length xs) ≡ node_schema frames (schema_of (over frames xs)) x
  schema-new xs x =
      walk-at [] (schema_at (over frames (xs ++ x ∷ []))) (length (xs ++ x ∷ [])) (length xs) (one-longer xs x)
      ∙ ap (λ s. node_schema frames s (node_at (xs ++ x ∷ []) (length xs))) (schemas-stay xs (x ∷ []) (length xs) (omega arith))
      ∙ ap (node_schema frames (schema_of (over frames xs))) (node-new xs x [])

  pub rows-new : (xs : List Node) (x : Node) → rows_of (over frames (xs ++ x ∷ [])) (length xs) ≡ node_rows frames (schema_of (over frames xs)) (rows_of (over frames xs)) x
  rows-new xs x =
      walk-at [] (rows_at (over frames (xs ++ x ∷ []))) (length (xs ++ x ∷ [])) (length xs) (one-longer xs x)
      ∙ ap (λ s. node_rows frames s (rows_to (over frames (xs ++ x ∷ [])) (length xs)) (node_at (xs ++ x ∷ []) (length xs))) (schemas-stay xs (x ∷ []) (length xs) (omega arith))
      ∙ ap (λ r. node_rows frames (schema_of (over frames xs)) r (node_at (xs ++ x ∷ []) (length xs))) (rows-stay xs (x ∷ []) (length xs) (omega arith))
      ∙ ap (node_rows frames (schema_of (over frames xs)) (rows_of (over frames xs))) (node-new xs x [])

-- ---- what is under what

under-stay : (xs ys : List Node) (n k : ℕ) → k ≤ length xs → walk false (reaches_at (xs ++ ys) n) k ≡ walk false (reaches_at xs n) k
under-stay xs ys n k le = walk-same false (reaches_at (xs ++ ys) n) (reaches_at xs n) k (λ at j lt. ap (λ x. eqb j n || list_any at (inputs_of x)) (node-before xs ys j (omega arith)))

more-nodes : (xs ys : List Node) → length xs ≤ length (xs ++ ys)
more-nodes xs ys = (let e = length-append xs ys in omega arith)

pub under-stays : (xs ys : List Node) (k n : ℕ) → k < length xs → is_under (xs ++ ys) k n ≡ is_under xs k n
under-stays xs ys k n lt =
    walk-below false (reaches_at (xs ++ ys) n) (length (xs ++ ys)) (length xs) k (let e = more-nodes xs ys in omega arith) lt
    ∙ ap (λ w. w k) (under-stay xs ys n (length xs) (omega arith))

pub under-new : (xs : List Node) (x : Node) (n : ℕ) → is_under (xs ++ x ∷ []) (length xs) n ≡ (eqb (length xs) n || list_any (λ i. is_under xs i n) (inputs_of x))
under-new xs x n =
    walk-at false (reaches_at (xs ++ x ∷ []) n) (length (xs ++ x ∷ [])) (length xs) (let e = length-append xs (x ∷ []) in let z : length (x ∷ []) ≡ 1 = refl in omega arith)
    ∙ ap (λ below. eqb (length xs) n || list_any below (inputs_of (node_at (xs ++ x ∷ []) (length xs)))) (under-stay xs (x ∷ []) n (length xs) (omega arith))
    ∙ ap (λ y. eqb (length xs) n || list_any (λ i. is_under xs i n) (inputs_of y)) (node-new xs x [])
