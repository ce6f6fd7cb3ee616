-- Nodes that read smaller nodes alone, all the way down, and their paths.
use Rattle.std.proofs.Common.{◌≡◌, ℕ, zero, suc, ◌<◌, ◌≤◌, Bool, true, false, ◌&&◌, cond, eqb, ltb, List, [], ◌∷◌, ◌++◌, length, map, refl, sym, ap, subst, ◌∙◌, ◌⊎◌, inl, inr, arith}
use Rattle.std.specs.List.{list_all, flat_map}
use Rattle.std.proofs.lemmas.Bool.{cases_lt, and_parts, and_from, ltb-true}
use Rattle.std.proofs.lemmas.Bool.Decides.{Decides-eqb, Decides-ltb}
use Rattle.pipe_plan.specs.Walk.{walk}
use Rattle.pipe_plan.specs.Node.{Node}
use Rattle.pipe_plan.specs.Node as node
use Rattle.pipe_plan.specs.Under.{inputs_of, node_at}
use Rattle.pipe_plan.specs.Swap.{swaps}
use Rattle.pipe_driver.specs.declared.turn.Turn.{Turn}
use Rattle.pipe_driver.specs.declared.turn.Turn.TheVariants as turn
use Rattle.pipe_driver.specs.Branches.{Path, path_from, through, sorted_paths, union_paths, join_paths, is_scan_at, node_paths, paths_at, paths_of}
use Rattle.pipe_driver.specs.Climbing.{goes_down_at, goes_down, is_down, turn_at}

-- ---- walks

different : (n m : ℕ) → (n ≡ m → ⊥) → eqb n m ≡ false
different n m h =
    let split : (b : Bool) → eqb n m ≡ b → b ≡ false = elim [ true ↦ λ e. absurd (h ((Decides-eqb n m).0 e)) | false ↦ λ _. refl ]
    in split (eqb n m) refl

itself : (n : ℕ) → eqb n n ≡ true
itself n = (Decides-eqb n n).1 refl

pub walk-past : {X : Type 0} (none : X) (f : (ℕ → X) → ℕ → X) (k n : ℕ) → k ≤ n → walk none f k n ≡ none
walk-past none f zero n le = refl
walk-past none f (suc k) n le = let e = different n k (λ same. omega arith) in rw e (walk-past none f k n (omega arith))

pub walk-at : {X : Type 0} (none : X) (f : (ℕ → X) → ℕ → X) (k n : ℕ) → n < k → walk none f k n ≡ f (walk none f n) n
walk-at none f zero n lt = absurd (omega arith)
walk-at {X = X} none f (suc k) n lt =
    let split : (n < k) ⊎ (k ≤ n) → walk none f (suc k) n ≡ f (walk none f n) n = elim [
      | inl l ↦ (let e = different n k (λ same. omega arith) in rw e (walk-at none f k n l))
      | inr g ↦ (
          let same : k ≡ n = omega arith in
          let here : walk none f (suc k) k ≡ f (walk none f k) k = let e = itself k in rw e refl in
          let P : ℕ → Type 0 = λ m. walk none f (suc k) m ≡ f (walk none f m) m in subst P same here)
    ]
    in split (cases_lt n k)

pub walk-below : {X : Type 0} (none : X) (f : (ℕ → X) → ℕ → X) (k m n : ℕ) → n < k → n < m → walk none f k n ≡ walk none f m n
walk-below none f k m n a b = walk-at none f k n a ∙ sym (walk-at none f m n b)

-- ---- the way down

pub down-there : (nodes : List Node) (n : ℕ) → goes_down nodes n ≡ true → n < length nodes
down-there nodes n h =
    let split : (n < length nodes) ⊎ (length nodes ≤ n) → n < length nodes = elim [
      | inl l ↦ l
      | inr g ↦ absurd (let e = walk-past false (goes_down_at nodes) (length nodes) n g in let f : false ≡ true = sym e ∙ h in cc)
    ] in split (cases_lt n (length nodes))

-- what a walk up to n says of an input, where it says that it goes down
input-down : (nodes : List Node) (n i : ℕ) → n < length nodes → walk false (goes_down_at nodes) n i ≡ true → is_down nodes n i ≡ true
input-down nodes n i there h =
    let split : (i < n) ⊎ (n ≤ i) → is_down nodes n i ≡ true = elim [
      | inl l ↦ and_from (ltb i n) (goes_down nodes i) ((Decides-ltb i n).1 l) (walk-below false (goes_down_at nodes) (length nodes) n i (omega arith) l ∙ h)
      | inr g ↦ absurd (let e = walk-past false (goes_down_at nodes) n i g in let f : false ≡ true = sym e ∙ h in cc)
    ] in split (cases_lt i n)

inputs-down : (nodes : List Node) (n : ℕ) (is : List ℕ) → n < length nodes → list_all (walk false (goes_down_at nodes) n) is ≡ true → list_all (is_down nodes n) is ≡ true
inputs-down nodes n [] there h = refl
inputs-down nodes n (i ∷ is) there h =
    let parts = and_parts (walk false (goes_down_at nodes) n i) (list_all (walk false (goes_down_at nodes) n) is) h in
    and_from (is_down nodes n i) (list_all (is_down nodes n) is) (input-down nodes n i there parts.0) (inputs-down nodes n is there parts.1)

-- the inputs of a node that goes down are smaller and go down
pub down-inputs : (nodes : List Node) (n : ℕ) → goes_down nodes n ≡ true → list_all (is_down nodes n) (inputs_of (node_at nodes n)) ≡ true
down-inputs nodes n h =
    let there = down-there nodes n h in
    inputs-down nodes n (inputs_of (node_at nodes n)) there (sym (walk-at false (goes_down_at nodes) (length nodes) n there) ∙ h)

pub down-below : (nodes : List Node) (n i : ℕ) → is_down nodes n i ≡ true → i < n
down-below nodes n i h = ltb-true i n (and_parts (ltb i n) (goes_down nodes i) h).0

pub down-down : (nodes : List Node) (n i : ℕ) → is_down nodes n i ≡ true → goes_down nodes i ≡ true
down-down nodes n i h = (and_parts (ltb i n) (goes_down nodes i) h).1

-- ---- by what is done at a node

abbrev pub TurnDown : List Node → ℕ → Node → Turn → Type 0
TurnDown nodes n x turn.Begin = Unit {0}
TurnDown nodes n x (turn.Through i) = is_down nodes n i ≡ true
TurnDown nodes n x turn.Unite = list_all (is_down nodes n) (inputs_of x) ≡ true
TurnDown nodes n x (turn.Sort i) = is_down nodes n i ≡ true
TurnDown nodes n x (turn.Join built probed) = (is_down nodes n built ≡ true) × (is_down nodes n probed ≡ true)

one-down : (nodes : List Node) (n i : ℕ) → list_all (is_down nodes n) (i ∷ []) ≡ true → is_down nodes n i ≡ true
one-down nodes n i h = (and_parts (is_down nodes n i) true h).0

two-down : (nodes : List Node) (n l r : ℕ) (swapped : Bool) → list_all (is_down nodes n) (l ∷ r ∷ []) ≡ true → (is_down nodes n (cond swapped r l) ≡ true) × (is_down nodes n (cond swapped l r) ≡ true)
two-down nodes n l r true h = let p = and_parts (is_down nodes n l) (is_down nodes n r && true) h in ((and_parts (is_down nodes n r) true p.1).0, p.0)
two-down nodes n l r false h = let p = and_parts (is_down nodes n l) (is_down nodes n r && true) h in (p.0, (and_parts (is_down nodes n r) true p.1).0)

turn-down : (nodes : List Node) (n : ℕ) (x : Node) → list_all (is_down nodes n) (inputs_of x) ≡ true → TurnDown nodes n x (turn_at x)
turn-down nodes n (node.DataFrameScan frame columns) h = tt
turn-down nodes n (node.Filter input predicate) h = one-down nodes n input h
turn-down nodes n (node.SimpleProjection input columns) h = one-down nodes n input h
turn-down nodes n (node.Select input exprs) h = one-down nodes n input h
turn-down nodes n (node.HStack input exprs) h = one-down nodes n input h
turn-down nodes n (node.MapFunction input function) h = one-down nodes n input h
turn-down nodes n (node.Union inputs) h = h
turn-down nodes n (node.Join left right left_on right_on options) h = two-down nodes n left right (swaps options) h
turn-down nodes n (node.Sort input by options) h = one-down nodes n input h

-- the paths of a node by what is done at it
abbrev pub turn_paths : List Node → (ℕ → List Path) → ℕ → List ℕ → Turn → List Path
turn_paths nodes below n inputs turn.Begin = path_from n ∷ []
turn_paths nodes below n inputs (turn.Through i) = map (through n) (below i)
turn_paths nodes below n inputs turn.Unite = union_paths (list_all (is_scan_at nodes) inputs) n below inputs
turn_paths nodes below n inputs (turn.Sort i) = sorted_paths n false (below i)
turn_paths nodes below n inputs (turn.Join built probed) = join_paths n (below built) (below probed)

pub node-turn : (nodes : List Node) (below : ℕ → List Path) (n : ℕ) (x : Node) → node_paths nodes below n x ≡ turn_paths nodes below n (inputs_of x) (turn_at x)
node-turn nodes below n (node.DataFrameScan frame columns) = refl
node-turn nodes below n (node.Filter input predicate) = refl
node-turn nodes below n (node.SimpleProjection input columns) = refl
node-turn nodes below n (node.Select input exprs) = refl
node-turn nodes below n (node.HStack input exprs) = refl
node-turn nodes below n (node.MapFunction input function) = refl
node-turn nodes below n (node.Union inputs) = refl
node-turn nodes below n (node.Join left right left_on right_on options) = refl
node-turn nodes below n (node.Sort input by options) = refl

paths-below : (nodes : List Node) (n i : ℕ) → n < length nodes → is_down nodes n i ≡ true → walk [] (paths_at nodes) n i ≡ paths_of nodes i
paths-below nodes n i there h = let l = down-below nodes n i h in walk-below [] (paths_at nodes) n (length nodes) i l (omega arith)

all-below : (nodes : List Node) (n : ℕ) (is : List ℕ) → n < length nodes → list_all (is_down nodes n) is ≡ true → flat_map (walk [] (paths_at nodes) n) is ≡ flat_map (paths_of nodes) is
all-below nodes n [] there h = refl
all-below nodes n (i ∷ is) there h =
    let parts = and_parts (is_down nodes n i) (list_all (is_down nodes n) is) h in
    ap (λ l. l ++ flat_map (walk [] (paths_at nodes) n) is) (paths-below nodes n i there parts.0) ∙ ap (λ l. paths_of nodes i ++ l) (all-below nodes n is there parts.1)

union-below : (nodes : List Node) (n : ℕ) (is : List ℕ) (b : Bool) → n < length nodes → list_all (is_down nodes n) is ≡ true → union_paths b n (walk [] (paths_at nodes) n) is ≡ union_paths b n (paths_of nodes) is
union-below nodes n is true there h = refl
union-below nodes n is false there h = ap (map (through n)) (all-below nodes n is there h)

turn-below : (nodes : List Node) (n : ℕ) (x : Node) (t : Turn) → n < length nodes → TurnDown nodes n x t → turn_paths nodes (walk [] (paths_at nodes) n) n (inputs_of x) t ≡ turn_paths nodes (paths_of nodes) n (inputs_of x) t
turn-below nodes n x turn.Begin there h = refl
turn-below nodes n x (turn.Through i) there h = ap (map (through n)) (paths-below nodes n i there h)
turn-below nodes n x turn.Unite there h = union-below nodes n (inputs_of x) (list_all (is_scan_at nodes) (inputs_of x)) there h
turn-below nodes n x (turn.Sort i) there h = ap (sorted_paths n false) (paths-below nodes n i there h)
turn-below nodes n x (turn.Join built probed) there h =
    ap (λ l. join_paths n l (walk [] (paths_at nodes) n probed)) (paths-below nodes n built there h.0) ∙ ap (join_paths n (paths_of nodes built)) (paths-below nodes n probed there h.1)

-- what is known of a node that goes down, by what is done at it
pub record IsTurn (nodes : List Node) (n : ℕ) (x : Node) (t : Turn) : Type 0 where
  pub down : TurnDown nodes n x t
  pub paths : paths_of nodes n ≡ turn_paths nodes (paths_of nodes) n (inputs_of x) t

pub turn-is : (nodes : List Node) (n : ℕ) (x : Node) (t : Turn) → goes_down nodes n ≡ true → x ≡ node_at nodes n → t ≡ turn_at x → IsTurn nodes n x t
turn-is nodes n x t h is_x is_t =
    let there = down-there nodes n h in
    let inputs : list_all (is_down nodes n) (inputs_of x) ≡ true = ap (λ y. list_all (is_down nodes n) (inputs_of y)) is_x ∙ down-inputs nodes n h in
    let down : TurnDown nodes n x (turn_at x) = turn-down nodes n x inputs in
    let here : IsTurn nodes n x (turn_at x) = record {
      down = down;
      paths = walk-at [] (paths_at nodes) (length nodes) n there
          ∙ ap (node_paths nodes (walk [] (paths_at nodes) n) n) (sym is_x)
          ∙ node-turn nodes (walk [] (paths_at nodes) n) n x
          ∙ turn-below nodes n x (turn_at x) there down;
    } in
    let P : Turn → Type 0 = λ u. IsTurn nodes n x u in
    subst P (sym is_t) here
