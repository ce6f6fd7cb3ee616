-- Marking the inputs of a marked node finds the same nodes.
use Rattle.std.proofs.Common.{◌≡◌, ℕ, zero, suc, ◌<◌, ◌≤◌, Bool, true, false, eqb, List, [], ◌∷◌, length, get_or, set, replicate, take, ◌++◌, refl, ap, sym, subst, ◌∙◌, arith, ◌⊎◌, inl, inr}
use Rattle.std.specs.Prelude.{◌||◌, ◌&&◌}
use Rattle.std.specs.List.{list_any}
use Rattle.std.proofs.Math.Bool.{or-true, or-false}
use Rattle.std.proofs.lemmas.Bool.{cases_lt}
use Rattle.std.proofs.lemmas.Bool.Decides.{Decides-eqb}
use Rattle.std.proofs.lemmas.List.{get_or-set_other, get_or-set_same, length-replicate}
use Rattle.pipe_plan.specs.Walk.{walk}
use Rattle.pipe_plan.specs.Node.{Node}
use Rattle.pipe_plan.specs.Under.{inputs_of, node_at, reaches_at, is_under}
use Rattle.pipe_check.specs.Checking.{is_marked, is_found}
use Rattle.pipe_check.proofs.Walks.{different, itself, walk-past, under-at, under-below, under-self}

-- ---- truth values

or-comm : (a b : Bool) → (a || b) ≡ (b || a)
or-comm true b = sym (or-true b)
or-comm false b = sym (or-false b)

or-here : (a b : Bool) → (a ≡ true → b ≡ true) → (b || a) ≡ b
or-here true b f = let e = f refl in rw e refl
or-here false b f = or-false b

-- ---- one more mark

pub marked-set : (marks : List Bool) (i n : ℕ) → i < length marks → is_marked (set marks i true) n ≡ (is_marked marks n || eqb i n)
marked-set marks i n lt =
    let split : (b : Bool) → eqb i n ≡ b → is_marked (set marks i true) n ≡ (is_marked marks n || b) = elim [
      | true ↦ λ e. (
          let same : i ≡ n = (Decides-eqb i n).0 e in
          let here : get_or (set marks i true) i false ≡ true = get_or-set_same marks i true false lt in
          let P : ℕ → Type 0 = λ m. get_or (set marks i true) m false ≡ (get_or marks m false || true) in
          subst P same (here ∙ sym (or-true (get_or marks i false))))
      | false ↦ λ e. (
          let other : n ≡ i → ⊥ = λ same. (let yes : eqb i n ≡ true = (Decides-eqb i n).1 (sym same) in cc) in
          get_or-set_other marks i n true false other ∙ sym (or-false (get_or marks n false)))
    ]
    in split (eqb i n) refl

or-same : (u : Bool) → (u || u) ≡ u
or-same true = refl
or-same false = refl

and-or : (a b u : Bool) → ((a || b) && u) ≡ ((a && u) || (b && u))
and-or true true u = sym (or-same u)
and-or true false u = sym (or-false u)
and-or false b u = refl

pub four : (a b c d : Bool) → ((a || b) || (c || d)) ≡ ((a || c) || (b || d))
four true b c d = refl
four false true true d = refl
four false true false d = refl
four false false true d = refl
four false false false d = refl

pub or-assoc : (a b c : Bool) → ((a || b) || c) ≡ (a || (b || c))
or-assoc true b c = refl
or-assoc false b c = refl

-- whether a node is i, or under i where i is smaller than k
abbrev found_by : List Node → ℕ → ℕ → ℕ → Bool
found_by nodes i m zero = eqb i m
found_by nodes i m (suc k) = found_by nodes i m k || (eqb i k && is_under nodes k m)

found_by-none : (nodes : List Node) (i m k : ℕ) → k ≤ i → found_by nodes i m k ≡ eqb i m
found_by-none nodes i m zero le = refl
found_by-none nodes i m (suc k) le =
    let e = different i k (λ same. omega arith) in
    let less = found_by-none nodes i m k (omega arith) in
    rw (e, less) (or-false (eqb i m))

found_by-done : (nodes : List Node) (i m k : ℕ) → i < k → k ≤ length nodes → found_by nodes i m k ≡ is_under nodes i m
found_by-done nodes i m zero lt le = absurd (omega arith)
found_by-done nodes i m (suc k) lt le =
    let split : (i < k) ⊎ (k ≤ i) → found_by nodes i m (suc k) ≡ is_under nodes i m = elim [
      | inl l ↦ (
          let e = different i k (λ same. omega arith) in
          let less = found_by-done nodes i m k l (omega arith) in
          rw (e, less) (or-false (is_under nodes i m)))
      | inr g ↦ (
          let same : k ≡ i = omega arith in
          let here : found_by nodes k m (suc k) ≡ is_under nodes k m =
          (let e = itself k in let none = found_by-none nodes k m k (omega arith) in
          let own : eqb k m ≡ true → is_under nodes k m ≡ true = λ is. (let P : ℕ → Type 0 = λ j. is_under nodes k j ≡ true in subst P ((Decides-eqb k m).0 is) (under-self nodes k (omega arith))) in
          rw (none, e) (or-comm (eqb k m) (is_under nodes k m) ∙ or-here (eqb k m) (is_under nodes k m) own)) in
          let P : ℕ → Type 0 = λ j. found_by nodes j m (suc k) ≡ is_under nodes j m in subst P same here)
    ]
    in split (cases_lt i k)

found-more : (nodes : List Node) (marks : List Bool) (i m k : ℕ) → i < length marks → is_found nodes (set marks i true) m k ≡ (is_found nodes marks m k || found_by nodes i m k)
found-more nodes marks i m zero lt = marked-set marks i m lt
found-more nodes marks i m (suc k) lt =
    let less = found-more nodes marks i m k lt in
    let mark = marked-set marks i k lt in
    let u = is_under nodes k m in
    ap (λ b. b || (is_marked (set marks i true) k && u)) less
    ∙ ap (λ b. (is_found nodes marks m k || found_by nodes i m k) || (b && u)) mark
    ∙ ap (λ b. (is_found nodes marks m k || found_by nodes i m k) || b) (and-or (is_marked marks k) (eqb i k) u)
    ∙ four (is_found nodes marks m k) (found_by nodes i m k) (is_marked marks k && u) (eqb i k && u)

-- a mark below k finds what is under it
pub found-set : (nodes : List Node) (marks : List Bool) (i m k : ℕ) → i < length marks → i < k → k ≤ length nodes → is_found nodes (set marks i true) m k ≡ (is_found nodes marks m k || is_under nodes i m)
found-set nodes marks i m k lt below le = found-more nodes marks i m k lt ∙ ap (λ b. is_found nodes marks m k || b) (found_by-done nodes i m k below le)

-- ---- the inputs of a node, one after another

pub input-marked : (nodes : List Node) (marks : List Bool) (i m n : ℕ) (xs : List ℕ) → i < length marks → i < n → n < length nodes
    → (is_found nodes (set marks i true) m n || list_any (walk false (reaches_at nodes m) n) xs) ≡ (is_found nodes marks m n || list_any (walk false (reaches_at nodes m) n) (i ∷ xs))
input-marked nodes marks i m n xs lt below there =
    let rest = list_any (walk false (reaches_at nodes m) n) xs in
    ap (λ b. b || rest) (found-set nodes marks i m n lt below (omega arith))
    ∙ or-assoc (is_found nodes marks m n) (is_under nodes i m) rest
    ∙ ap (λ b. is_found nodes marks m n || (b || rest)) (sym (under-below nodes n i m below there))

pub input-skipped : (nodes : List Node) (marks : List Bool) (i m n : ℕ) (xs : List ℕ) → n ≤ i
    → (is_found nodes marks m n || list_any (walk false (reaches_at nodes m) n) xs) ≡ (is_found nodes marks m n || list_any (walk false (reaches_at nodes m) n) (i ∷ xs))
input-skipped nodes marks i m n xs le =
    let rest = list_any (walk false (reaches_at nodes m) n) xs in
    ap (λ b. is_found nodes marks m n || (b || rest)) (sym (walk-past false (reaches_at nodes m) n i le))

-- ---- the nodes, one after another

found-marked : (nodes : List Node) (marks : List Bool) (m k : ℕ) → is_marked marks m ≡ true → is_found nodes marks m k ≡ true
found-marked nodes marks m zero e = e
found-marked nodes marks m (suc k) e = let less = found-marked nodes marks m k e in rw less refl

pub node-unmarked : (nodes : List Node) (marks : List Bool) (m k n : ℕ) → n ≡ suc k → is_marked marks k ≡ false → is_found nodes marks m k ≡ is_found nodes marks m n
node-unmarked nodes marks m k n is e =
    let here : is_found nodes marks m (suc k) ≡ is_found nodes marks m k = rw e (or-false (is_found nodes marks m k)) in
    sym here ∙ ap (is_found nodes marks m) (sym is)

pub node-marked : (nodes : List Node) (marks more : List Bool) (m k n : ℕ) → n ≡ suc k → k < length nodes → is_marked marks k ≡ true
    → is_found nodes more m k ≡ (is_found nodes marks m k || list_any (walk false (reaches_at nodes m) k) (inputs_of (node_at nodes k))) → is_found nodes more m k ≡ is_found nodes marks m n
node-marked nodes marks more m k n is there e f =
    let a = list_any (walk false (reaches_at nodes m) k) (inputs_of (node_at nodes k)) in
    let own : eqb k m ≡ true → is_found nodes marks m k ≡ true = λ same. (let P : ℕ → Type 0 = λ j. is_found nodes marks j k ≡ true in subst P ((Decides-eqb k m).0 same) (found-marked nodes marks k k e)) in
    let here : is_found nodes marks m (suc k) ≡ (is_found nodes marks m k || a) =
    rw (e, under-at nodes k m there) (sym (or-assoc (is_found nodes marks m k) (eqb k m) a) ∙ ap (λ b. b || a) (or-here (eqb k m) (is_found nodes marks m k) own)) in
    f ∙ sym here ∙ ap (is_found nodes marks m) (sym is)

none-found : (nodes : List Node) (marks : List Bool) (m k : ℕ) → ((i : ℕ) → is_marked marks i ≡ false) → is_found nodes marks m k ≡ false
none-found nodes marks m zero f = f m
none-found nodes marks m (suc k) f = let less = none-found nodes marks m k f in let here = f k in rw (less, here) refl

unmarked : (n i : ℕ) → is_marked (replicate n false) i ≡ false
unmarked zero i = refl
unmarked (suc n) zero = refl
unmarked (suc n) (suc i) = unmarked n i

pub root-marked : (nodes : List Node) (marks : List Bool) (root m n : ℕ) → root < length nodes → marks ≡ replicate (length nodes) false → n ≡ suc root → is_found nodes (set marks root true) m n ≡ is_under nodes root m
root-marked nodes marks root m n there e is =
    let sized : length marks ≡ length nodes = ap length e ∙ length-replicate (length nodes) false in
    let none : is_found nodes marks m n ≡ false = none-found nodes marks m n (λ i. ap (λ ms. is_marked ms i) e ∙ unmarked (length nodes) i) in
    found-set nodes marks root m n (omega arith) (omega arith) (omega arith) ∙ ap (λ b. b || is_under nodes root m) none

pub whole : {A : Type 0} (n : ℕ) (xs ys : List A) → length xs ≡ n → take n (xs ++ ys) ≡ xs
whole zero [] ys e = refl
whole (suc n) [] ys e = absurd (omega arith)
whole zero (x ∷ xs) ys e = absurd (omega arith)
whole (suc n) (x ∷ xs) ys e = ap (λ zs. x ∷ zs) (whole n xs ys (omega arith))
