-- Laws of the walk over nodes, and of what is under what.
use Rattle.std.proofs.Common.{◌≡◌, ℕ, zero, suc, ◌<◌, ◌≤◌, Bool, true, false, eqb, List, [], ◌∷◌, length, refl, ap, sym, subst, ◌∙◌, arith, ◌⊎◌, inl, inr}
use Rattle.std.specs.Prelude.{◌||◌}
use Rattle.std.specs.List.{list_any}
use Rattle.std.proofs.Math.Bool.{or-true}
use Rattle.std.proofs.lemmas.Bool.{cases_lt}
use Rattle.std.proofs.lemmas.Bool.Decides.{Decides-eqb}
use Rattle.pipe_plan.specs.Walk.{walk}
use Rattle.pipe_plan.specs.Node.{Node}
use Rattle.pipe_plan.specs.Plan.{Plan}
use Rattle.pipe_plan.specs.Under.{inputs_of, node_at, reaches_at, is_under}
use Rattle.pipe_plan.specs.Schemas.{node_schema, schema_at, schemas_to, schema_of}

-- ---- the walk

pub different : (n m : ℕ) → (n ≡ m → ⊥) → eqb n m ≡ false
different n m h =
    let split : (b : Bool) → eqb n m ≡ b → b ≡ false = elim [ true ↦ λ e. absurd (h ((Decides-eqb n m).0 e)) | false ↦ λ _. refl ]
    in split (eqb n m) refl

pub itself : (n : ℕ) → eqb n n ≡ true
itself n = (Decides-eqb n n).1 refl

-- a walk has nothing at the nodes that it hasn't come to
pub walk-past : {X : Type 0} (none : X) (f : (ℕ → X) → ℕ → X) (k n : ℕ) → k ≤ n → walk none f k n ≡ none
walk-past none f zero n le = refl
walk-past none f (suc k) n le = let e = different n k (λ same. omega arith) in rw e (walk-past none f k n (omega arith))

-- the value of a node is made from those below it
pub walk-at : {X : Type 0} (none : X) (f : (ℕ → X) → ℕ → X) (k n : ℕ) → n < k → walk none f k n ≡ f (walk none f n) n
walk-at none f zero n lt = absurd (omega arith)
walk-at {X = X} none f (suc k) n lt =
    let split : (n < k) ⊎ (k ≤ n) → walk none f (suc k) n ≡ f (walk none f n) n = elim [
      | inl l ↦ (let e = different n k (λ same. omega arith) in rw e (walk-at none f k n l))
      | inr g ↦ (
          let same : k ≡ n = omega arith in
          let here : walk none f (suc k) k ≡ f (walk none f k) k = let e = itself k in rw e refl in
          let P : ℕ → Type 0 = λ m. walk none f (suc k) m ≡ f (walk none f m) m in subst P same here)
    ]
    in split (cases_lt n k)

-- and is the same for each walk that has come to it
pub walk-below : {X : Type 0} (none : X) (f : (ℕ → X) → ℕ → X) (k m n : ℕ) → n < k → n < m → walk none f k n ≡ walk none f m n
walk-below none f k m n a b = walk-at none f k n a ∙ sym (walk-at none f m n b)

-- ---- schemas

pub schema-own : (plan : Plan) (n : ℕ) → n < length plan.nodes → schema_of plan n ≡ node_schema plan.frames (schemas_to plan n) (node_at plan.nodes n)
schema-own plan n lt = walk-at [] (schema_at plan) (length plan.nodes) n lt

pub schema-below : (plan : Plan) (n i : ℕ) → i < n → n < length plan.nodes → schemas_to plan n i ≡ schema_of plan i
schema-below plan n i lt there = walk-below [] (schema_at plan) n (length plan.nodes) i lt (omega arith)

-- ---- members of lists of numbers

abbrev pub member : ℕ → List ℕ → Bool
member i xs = list_any (λ m. eqb m i) xs

pub any-member : (p : ℕ → Bool) (xs : List ℕ) (i : ℕ) → member i xs ≡ true → p i ≡ true → list_any p xs ≡ true
any-member p [] i h e = cc
any-member p (x ∷ xs) i h e =
    let split : (b : Bool) → eqb x i ≡ b → (b || member i xs) ≡ true → (p x || list_any p xs) ≡ true = elim [
      | true ↦ λ is g. (let here : p x ≡ true = ap p ((Decides-eqb x i).0 is) ∙ e in rw here refl)
      | false ↦ λ is g. (let more : list_any p xs ≡ true = any-member p xs i g e in rw more (or-true (p x)))
    ]
    in split (eqb x i) refl h

-- what passes at no number of a list passes at none of its members
pub none-member : (p : ℕ → Bool) (xs : List ℕ) (i : ℕ) → list_any p xs ≡ false → member i xs ≡ true → p i ≡ false
none-member p xs i h m =
    let split : (b : Bool) → p i ≡ b → b ≡ false = elim [
      | true ↦ λ e. (let yes : list_any p xs ≡ true = any-member p xs i m e in cc)
      | false ↦ λ e. refl
    ]
    in split (p i) refl

any-mono : (p q : ℕ → Bool) (xs : List ℕ) → ((j : ℕ) → p j ≡ true → q j ≡ true) → list_any p xs ≡ true → list_any q xs ≡ true
any-mono p q [] f h = cc
any-mono p q (x ∷ xs) f h =
    let split : (b : Bool) → p x ≡ b → (b || list_any p xs) ≡ true → (q x || list_any q xs) ≡ true = elim [
      | true ↦ λ is g. (let here : q x ≡ true = f x is in rw here refl)
      | false ↦ λ is g. (let more : list_any q xs ≡ true = any-mono p q xs f g in rw more (or-true (q x)))
    ]
    in split (p x) refl h

-- ---- under

pub under-at : (nodes : List Node) (k n : ℕ) → k < length nodes → is_under nodes k n ≡ (eqb k n || list_any (walk false (reaches_at nodes n) k) (inputs_of (node_at nodes k)))
under-at nodes k n lt = walk-at false (reaches_at nodes n) (length nodes) k lt

pub under-below : (nodes : List Node) (k i n : ℕ) → i < k → k < length nodes → walk false (reaches_at nodes n) k i ≡ is_under nodes i n
under-below nodes k i n lt there = walk-below false (reaches_at nodes n) k (length nodes) i lt (omega arith)

pub under-self : (nodes : List Node) (k : ℕ) → k < length nodes → is_under nodes k k ≡ true
under-self nodes k lt = let e = itself k in rw (under-at nodes k k lt, e) refl

pub under-trans : (nodes : List Node) (n i b k : ℕ) → k < b → b ≤ length nodes → is_under nodes k n ≡ true → is_under nodes n i ≡ true → is_under nodes k i ≡ true
under-trans nodes n i zero k lt le u v = absurd (omega arith)
under-trans nodes n i (suc b) k lt le u v =
    let there : k < length nodes = omega arith in
    let inner : (j : ℕ) → walk false (reaches_at nodes n) k j ≡ true → walk false (reaches_at nodes i) k j ≡ true = λ j e. (
    let cases : (j < k) ⊎ (k ≤ j) → walk false (reaches_at nodes i) k j ≡ true = elim [
      | inl l ↦ under-below nodes k j i l there ∙ under-trans nodes n i b j (omega arith) (omega arith) (sym (under-below nodes k j n l there) ∙ e) v
      | inr g ↦ (let no_ = walk-past false (reaches_at nodes n) k j g in cc)
    ] in cases (cases_lt j k)) in
    let inputs = inputs_of (node_at nodes k) in
    let split : (c : Bool) → eqb k n ≡ c → (c || list_any (walk false (reaches_at nodes n) k) inputs) ≡ true → is_under nodes k i ≡ true = elim [
      | true ↦ λ is g. (let P : ℕ → Type 0 = λ m. is_under nodes m i ≡ true in subst P (sym ((Decides-eqb k n).0 is)) v)
      | false ↦ λ is g. (
          let more : list_any (walk false (reaches_at nodes i) k) inputs ≡ true = any-mono (walk false (reaches_at nodes n) k) (walk false (reaches_at nodes i) k) inputs inner g in
          under-at nodes k i there ∙ ap (λ x. eqb k i || x) more ∙ or-true (eqb k i))
    ]
    in split (eqb k n) refl (sym (under-at nodes k n there) ∙ u)

-- an input of a node under the root is under it, where it is smaller
pub under-input : (nodes : List Node) (root n i : ℕ) → root < length nodes → n < length nodes → is_under nodes root n ≡ true → i < n → member i (inputs_of (node_at nodes n)) ≡ true → is_under nodes root i ≡ true
under-input nodes root n i there lt u below m =
    let inputs = inputs_of (node_at nodes n) in
    let own : walk false (reaches_at nodes i) n i ≡ true = under-below nodes n i i below lt ∙ under-self nodes i (omega arith) in
    let reached : list_any (walk false (reaches_at nodes i) n) inputs ≡ true = any-member (walk false (reaches_at nodes i) n) inputs i m own in
    let v : is_under nodes n i ≡ true = under-at nodes n i lt ∙ ap (λ x. eqb n i || x) reached ∙ or-true (eqb n i) in
    under-trans nodes n i (length nodes) root there (omega arith) u v

any-elim : (p : ℕ → Bool) (xs : List ℕ) (Q : Type 0) → ((j : ℕ) → p j ≡ true → Q) → list_any p xs ≡ true → Q
any-elim p [] Q f h = absurd (let no_ : false ≡ true = h in cc)
any-elim p (x ∷ xs) Q f h =
    let split : (b : Bool) → p x ≡ b → (b || list_any p xs) ≡ true → Q = elim [
      | true ↦ λ is g. f x is
      | false ↦ λ is g. any-elim p xs Q f g
    ]
    in split (p x) refl h

-- what is under a node is there
pub under-there : (nodes : List Node) (n b k : ℕ) → k < b → b ≤ length nodes → is_under nodes k n ≡ true → n < length nodes
under-there nodes n zero k lt le u = absurd (omega arith)
under-there nodes n (suc b) k lt le u =
    let there : k < length nodes = omega arith in
    let inner : (j : ℕ) → walk false (reaches_at nodes n) k j ≡ true → n < length nodes = λ j e. (
    let cases : (j < k) ⊎ (k ≤ j) → n < length nodes = elim [
      | inl l ↦ under-there nodes n b j (omega arith) (omega arith) (sym (under-below nodes k j n l there) ∙ e)
      | inr g ↦ absurd (let no_ = walk-past false (reaches_at nodes n) k j g in cc)
    ] in cases (cases_lt j k)) in
    let split : (c : Bool) → eqb k n ≡ c → (c || list_any (walk false (reaches_at nodes n) k) (inputs_of (node_at nodes k))) ≡ true → n < length nodes = elim [
      | true ↦ λ is g. (let same : k ≡ n = (Decides-eqb k n).0 is in omega arith)
      | false ↦ λ is g. any-elim (walk false (reaches_at nodes n) k) (inputs_of (node_at nodes k)) (n < length nodes) inner g
    ]
    in split (eqb k n) refl (sym (under-at nodes k n there) ∙ u)
