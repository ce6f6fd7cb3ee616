-- Who reads a node.
use Rattle.std.proofs.Common.{◌≡◌, ℕ, zero, suc, ◌+◌, ◌<◌, ◌≤◌, Bool, true, false, eqb, ◌||◌, List, [], ◌∷◌, length, refl, ap, sym, ◌∙◌, arith, ◌⊎◌, inl, inr}
use Rattle.std.specs.List.{list_any, range_with_len}
use Rattle.std.proofs.lemmas.Bool.{cases_lt}
use Rattle.std.proofs.lemmas.Bool.Decides.{Decides-eqb}
use Rattle.pipe_plan.specs.Walk.{walk}
use Rattle.pipe_plan.specs.Node.{Node}
use Rattle.pipe_plan.specs.Under.{inputs_of, node_at, reaches_at, is_under}
use Rattle.pipe_plan.specs.Faults.{has_input}
use Rattle.pipe_check.proofs.Walks.{member, itself, walk-past, under-input, under-at, under-below, under-self, under-trans}
use Rattle.pipe_rules.proofs.Granted.{first_false, second_false}

-- what follows from a member that passes
any-member-is : (p : ℕ → Bool) (xs : List ℕ) (Q : Type 0) → ((j : ℕ) → member j xs ≡ true → p j ≡ true → Q) → list_any p xs ≡ true → Q
any-member-is p [] Q f h = absurd (let no_ : false ≡ true = h in cc)
any-member-is p (x ∷ xs) Q f h =
    let split : (b : Bool) → p x ≡ b → (b || list_any p xs) ≡ true → Q = elim [
      | true ↦ λ is g. f x (let e = itself x in rw e refl) is
      | false ↦ λ is g. any-member-is p xs Q (λ j m k. f j (let or : (b : Bool) → (b || member j xs) ≡ true = elim [ true ↦ refl | false ↦ m ] in or (eqb x j)) k) g
    ]
    in split (p x) refl h

-- a node under another is that one, or an input of one under it
pub reader : (nodes : List Node) (n : ℕ) (Q : Type 0) (b k : ℕ) → k < b → b ≤ length nodes → is_under nodes k n ≡ true → (k ≡ n → Q) → ((m : ℕ) → is_under nodes k m ≡ true → has_input nodes n m ≡ true → Q) → Q
reader nodes n Q zero k lt le u own read = absurd (omega arith)
reader nodes n Q (suc b) k lt le u own read =
    let there : k < length nodes = omega arith in
    let inner : (j : ℕ) → member j (inputs_of (node_at nodes k)) ≡ true → walk false (reaches_at nodes n) k j ≡ true → Q = λ j among e. (
    let cases : (j < k) ⊎ (k ≤ j) → Q = elim [
      | inl l ↦ (
          let reached : is_under nodes k j ≡ true = under-input nodes k k j there there (under-self nodes k there) l among in
          reader nodes n Q b j (omega arith) (omega arith) (sym (under-below nodes k j n l there) ∙ e)
          (λ is. read k (under-self nodes k there) (ap (λ i. member i (inputs_of (node_at nodes k))) (sym is) ∙ among))
          (λ m v reads. read m (under-trans nodes j m (length nodes) k there (omega arith) reached v) reads))
      | inr g ↦ absurd (let no_ = walk-past false (reaches_at nodes n) k j g in cc)
    ] in cases (cases_lt j k)) in
    let split : (c : Bool) → eqb k n ≡ c → (c || list_any (walk false (reaches_at nodes n) k) (inputs_of (node_at nodes k))) ≡ true → Q = elim [
      | true ↦ λ is g. own ((Decides-eqb k n).0 is)
      | false ↦ λ is g. any-member-is (walk false (reaches_at nodes n) k) (inputs_of (node_at nodes k)) Q inner g
    ]
    in split (eqb k n) refl (sym (under-at nodes k n there) ∙ u)

-- what passes at no number of a range
pub range-none : (p : ℕ → Bool) (a n j : ℕ) → list_any p (range_with_len a n) ≡ false → a ≤ j → j < a + n → p j ≡ false
range-none p a zero j h le lt = absurd (omega arith)
range-none p a (suc n) j h le lt =
    let split : (a < j) ⊎ (j ≤ a) → p j ≡ false = elim [
      | inl l ↦ range-none p (a + 1) n j (second_false (p a) (list_any p (range_with_len (a + 1) n)) h) (omega arith) (omega arith)
      | inr g ↦ (let same : a ≡ j = omega arith in ap p (sym same) ∙ first_false (p a) (list_any p (range_with_len (a + 1) n)) h)
    ] in split (cases_lt a j)
