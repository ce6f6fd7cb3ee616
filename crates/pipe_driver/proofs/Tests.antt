-- Tests of numbers, and lists one behind the other.
use Rattle.std.proofs.Common.{◌≡◌, ◌≢◌, ℕ, zero, suc, ◌+◌, ◌<◌, Bool, true, false, cond, ◌||◌, ◌==◌, List, [], ◌∷◌, ◌++◌, refl, sym, ap, ◌∙◌, ◌⊎◌, inl, inr, arith, append_assoc}
use Rattle.std.specs.List.{flat_map, AllByRecursion}
use Rattle.std.proofs.lemmas.Bool.Decides.{Decides-eqb}
use Rattle.pipe_schema.specs.Weights.{total}
use Rattle.pipe_schema.proofs.Weights.{total-append}
use Rattle.pipe_driver.specs.Ways.{one, occurs}

pub by_test : (C : Type 0) → (b : Bool) → (b ≡ true → C) → (b ≡ false → C) → C
by_test C b f g = elim b as (λ x. b ≡ x → C) [ true ↦ f | false ↦ g ] refl

pub eq-is : (k i : ℕ) → (k == i) ≡ true → k ≡ i
eq-is k i h = (Decides-eqb k i).0 h

pub eq-true : (k i : ℕ) → k ≡ i → (k == i) ≡ true
eq-true k i h = (Decides-eqb k i).1 h

pub eq-not : (k i : ℕ) → (k == i) ≡ false → k ≢ i
eq-not k i h e = let f : true ≡ false = sym (eq-true k i e) ∙ h in cc

pub eq-false : (k i : ℕ) → k ≢ i → (k == i) ≡ false
eq-false k i ne = by_test ((k == i) ≡ false) (k == i) (λ e. absurd (ne (eq-is k i e))) (λ e. e)

pub not-both : (b : Bool) → b ≡ true → b ≡ false → ⊥
not-both b t f = let e : true ≡ false = sym t ∙ f in cc

pub or-case : (a b : Bool) → (a || b) ≡ true → (a ≡ true) ⊎ (b ≡ true)
or-case true b h = inl refl
or-case false b h = inr h

pub or-none : (a b : Bool) → (a || b) ≡ false → (a ≡ false) × (b ≡ false)
or-none true b h = absurd (let e : true ≡ false = h in cc)
or-none false b h = (refl, h)

pub or-first : (a b : Bool) → a ≡ true → (a || b) ≡ true
or-first true b h = refl
or-first false b h = absurd (let e : false ≡ true = h in cc)

pub or-right : (a b : Bool) → b ≡ true → (a || b) ≡ true
or-right true b h = refl
or-right false b h = h

pub and-cases : (a b : Bool) → cond a b false ≡ true → (a ≡ true) × (b ≡ true)
and-cases true b h = (refl, h)
and-cases false b h = absurd (let e : false ≡ true = h in cc)

pub and-both : (a b : Bool) → a ≡ true → b ≡ true → cond a b false ≡ true
and-both a b h k = ap (λ t. cond t b false) h ∙ k

pub some-left : (n : ℕ) → (n ≡ 0) ⊎ (0 < n)
some-left zero = inl refl
some-left (suc n) = inr (omega arith)

pub all-append : {A : Type 0} (P : A → Type 0) (a b : List A) → AllByRecursion P a → AllByRecursion P b → AllByRecursion P (a ++ b)
all-append P [] b h k = k
all-append P (x ∷ a) b h k = (h.0, all-append P a b h.1 k)

pub all-map : {A : Type 0} (P Q : A → Type 0) (a : List A) → ((x : A) → P x → Q x) → AllByRecursion P a → AllByRecursion Q a
all-map P Q [] f h = h
all-map P Q (x ∷ a) f h = (f x h.0, all-map P Q a f h.1)

pub flat-append : {A B : Type 0} (g : A → List B) (a b : List A) → flat_map g (a ++ b) ≡ flat_map g a ++ flat_map g b
flat-append g [] b = refl
flat-append g (x ∷ a) b = ap (λ xs. g x ++ xs) (flat-append g a b) ∙ sym (append_assoc (g x) (flat_map g a) (flat_map g b))

pub flat-total : {A B : Type 0} (f : B → ℕ) (g : A → List B) (a b : List A) → total f (flat_map g (a ++ b)) ≡ total f (flat_map g a) + total f (flat_map g b)
flat-total f g a b = ap (total f) (flat-append g a b) ∙ total-append f (flat_map g a) (flat_map g b)

pub occurs-append : (n : ℕ) (a b : List ℕ) → occurs n (a ++ b) ≡ occurs n a + occurs n b
occurs-append n [] b = omega arith
occurs-append n (k ∷ a) b = let r = occurs-append n a b in omega arith

pub occurs-total : (n : ℕ) (a : List ℕ) → occurs n a ≡ total (λ k. one (k == n)) a
occurs-total n [] = refl
occurs-total n (k ∷ a) = let r = occurs-total n a in omega arith

pub not-nil : {A : Type 0} (xs : List A) (x : A) → xs ++ x ∷ [] ≡ [] → ⊥
not-nil [] x h = let e : x ∷ [] ≡ [] = h in cc
not-nil (y ∷ xs) x h = let e : y ∷ (xs ++ x ∷ []) ≡ [] = h in cc
