-- Tests over lists: whether some element passes.
use Rattle.std.proofs.Common.{◌≡◌, ℕ, ◌+◌, ◌≤◌, Bool, true, false, cond, ◌||◌, List, [], ◌∷◌, ◌++◌, refl, ap, sym, ◌∙◌, arith}
use Rattle.std.specs.Prelude.{filter, not}
use Rattle.std.specs.List.{list_any}
use Rattle.pipe_schema.specs.Weights.{total}
use Rattle.pipe_schema.proofs.Weights.{SameBag, WithinBag, total-append, total-same, total-plus, total-filter}

pub any-none : {X : Type 0} (p : X → Bool) (xs : List X) → list_any p xs ≡ false → total (λ x. cond (p x) 1 0) xs ≡ 0
any-none p [] h = refl
any-none p (x ∷ xs) h =
    elim (p x) as (λ b. (b || list_any p xs) ≡ false → cond b 1 0 + total (λ y. cond (p y) 1 0) xs ≡ 0)
    [ true ↦ λ e. cc | false ↦ λ e. omega (arith, any-none p xs e) ] h

pub any-some : {X : Type 0} (p : X → Bool) (xs : List X) → list_any p xs ≡ true → 1 ≤ total (λ x. cond (p x) 1 0) xs
any-some p [] h = cc
any-some p (x ∷ xs) h =
    elim (p x) as (λ b. (b || list_any p xs) ≡ true → 1 ≤ cond b 1 0 + total (λ y. cond (p y) 1 0) xs)
    [ true ↦ λ e. omega arith | false ↦ λ e. omega (arith, any-some p xs e) ] h

pub any-from_some : {X : Type 0} (p : X → Bool) (xs : List X) → 1 ≤ total (λ x. cond (p x) 1 0) xs → list_any p xs ≡ true
any-from_some p xs h =
    let split : (b : Bool) → list_any p xs ≡ b → b ≡ true =
    elim [ true ↦ λ _. refl | false ↦ λ e. (let z = any-none p xs e in absurd (omega arith)) ]
    in split (list_any p xs) refl

pub any-within : {X : Type 0} (p : X → Bool) {a b : List X} → WithinBag a b → list_any p a ≡ true → list_any p b ≡ true
any-within p {a = a} {b = b} h e = any-from_some p b (omega (arith, any-some p a e, h.sums (λ x. cond (p x) 1 0)))

pub any-same : {X : Type 0} (p : X → Bool) {a b : List X} → SameBag a b → list_any p a ≡ list_any p b
any-same p {a = a} {b = b} h =
    let split : (s t : Bool) → list_any p a ≡ s → list_any p b ≡ t → s ≡ t =
    elim [
      | true ↦ elim [ true ↦ λ _ _. refl | false ↦ λ e e'. absurd (omega (arith, any-some p a e, any-none p b e', h.sums (λ x. cond (p x) 1 0))) ]
      | false ↦ elim [ true ↦ λ e e'. absurd (omega (arith, any-none p a e, any-some p b e', h.sums (λ x. cond (p x) 1 0))) | false ↦ λ _ _. refl ]
    ]
    in split (list_any p a) (list_any p b) refl refl

pub any-append : {X : Type 0} (p : X → Bool) (a b : List X) → list_any p (a ++ b) ≡ (list_any p a || list_any p b)
any-append p [] b = refl
any-append p (x ∷ a) b = elim (p x) as (λ t. (t || list_any p (a ++ b)) ≡ ((t || list_any p a) || list_any p b)) [ true ↦ refl | false ↦ any-append p a b ]

-- two filters that agree on a list, where what passes m passes f there, and what passes f passes m anywhere
pub filter_agree : {X : Type 0} (t m f : X → Bool) (xs : List X) → list_any (λ x. cond (m x) (not (f x)) false) xs ≡ false → ((x : X) → f x ≡ true → m x ≡ true) → filter (λ x. cond (t x) (not (f x)) false) xs ≡ filter (λ x. cond (t x) (not (m x)) false) xs
filter_agree t m f [] h back = refl
filter_agree t m f (x ∷ xs) h back =
    let split : (b c : Bool) → m x ≡ b → f x ≡ c → ((cond b (not c) false) || (list_any (λ y. cond (m y) (not (f y)) false) xs)) ≡ false →
    cond (cond (t x) (not c) false) (x ∷ filter (λ y. cond (t y) (not (f y)) false) xs) (filter (λ y. cond (t y) (not (f y)) false) xs)
    ≡ cond (cond (t x) (not b) false) (x ∷ filter (λ y. cond (t y) (not (m y)) false) xs) (filter (λ y. cond (t y) (not (m y)) false) xs) =
    elim [
      | true ↦ elim [
        | true ↦ λ _ _ e. ap (λ l. cond (cond (t x) false false) (x ∷ l) l) (filter_agree t m f xs e back)
        | false ↦ λ _ _ e. cc
      ]
      | false ↦ elim [
        | true ↦ λ no yes _. (let yes' = back x yes in cc)
        | false ↦ λ _ _ e. ap (λ l. cond (cond (t x) true false) (x ∷ l) l) (filter_agree t m f xs e back)
      ]
    ]
    in split (m x) (f x) refl refl h

pub any-never : {X : Type 0} (p : X → Bool) (xs : List X) → ((x : X) → p x ≡ false) → list_any p xs ≡ false
any-never p [] h = refl
any-never p (x ∷ xs) h = let e = h x in rw e (any-never p xs h)

pub any-weaker : {X : Type 0} (p q : X → Bool) (xs : List X) → ((x : X) → p x ≡ true → q x ≡ true) → list_any q xs ≡ false → list_any p xs ≡ false
any-weaker p q [] h e = refl
any-weaker p q (x ∷ xs) h e =
    let split : (a b : Bool) → p x ≡ a → q x ≡ b → (b || list_any q xs) ≡ false → (a || list_any p xs) ≡ false =
    elim [
      | true ↦ elim [ true ↦ λ _ _ f. cc | false ↦ λ s t f. (let u = h x s in cc) ]
      | false ↦ elim [ true ↦ λ _ _ f. cc | false ↦ λ _ _ f. any-weaker p q xs h f ]
    ]
    in split (p x) (q x) refl refl e

pub any-alike : {X : Type 0} (p q : X → Bool) (xs : List X) → ((x : X) → p x ≡ q x) → list_any p xs ≡ list_any q xs
any-alike p q [] h = refl
any-alike p q (x ∷ xs) h = let e = h x in let ih = any-alike p q xs h in rw (e, ih) refl

pub filter-alike : {X : Type 0} (p q : X → Bool) (xs : List X) → ((x : X) → p x ≡ q x) → filter p xs ≡ filter q xs
filter-alike p q [] h = refl
filter-alike p q (x ∷ xs) h = let e = h x in let ih = filter-alike p q xs h in rw (e, ih) refl

pub filter-never : {X : Type 0} (p : X → Bool) (xs : List X) → ((x : X) → p x ≡ false) → filter p xs ≡ []
filter-never p [] h = refl
filter-never p (x ∷ xs) h = let e = h x in rw e (filter-never p xs h)

pub any-filter : {X : Type 0} (p q : X → Bool) (xs : List X) → list_any p xs ≡ false → list_any p (filter q xs) ≡ false
any-filter p q [] e = refl
any-filter p q (x ∷ xs) e =
    let split : (a b : Bool) → p x ≡ a → q x ≡ b → (a || list_any p xs) ≡ false → list_any p (cond b (x ∷ filter q xs) (filter q xs)) ≡ false =
    elim [
      | true ↦ λ b _ _ f. cc
      | false ↦ elim [ true ↦ λ s _ f. rw s (any-filter p q xs f) | false ↦ λ _ _ f. any-filter p q xs f ]
    ]
    in split (p x) (q x) refl refl e

-- a filter of two tests, none of which both pass
pub filter_two : {X : Type 0} (p q r : X → Bool) (xs : List X) → ((x : X) (w : ℕ) → cond (p x) w 0 ≡ cond (q x) w 0 + cond (r x) w 0) → SameBag (filter p xs) (filter q xs ++ filter r xs)
filter_two p q r xs h = record {
  sums = λ f. total-filter p f xs ∙ total-same _ _ xs (λ x. h x (f x)) ∙ total-plus _ _ xs ∙ sym (total-append f (filter q xs) (filter r xs) ∙ ap (λ n. n + total f (filter r xs)) (total-filter q f xs) ∙ ap (λ n. total (λ x. cond (q x) (f x) 0) xs + n) (total-filter r f xs));
}

pub any-or : {X : Type 0} (p q s : X → Bool) (xs : List X) → ((x : X) → s x ≡ (p x || q x)) → list_any p xs ≡ false → list_any q xs ≡ false → list_any s xs ≡ false
any-or p q s [] h e f = refl
any-or p q s (x ∷ xs) h e f =
    let here = h x in
    let split : (a b : Bool) → p x ≡ a → q x ≡ b → (a || list_any p xs) ≡ false → (b || list_any q xs) ≡ false → (s x || list_any s xs) ≡ false =
    elim [
      | true ↦ λ b _ _ e' _. cc
      | false ↦ elim [ true ↦ λ _ _ _ f'. cc | false ↦ λ u v e' f'. (let no : s x ≡ false = here ∙ rw (u, v) refl in rw no (any-or p q s xs h e' f')) ]
    ]
    in split (p x) (q x) refl refl e f

-- two filters that agree on a list
pub filter_flags : {X : Type 0} (m f : X → Bool) (xs : List X) → list_any (λ x. cond (m x) (not (f x)) false) xs ≡ false → ((x : X) → f x ≡ true → m x ≡ true) → filter f xs ≡ filter m xs
filter_flags m f [] h back = refl
filter_flags m f (x ∷ xs) h back =
    let split : (b c : Bool) → m x ≡ b → f x ≡ c → ((cond b (not c) false) || (list_any (λ y. cond (m y) (not (f y)) false) xs)) ≡ false →
    cond c (x ∷ filter f xs) (filter f xs) ≡ cond b (x ∷ filter m xs) (filter m xs) =
    elim [
      | true ↦ elim [ true ↦ λ _ _ e. ap (λ l. x ∷ l) (filter_flags m f xs e back) | false ↦ λ _ _ e. cc ]
      | false ↦ elim [ true ↦ λ a b _. (let c = back x b in cc) | false ↦ λ _ _ e. filter_flags m f xs e back ]
    ]
    in split (m x) (f x) refl refl h

pub any-stronger : {X : Type 0} (p q : X → Bool) (xs : List X) → ((x : X) → p x ≡ true → q x ≡ true) → list_any p xs ≡ true → list_any q xs ≡ true
any-stronger p q [] h e = e
any-stronger p q (x ∷ xs) h e =
    let split : (a b : Bool) → p x ≡ a → q x ≡ b → (a || list_any p xs) ≡ true → (b || list_any q xs) ≡ true =
    elim [
      | true ↦ elim [ true ↦ λ _ _ _. refl | false ↦ λ s t _. (let u = h x s in cc) ]
      | false ↦ elim [ true ↦ λ _ _ _. refl | false ↦ λ _ _ f. any-stronger p q xs h f ]
    ]
    in split (p x) (q x) refl refl e

-- whose key is known where it passes
pub any_known : {X K : Type 0} (eq : K → K → Bool) (same : (k : K) → eq k k ≡ true) (key : X → K) (m : X → Bool) (s : K → Bool) (xs : List X) → ((k : K) → list_any (λ x. cond (eq (key x) k) (m x) false) xs ≡ true → s k ≡ true) → list_any (λ x. cond (m x) (not (s (key x))) false) xs ≡ false
any_known eq same key m s [] h = refl
any_known eq same key m s (x ∷ xs) h =
    let rest = any_known eq same key m s xs (λ k e. h k (elim (cond (eq (key x) k) (m x) false) as (λ b. (b || list_any (λ y. cond (eq (key y) k) (m y) false) xs) ≡ true) [ true ↦ refl | false ↦ e ])) in
    let self : eq (key x) (key x) ≡ true = same (key x) in
    let split : (b : Bool) → m x ≡ b → (cond b (not (s (key x))) false || list_any (λ y. cond (m y) (not (s (key y))) false) xs) ≡ false =
    elim [ true ↦ λ e. (let known : s (key x) ≡ true = h (key x) (rw (self, e) refl) in rw known rest) | false ↦ λ _. rest ]
    in split (m x) refl
