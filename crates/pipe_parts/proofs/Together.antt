-- Lists of all parts, one after another; bags, and what holds of their elements.
use Rattle.std.proofs.Common.{◌≡◌, ℕ, zero, suc, ◌+◌, ◌<◌, ◌≤◌, Bool, true, false, cond, ◌||◌, List, [], ◌∷◌, ◌++◌, map, append-nil, refl, ap, sym, subst, ◌∙◌, arith, ◌⊎◌, inl, inr}
use Rattle.std.specs.Prelude.{filter}
use Rattle.std.specs.List.{AllByRecursion, flat_map, list_any}
use Rattle.std.proofs.lemmas.Bool.{cases_lt}
use Rattle.std.proofs.lemmas.List.Concat.{flat_map-append}
use Rattle.pipe_schema.specs.Weights.{total}
use Rattle.pipe_schema.specs.Rows.{Row, eq_row, times}
use Rattle.pipe_schema.proofs.Weights.{SameBag, SameBag-refl, SameBag-trans, SameBag-append, Same-from_bag, eq_row-sound, eq_row-refl}
use Rattle.pipe_events.proofs.Bags.{middle}
use Rattle.pipe_rules.proofs.Filters.{all-left, all-right, filter-append}
use Rattle.pipe_parts.specs.Parts.{together}

map-append : {X Y : Type 0} (f : X → Y) (a b : List X) → map f (a ++ b) ≡ map f a ++ map f b
map-append f [] b = refl
map-append f (x ∷ a) b = ap (λ l. f x ∷ l) (map-append f a b)

-- ---- what each part has

pub together-same : {X : Type 0} (n : ℕ) (a b : ℕ → List X) → ((p : ℕ) → p < n → SameBag (a p) (b p)) → SameBag (together n a) (together n b)
together-same zero a b h = SameBag-refl []
together-same (suc n) a b h = SameBag-append (together-same n a b (λ p lt. h p (omega arith))) (h n (omega arith))

pub together-flat : {X Y : Type 0} (f : X → List Y) (n : ℕ) (part : ℕ → List X) → flat_map f (together n part) ≡ together n (λ p. flat_map f (part p))
together-flat f zero part = refl
together-flat f (suc n) part = flat_map-append f (together n part) (part n) ∙ ap (λ l. l ++ flat_map f (part n)) (together-flat f n part)

pub together-filter : {X : Type 0} (test : X → Bool) (n : ℕ) (part : ℕ → List X) → filter test (together n part) ≡ together n (λ p. filter test (part p))
together-filter test zero part = refl
together-filter test (suc n) part = filter-append test (together n part) (part n) ∙ ap (λ l. l ++ filter test (part n)) (together-filter test n part)

pub together-map : {X Y : Type 0} (f : X → Y) (n : ℕ) (part : ℕ → List X) → together n (λ p. map f (part p)) ≡ map f (together n part)
together-map f zero part = refl
together-map f (suc n) part = ap (λ l. l ++ map f (part n)) (together-map f n part) ∙ sym (map-append f (together n part) (part n))

pub together-append : {X : Type 0} (n : ℕ) (a b : ℕ → List X) → SameBag (together n (λ p. a p ++ b p)) (together n a ++ together n b)
together-append zero a b = SameBag-refl []
together-append (suc n) a b =
    SameBag-trans (SameBag-append (together-append n a b) (SameBag-refl (a n ++ b n)))
    (middle (together n a) (together n b) (a n) (b n))

pub together-nothing : {X : Type 0} (n : ℕ) (part : ℕ → List X) → ((p : ℕ) → p < n → part p ≡ []) → together n part ≡ []
together-nothing zero part h = refl
together-nothing (suc n) part h =
    ap (λ l. l ++ part n) (together-nothing n part (λ p lt. h p (omega arith))) ∙ h n (omega arith)

-- only one part has something
pub together-one : {X : Type 0} (n p : ℕ) (part : ℕ → List X) → p < n → ((q : ℕ) → q < n → (q ≡ p → ⊥) → part q ≡ []) → together n part ≡ part p
together-one zero p part lt h = absurd (omega arith)
together-one (suc n) p part lt h =
    let split : (p < n) ⊎ (n ≤ p) → together n part ++ part n ≡ part p = elim [
      | inl less ↦
          ap (λ l. together n part ++ l) (h n (omega arith) (λ same. omega arith))
          ∙ append-nil (together n part)
          ∙ together-one n p part less (λ q k apart. h q (omega arith) apart)
      | inr past ↦ (
          let is : n ≡ p = omega arith in
          ap (λ l. l ++ part n) (together-nothing n part (λ q k. h q (omega arith) (λ same. omega arith)))
          ∙ ap part is)
    ]
    in split (cases_lt p n)

-- ---- what holds of each element

pub together-all : {X : Type 0} (P : X → Type 0) (n : ℕ) (part : ℕ → List X) → AllByRecursion P (together n part) → (p : ℕ) → p < n → AllByRecursion P (part p)
together-all P zero part h p lt = absurd (omega arith)
together-all P (suc n) part h p lt =
    let split : (p < n) ⊎ (n ≤ p) → AllByRecursion P (part p) = elim [
      | inl less ↦ together-all P n part (all-left P (together n part) (part n) h) p less
      | inr past ↦ (let is : n ≡ p = omega arith in subst (λ q. AllByRecursion P (part q)) is (all-right P (together n part) (part n) h))
    ]
    in split (cases_lt p n)

-- what stands in a list that has a property has it
holds-of : (P : Row → Type 0) (row : Row) (rows : List Row) → 0 < times eq_row row rows → AllByRecursion P rows → P row
holds-of P row [] lt h = absurd (omega arith)
holds-of P row (first ∷ rows) lt h =
    let split : (b : Bool) → eq_row row first ≡ b → 0 < cond b 1 0 + times eq_row row rows → P row = elim [
      | true ↦ λ e _. subst P (sym (eq_row-sound row first e)) h.0
      | false ↦ λ e more. holds-of P row rows (omega arith) h.1
    ]
    in split (eq_row row first) refl lt

all-within : (P : Row → Type 0) (a b : List Row) → ((row : Row) → times eq_row row a ≤ times eq_row row b) → AllByRecursion P b → AllByRecursion P a
all-within P [] b le h = tt
all-within P (row ∷ a) b le h =
    let own : times eq_row row (row ∷ a) ≡ 1 + times eq_row row a = (let self = eq_row-refl row in rw self refl) in
    let some : 0 < times eq_row row b = (let most = le row in omega arith) in
    let fewer : (other : Row) → times eq_row other a ≤ times eq_row other b = λ other. (let most : cond (eq_row other row) 1 0 + times eq_row other a ≤ times eq_row other b = le other in omega arith) in
    (holds-of P row b some h, all-within P a b fewer h)

-- rows that are the same have the same properties
pub all-same : (P : Row → Type 0) {a b : List Row} → SameBag a b → AllByRecursion P b → AllByRecursion P a
all-same P {a = a} {b = b} same h = all-within P a b (λ row. (let e = (Same-from_bag same).each row in omega arith)) h

-- ---- what a test finds

abbrev pub has_some : {X : Type 0} → List X → Bool
has_some [] = false
has_some (x ∷ xs) = true

pub some-same : {X : Type 0} (a b : List X) → SameBag a b → has_some a ≡ has_some b
some-same [] [] h = refl
some-same [] (y ∷ b) h = (let e : 0 ≡ 1 + total (λ x. 1) b = h.sums (λ x. 1) in absurd (omega arith))
some-same (x ∷ a) [] h = (let e : 1 + total (λ x. 1) a ≡ 0 = h.sums (λ x. 1) in absurd (omega arith))
some-same (x ∷ a) (y ∷ b) h = refl

pub any-filter : {X : Type 0} (test : X → Bool) (xs : List X) → list_any test xs ≡ has_some (filter test xs)
any-filter test [] = refl
any-filter test (x ∷ xs) = elim (test x) as (λ b. (b || list_any test xs) ≡ has_some (cond b (x ∷ filter test xs) (filter test xs))) [ true ↦ refl | false ↦ any-filter test xs ]

pub any-same : {X : Type 0} (test : X → Bool) (a b : List X) → SameBag (filter test a) (filter test b) → list_any test a ≡ list_any test b
any-same test a b h = any-filter test a ∙ some-same (filter test a) (filter test b) h ∙ sym (any-filter test b)

pub filter-none : {X : Type 0} (test : X → Bool) (xs : List X) → AllByRecursion (λ x. test x ≡ false) xs → filter test xs ≡ []
filter-none test [] h = refl
filter-none test (x ∷ xs) h = ap (λ b. cond b (x ∷ filter test xs) (filter test xs)) h.0 ∙ filter-none test xs h.1

-- pieces are equal where those of each element are, and each element has the property
pub pieces-same : {X Y : Type 0} (P : X → Type 0) (f g : X → List Y) (xs : List X) → ((x : X) → P x → SameBag (f x) (g x)) → AllByRecursion P xs → SameBag (flat_map f xs) (flat_map g xs)
pieces-same P f g [] h all = SameBag-refl []
pieces-same P f g (x ∷ xs) h all = SameBag-append (h x all.0) (pieces-same P f g xs h all.1)
