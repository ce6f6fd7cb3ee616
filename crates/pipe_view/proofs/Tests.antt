-- Filters and searches by tests that agree.
use Rattle.std.proofs.Common.{◌≡◌, ℕ, ◌+◌, Bool, true, false, cond, List, [], ◌∷◌, ◌++◌, map, refl, ap, sym, ◌∙◌, arith, append-nil, append_assoc}
use Rattle.std.specs.Prelude.{filter, not, ◌&&◌, ◌||◌}
use Rattle.std.specs.List.{flat_map, list_any, AllByRecursion}
use Rattle.pipe_plan.specs.Faults.{is_empty}

pub and-comm : (a b : Bool) → (a && b) ≡ (b && a)
and-comm true true = refl
and-comm true false = refl
and-comm false true = refl
and-comm false false = refl

pub filter-alike : {X : Type 0} (p q : X → Bool) (xs : List X) → ((x : X) → p x ≡ q x) → filter p xs ≡ filter q xs
filter-alike p q [] h = refl
filter-alike p q (x ∷ xs) h = ap (λ b. cond b (x ∷ filter p xs) (filter p xs)) (h x) ∙ ap (λ l. cond (q x) (x ∷ l) l) (filter-alike p q xs h)

pub any-alike : {X : Type 0} (p q : X → Bool) (xs : List X) → ((x : X) → p x ≡ q x) → list_any p xs ≡ list_any q xs
any-alike p q [] h = refl
any-alike p q (x ∷ xs) h = ap (λ b. b || list_any p xs) (h x) ∙ ap (λ b. q x || b) (any-alike p q xs h)

pub pieces-alike : {X Y : Type 0} (f g : X → List Y) (xs : List X) → ((x : X) → f x ≡ g x) → flat_map f xs ≡ flat_map g xs
pieces-alike f g [] h = refl
pieces-alike f g (x ∷ xs) h = ap (λ l. l ++ flat_map f xs) (h x) ∙ ap (λ l. g x ++ l) (pieces-alike f g xs h)

-- lists that are filtered, searched or mapped alike by what agrees at their elements alone
pub filter-alike_in : {X : Type 0} (p q : X → Bool) (xs : List X) → AllByRecursion (λ x. p x ≡ q x) xs → filter p xs ≡ filter q xs
filter-alike_in p q [] h = refl
filter-alike_in p q (x ∷ xs) h = ap (λ b. cond b (x ∷ filter p xs) (filter p xs)) h.0 ∙ ap (λ l. cond (q x) (x ∷ l) l) (filter-alike_in p q xs h.1)

pub any-alike_in : {X : Type 0} (p q : X → Bool) (xs : List X) → AllByRecursion (λ x. p x ≡ q x) xs → list_any p xs ≡ list_any q xs
any-alike_in p q [] h = refl
any-alike_in p q (x ∷ xs) h = ap (λ b. b || list_any p xs) h.0 ∙ ap (λ b. q x || b) (any-alike_in p q xs h.1)

pub pieces-alike_in : {X Y : Type 0} (f g : X → List Y) (xs : List X) → AllByRecursion (λ x. f x ≡ g x) xs → flat_map f xs ≡ flat_map g xs
pieces-alike_in f g [] h = refl
pieces-alike_in f g (x ∷ xs) h = ap (λ l. l ++ flat_map f xs) h.0 ∙ ap (λ l. g x ++ l) (pieces-alike_in f g xs h.1)

pub filter-all : {X : Type 0} (xs : List X) → filter (λ x. true) xs ≡ xs
filter-all [] = refl
filter-all (x ∷ xs) = ap (λ l. x ∷ l) (filter-all xs)

pub filter-none : {X : Type 0} (xs : List X) → filter (λ x. false) xs ≡ []
filter-none [] = refl
filter-none (x ∷ xs) = filter-none xs

pub any-none : {X : Type 0} (xs : List X) → list_any (λ x. false) xs ≡ false
any-none [] = refl
any-none (x ∷ xs) = any-none xs

-- a test that comes with a fixed one
pub any-and : {X : Type 0} (c : Bool) (q : X → Bool) (xs : List X) → list_any (λ x. c && q x) xs ≡ (c && list_any q xs)
any-and true q xs = refl
any-and false q xs = any-none xs

pub empty-filter : {X : Type 0} (q : X → Bool) (xs : List X) → is_empty (filter q xs) ≡ not (list_any q xs)
empty-filter q [] = refl
empty-filter q (x ∷ xs) = elim (q x) as (λ b. is_empty (cond b (x ∷ filter q xs) (filter q xs)) ≡ not (b || list_any q xs)) [ true ↦ refl | false ↦ empty-filter q xs ]

pub any-append : {X : Type 0} (q : X → Bool) (xs ys : List X) → list_any q (xs ++ ys) ≡ (list_any q xs || list_any q ys)
any-append q [] ys = refl
any-append q (x ∷ xs) ys = elim (q x) as (λ b. (b || list_any q (xs ++ ys)) ≡ ((b || list_any q xs) || list_any q ys)) [ true ↦ refl | false ↦ any-append q xs ys ]

or-last : (a b c : Bool) → (a || (b || c)) ≡ ((a || c) || b)
or-last true b c = refl
or-last false true true = refl
or-last false true false = refl
or-last false false true = refl
or-last false false false = refl

-- an element in the middle, put at the end
pub any-middle : {X : Type 0} (q : X → Bool) (xs : List X) (y : X) (zs : List X) → list_any q (xs ++ y ∷ zs) ≡ (list_any q (xs ++ zs) || q y)
any-middle q xs y zs =
    any-append q xs (y ∷ zs) ∙ or-last (list_any q xs) (q y) (list_any q zs) ∙ ap (λ b. b || q y) (sym (any-append q xs zs))

-- filters and searches by a test that fails at the elements of one part
pub filter-first : {X : Type 0} (q : X → Bool) (xs ys : List X) → AllByRecursion (λ y. q y ≡ false) ys → filter q (xs ++ ys) ≡ filter q xs
filter-first q [] [] h = refl
filter-first q [] (y ∷ ys) h = ap (λ b. cond b (y ∷ filter q ys) (filter q ys)) h.0 ∙ filter-first q [] ys h.1
filter-first q (x ∷ xs) ys h = ap (λ l. cond (q x) (x ∷ l) l) (filter-first q xs ys h)

pub filter-last : {X : Type 0} (q : X → Bool) (xs ys : List X) → AllByRecursion (λ x. q x ≡ false) xs → filter q (xs ++ ys) ≡ filter q ys
filter-last q [] ys h = refl
filter-last q (x ∷ xs) ys h = ap (λ b. cond b (x ∷ filter q (xs ++ ys)) (filter q (xs ++ ys))) h.0 ∙ filter-last q xs ys h.1

pub any-first : {X : Type 0} (q : X → Bool) (xs ys : List X) → AllByRecursion (λ y. q y ≡ false) ys → list_any q (xs ++ ys) ≡ list_any q xs
any-first q [] [] h = refl
any-first q [] (y ∷ ys) h = ap (λ b. b || list_any q ys) h.0 ∙ any-first q [] ys h.1
any-first q (x ∷ xs) ys h = ap (λ b. q x || b) (any-first q xs ys h)

pub any-last : {X : Type 0} (q : X → Bool) (xs ys : List X) → AllByRecursion (λ x. q x ≡ false) xs → list_any q (xs ++ ys) ≡ list_any q ys
any-last q [] ys h = refl
any-last q (x ∷ xs) ys h = ap (λ b. b || list_any q (xs ++ ys)) h.0 ∙ any-last q xs ys h.1

-- what holds of each element
pub all-map : {X : Type 0} (P Q : X → Type 0) (xs : List X) → ((x : X) → P x → Q x) → AllByRecursion P xs → AllByRecursion Q xs
all-map P Q [] f h = tt
all-map P Q (x ∷ xs) f h = (f x h.0, all-map P Q xs f h.1)

pub all-append : {X : Type 0} (P : X → Type 0) (xs ys : List X) → AllByRecursion P xs → AllByRecursion P ys → AllByRecursion P (xs ++ ys)
all-append P [] ys h k = k
all-append P (x ∷ xs) ys h k = (h.0, all-append P xs ys h.1 k)

pub all-first : {X : Type 0} (P : X → Type 0) (xs ys : List X) → AllByRecursion P (xs ++ ys) → AllByRecursion P xs
all-first P [] ys h = tt
all-first P (x ∷ xs) ys h = (h.0, all-first P xs ys h.1)

pub all-last : {X : Type 0} (P : X → Type 0) (xs ys : List X) → AllByRecursion P (xs ++ ys) → AllByRecursion P ys
all-last P [] ys h = h
all-last P (x ∷ xs) ys h = all-last P xs ys h.1
