-- Filters of mapped, joined and flattened lists.
use Rattle.std.proofs.Common.{◌≡◌, Bool, true, false, cond, List, [], ◌∷◌, ◌++◌, map, refl, ap, ◌∙◌}
use Rattle.std.specs.Prelude.{filter, ◌&&◌}
use Rattle.std.specs.List.{AllByRecursion, flat_map, list_all}

pub all-always : {X : Type 0} (P : X → Type 0) → ((x : X) → P x) → (xs : List X) → AllByRecursion P xs
all-always P h [] = tt
all-always P h (x ∷ xs) = (h x, all-always P h xs)

pub all-of : {X : Type 0} (P Q : X → Type 0) → ((x : X) → P x → Q x) → (xs : List X) → AllByRecursion P xs → AllByRecursion Q xs
all-of P Q h [] all = tt
all-of P Q h (x ∷ xs) all = (h x all.0, all-of P Q h xs all.1)

pub all-both : {X : Type 0} (P Q : X → Type 0) (xs : List X) → AllByRecursion P xs → AllByRecursion Q xs → AllByRecursion (λ x. P x × Q x) xs
all-both P Q [] p q = tt
all-both P Q (x ∷ xs) p q = ((p.0, q.0), all-both P Q xs p.1 q.1)

pub all-left : {X : Type 0} (P : X → Type 0) (a b : List X) → AllByRecursion P (a ++ b) → AllByRecursion P a
all-left P [] b all = tt
all-left P (x ∷ a) b all = (all.0, all-left P a b all.1)

pub all-right : {X : Type 0} (P : X → Type 0) (a b : List X) → AllByRecursion P (a ++ b) → AllByRecursion P b
all-right P [] b all = all
all-right P (x ∷ a) b all = all-right P a b all.1

and-first : (a b : Bool) → (a && b) ≡ true → a ≡ true
and-first true b e = refl
and-first false b e = cc

and-second : (a b : Bool) → (a && b) ≡ true → b ≡ true
and-second true b e = e
and-second false b e = cc

-- what a test says of each
pub all-tested : {X : Type 0} (test : X → Bool) (xs : List X) → list_all test xs ≡ true → AllByRecursion (λ x. test x ≡ true) xs
all-tested test [] e = tt
all-tested test (x ∷ xs) e = (and-first (test x) (list_all test xs) e, all-tested test xs (and-second (test x) (list_all test xs) e))

pub filter-same : {X : Type 0} (p q : X → Bool) (xs : List X) → AllByRecursion (λ x. p x ≡ q x) xs → filter p xs ≡ filter q xs
filter-same p q [] h = refl
filter-same p q (x ∷ xs) h = ap (λ b. cond b (x ∷ filter p xs) (filter p xs)) h.0 ∙ ap (λ l. cond (q x) (x ∷ l) l) (filter-same p q xs h.1)

pub filter-map : {X Y : Type 0} (p : Y → Bool) (q : X → Bool) (f : X → Y) (xs : List X) → AllByRecursion (λ x. p (f x) ≡ q x) xs → filter p (map f xs) ≡ map f (filter q xs)
filter-map p q f [] h = refl
filter-map p q f (x ∷ xs) h =
    ap (λ b. cond b (f x ∷ filter p (map f xs)) (filter p (map f xs))) h.0
    ∙ ap (λ l. cond (q x) (f x ∷ l) l) (filter-map p q f xs h.1)
    ∙ elim (q x) as (λ b. cond b (f x ∷ map f (filter q xs)) (map f (filter q xs)) ≡ map f (cond b (x ∷ filter q xs) (filter q xs))) [ true ↦ refl | false ↦ refl ]

pub filter-append : {X : Type 0} (p : X → Bool) (xs ys : List X) → filter p (xs ++ ys) ≡ filter p xs ++ filter p ys
filter-append p [] ys = refl
filter-append p (x ∷ xs) ys =
    ap (λ l. cond (p x) (x ∷ l) l) (filter-append p xs ys)
    ∙ elim (p x) as (λ b. cond b (x ∷ (filter p xs ++ filter p ys)) (filter p xs ++ filter p ys) ≡ cond b (x ∷ filter p xs) (filter p xs) ++ filter p ys) [ true ↦ refl | false ↦ refl ]

pub filter-flat : {X Y : Type 0} (p : Y → Bool) (f g : X → List Y) (xs : List X) → AllByRecursion (λ x. filter p (f x) ≡ g x) xs → filter p (flat_map f xs) ≡ flat_map g xs
filter-flat p f g [] h = refl
filter-flat p f g (x ∷ xs) h =
    filter-append p (f x) (flat_map f xs)
    ∙ ap (λ l. l ++ filter p (flat_map f xs)) h.0
    ∙ ap (λ l. g x ++ l) (filter-flat p f g xs h.1)

pub flat-filter : {X Y : Type 0} (q : X → Bool) (f : X → List Y) (xs : List X) → flat_map (λ x. cond (q x) (f x) []) xs ≡ flat_map f (filter q xs)
flat-filter q f [] = refl
flat-filter q f (x ∷ xs) =
    ap (λ l. cond (q x) (f x) [] ++ l) (flat-filter q f xs)
    ∙ elim (q x) as (λ b. cond b (f x) [] ++ flat_map f (filter q xs) ≡ flat_map f (cond b (x ∷ filter q xs) (filter q xs))) [ true ↦ refl | false ↦ refl ]

-- all of what an element makes is kept, or none of it
pub filter-whole : {X Y : Type 0} (p : Y → Bool) (q : X → Bool) (f : X → List Y) (xs : List X) → AllByRecursion (λ x. filter p (f x) ≡ cond (q x) (f x) []) xs → filter p (flat_map f xs) ≡ flat_map f (filter q xs)
filter-whole p q f xs h = filter-flat p f (λ x. cond (q x) (f x) []) xs h ∙ flat-filter q f xs

pub filter-constant : {X : Type 0} (p : X → Bool) (b : Bool) (xs : List X) → AllByRecursion (λ x. p x ≡ b) xs → filter p xs ≡ cond b xs []
filter-constant p true [] h = refl
filter-constant p false [] h = refl
filter-constant p b (x ∷ xs) h =
    ap (λ c. cond c (x ∷ filter p xs) (filter p xs)) h.0
    ∙ ap (λ l. cond b (x ∷ l) l) (filter-constant p b xs h.1)
    ∙ elim b as (λ c. cond c (x ∷ cond c xs []) (cond c xs []) ≡ cond c (x ∷ xs) []) [ true ↦ refl | false ↦ refl ]

pub filter-swap : {X : Type 0} (p q : X → Bool) (xs : List X) → filter p (filter q xs) ≡ filter q (filter p xs)
filter-swap p q [] = refl
filter-swap p q (x ∷ xs) =
    let ih = filter-swap p q xs in
    let split : (a b : Bool) → p x ≡ a → q x ≡ b → filter p (cond b (x ∷ filter q xs) (filter q xs)) ≡ filter q (cond a (x ∷ filter p xs) (filter p xs)) = elim [
      | true ↦ elim [ true ↦ λ e f. rw (e, f) (ap (λ l. x ∷ l) ih) | false ↦ λ e f. rw f ih ]
      | false ↦ elim [ true ↦ λ e f. rw e ih | false ↦ λ e f. ih ]
    ]
    in split (p x) (q x) refl refl

pub filter-both : {X : Type 0} (p q : X → Bool) (xs : List X) → filter (λ x. p x && q x) xs ≡ filter q (filter p xs)
filter-both p q [] = refl
filter-both p q (x ∷ xs) =
    let ih = filter-both p q xs in
    let split : (a b : Bool) → p x ≡ a → q x ≡ b → cond (a && b) (x ∷ filter (λ y. p y && q y) xs) (filter (λ y. p y && q y) xs) ≡ filter q (cond a (x ∷ filter p xs) (filter p xs)) = elim [
      | true ↦ elim [ true ↦ λ e f. rw f (ap (λ l. x ∷ l) ih) | false ↦ λ e f. rw f ih ]
      | false ↦ elim [ true ↦ λ e f. ih | false ↦ λ e f. ih ]
    ]
    in split (p x) (q x) refl refl
