-- What loops over expressions build.
use Rattle.std.proofs.Common.{◌≡◌, ℕ, zero, suc, ◌+◌, ◌<◌, Bool, List, [], ◌∷◌, ◌++◌, map, length, take, get_or, refl, ap, sym, ◌∙◌, arith, append_assoc, append-nil}
use Rattle.std.specs.Prelude.{filter}
use Rattle.std.specs.List.{flat_map}
use Rattle.pipe_rules.proofs.Filters.{filter-append}

map-push : {A B : Type 0} (f : A → B) (xs : List A) (x : A) → map f (xs ++ x ∷ []) ≡ map f xs ++ f x ∷ []
map-push f [] x = refl
map-push f (y ∷ xs) x = ap (λ l. f y ∷ l) (map-push f xs x)

flat-append : {A B : Type 0} (f : A → List B) (xs ys : List A) → flat_map f (xs ++ ys) ≡ flat_map f xs ++ flat_map f ys
flat-append f [] ys = refl
flat-append f (x ∷ xs) ys = ap (λ l. f x ++ l) (flat-append f xs ys) ∙ sym (append_assoc (f x) (flat_map f xs) (flat_map f ys))

take-push : {A : Type 0} (xs : List A) (i : ℕ) (d : A) → i < length xs → take (suc i) xs ≡ take i xs ++ get_or xs i d ∷ []
take-push [] i d h = absurd (omega arith)
take-push (y ∷ xs) zero d h = refl
take-push (y ∷ xs) (suc i) d h = ap (λ l. y ∷ l) (take-push xs i d (omega arith))

pub take-next : {A : Type 0} (xs : List A) (i : ℕ) (x : A) → i < length xs → x ≡ get_or xs i x → take (i + 1) xs ≡ take i xs ++ x ∷ []
take-next xs i x lt is = (let e : i + 1 ≡ suc i = omega arith in ap (λ k. take k xs) e ∙ take-push xs i x lt ∙ ap (λ y. take i xs ++ y ∷ []) (sym is))

-- one more of what is made of each
pub flat-next : {A B C : Type 0} (g : A → B) (f : B → List C) (xs : List A) (i : ℕ) (x : A) (old new : List C) → old ≡ flat_map f (map g (take i xs)) → i < length xs → x ≡ get_or xs i x → new ≡ old ++ f (g x) → new ≡ flat_map f (map g (take (i + 1) xs))
flat-next g f xs i x old new so_far lt is more =
    more
    ∙ ap (λ l. l ++ f (g x)) so_far
    ∙ ap (λ l. flat_map f (map g (take i xs)) ++ l) (sym (append-nil (f (g x))))
    ∙ sym (flat-append f (map g (take i xs)) (g x ∷ []))
    ∙ ap (flat_map f) (sym (map-push g (take i xs) x))
    ∙ ap (λ l. flat_map f (map g l)) (sym (take-next xs i x lt is))

-- one more of what is made of those that pass
pub some-next : {A B C : Type 0} (g : A → B) (p : B → Bool) (f : B → List C) (xs : List A) (i : ℕ) (x : A) (old new : List C) → old ≡ flat_map f (filter p (map g (take i xs))) → i < length xs → x ≡ get_or xs i x → new ≡ old ++ flat_map f (filter p (g x ∷ [])) → new ≡ flat_map f (filter p (map g (take (i + 1) xs)))
some-next g p f xs i x old new so_far lt is more =
    more
    ∙ ap (λ l. l ++ flat_map f (filter p (g x ∷ []))) so_far
    ∙ sym (flat-append f (filter p (map g (take i xs))) (filter p (g x ∷ [])))
    ∙ ap (flat_map f) (sym (filter-append p (map g (take i xs)) (g x ∷ [])))
    ∙ ap (λ l. flat_map f (filter p l)) (sym (map-push g (take i xs) x))
    ∙ ap (λ l. flat_map f (filter p (map g l))) (sym (take-next xs i x lt is))

-- what was taken one after another, and what is left
pub rest-next : {A : Type 0} (yielded rest before all : List A) (x : A) → yielded ++ before ≡ all → before ≡ x ∷ rest → (yielded ++ x ∷ []) ++ rest ≡ all
rest-next yielded rest before all x whole step = append_assoc yielded (x ∷ []) rest ∙ ap (λ l. yielded ++ l) (sym step) ∙ whole

pub all-taken : {A : Type 0} (yielded rest all : List A) → yielded ++ rest ≡ all → rest ≡ [] → yielded ≡ all
all-taken yielded rest all whole none = sym (append-nil yielded) ∙ ap (λ l. yielded ++ l) (sym none) ∙ whole

-- one more of those that pass, taken one after another
pub taken-next : {A B : Type 0} (g : A → B) (p : B → Bool) (yielded : List A) (x : A) (old new : List B) → old ≡ filter p (map g yielded) → new ≡ old ++ filter p (g x ∷ []) → new ≡ filter p (map g (yielded ++ x ∷ []))
taken-next g p yielded x old new so_far more =
    more
    ∙ ap (λ l. l ++ filter p (g x ∷ [])) so_far
    ∙ sym (filter-append p (map g yielded) (g x ∷ []))
    ∙ ap (filter p) (sym (map-push g yielded x))

pub filtered-next : {A : Type 0} (p : A → Bool) (yielded : List A) (x : A) (old new : List A) → old ≡ filter p yielded → new ≡ old ++ filter p (x ∷ []) → new ≡ filter p (yielded ++ x ∷ [])
filtered-next p yielded x old new so_far more =
    more ∙ ap (λ l. l ++ filter p (x ∷ [])) so_far ∙ sym (filter-append p yielded (x ∷ []))

-- one more of those that pass
pub kept-next : {A B : Type 0} (g : A → B) (p : B → Bool) (xs : List A) (i : ℕ) (x : A) (old new : List B) → old ≡ filter p (map g (take i xs)) → i < length xs → x ≡ get_or xs i x → new ≡ old ++ filter p (g x ∷ []) → new ≡ filter p (map g (take (i + 1) xs))
kept-next g p xs i x old new so_far lt is more =
    more
    ∙ ap (λ l. l ++ filter p (g x ∷ [])) so_far
    ∙ sym (filter-append p (map g (take i xs)) (g x ∷ []))
    ∙ ap (filter p) (sym (map-push g (take i xs) x))
    ∙ ap (λ l. filter p (map g l)) (sym (take-next xs i x lt is))

pub no-items : {A : Type 0} (xs : List A) → length xs ≡ 0 → xs ≡ []
no-items [] h = refl
no-items (x ∷ xs) h = absurd (omega arith)
