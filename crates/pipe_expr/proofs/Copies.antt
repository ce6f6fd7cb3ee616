-- Lists of copies, one element at a time.
use Rattle.std.proofs.Common.{◌≡◌, ℕ, zero, suc, ◌<◌, List, [], ◌∷◌, ◌++◌, length, get_or, take, map, refl, ap, ◌∙◌, arith}

map-push : {A B : Type 0} (f : A → B) (ys : List A) (y : A) → map f (ys ++ y ∷ []) ≡ map f ys ++ f y ∷ []
map-push f [] y = refl
map-push f (x ∷ ys) y = ap (λ l. f x ∷ l) (map-push f ys y)

take-push : {A B : Type 0} (f : A → B) (xs : List A) (i : ℕ) (d : A) → i < length xs → map f (take i xs) ++ f (get_or xs i d) ∷ [] ≡ map f (take (suc i) xs)
take-push f [] i d h = absurd (omega arith)
take-push f (x ∷ xs) zero d h = refl
take-push f (x ∷ xs) (suc i) d h = ap (λ l. f x ∷ l) (take-push f xs i d (omega arith))

-- one more copy, which is seen as its source is
pub copied_next : {A B : Type 0} (f : A → B) (xs ys : List A) (i : ℕ) (x y : A) → map f ys ≡ map f (take i xs) → i < length xs → x ≡ get_or xs i x → f y ≡ f x → map f (ys ++ y ∷ []) ≡ map f (take (suc i) xs)
copied_next f xs ys i x y so_far within is same =
    map-push f ys y ∙ ap (λ l. l ++ f y ∷ []) so_far ∙ ap (λ z. map f (take i xs) ++ z ∷ []) (same ∙ ap f is) ∙ take-push f xs i x within
