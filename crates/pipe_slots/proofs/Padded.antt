-- A list whose last item is what stands for the items that aren't there.
use Rattle.std.proofs.Common.{◌≡◌, ℕ, zero, suc, List, [], ◌∷◌, ◌++◌, get_or, refl}

pub padded : {A : Type 0} (d : A) (xs : List A) (k : ℕ) → get_or (xs ++ d ∷ []) k d ≡ get_or xs k d
padded d [] zero = refl
padded d [] (suc k) = refl
padded d (x ∷ xs) zero = refl
padded d (x ∷ xs) (suc k) = padded d xs k
