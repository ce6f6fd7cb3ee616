-- Columns whose places are replaced one after another.
use Rattle.std.proofs.Common.{◌≡◌, ℕ, zero, suc, ◌+◌, ◌<◌, Bool, true, false, List, [], ◌∷◌, Option, Some, None, length, get_or, set, refl, ap, sym, ◌∙◌, arith}
use Rattle.std.proofs.lemmas.List.{length-set}
use Rattle.pipe_column.specs.Column.{nullable, nullables, nullable_at}
use Rattle.pipe_expr.specs.Nullables.{zip_with}
use Rattle.pipe_expr.proofs.NullableRows.{nullable_at-read}

-- the first places replaced by what a function gives of them and of those of another list
abbrev pub zip_first : {A B : Type 0} → ℕ → (A → B → A) → List A → List B → List A
zip_first zero f as_ bs = as_
zip_first (suc n) f (a ∷ as_) (b ∷ bs) = f a b ∷ zip_first n f as_ bs
zip_first (suc n) f as_ bs = as_

pub length-nullables : {T : Type 0} (validity : List Bool) (xs : List T) → length validity ≡ length xs → length (nullables validity xs) ≡ length validity
length-nullables [] [] h = refl
length-nullables [] (_ ∷ _) h = refl
length-nullables (true ∷ validity) [] h = absurd (omega arith)
length-nullables (false ∷ validity) [] h = absurd (omega arith)
length-nullables (true ∷ validity) (x ∷ xs) h = ap suc (length-nullables validity xs (omega arith))
length-nullables (false ∷ validity) (x ∷ xs) h = ap suc (length-nullables validity xs (omega arith))

nullables-set : {T : Type 0} (validity : List Bool) (xs : List T) (i : ℕ) (m : Bool) (x : T) → length validity ≡ length xs → nullables (set validity i m) (set xs i x) ≡ set (nullables validity xs) i (nullable m x)
nullables-set [] xs i m x h = refl
nullables-set (true ∷ validity) [] i m x h = absurd (omega arith)
nullables-set (false ∷ validity) [] i m x h = absurd (omega arith)
nullables-set (true ∷ validity) (y ∷ xs) zero true x h = refl
nullables-set (true ∷ validity) (y ∷ xs) zero false x h = refl
nullables-set (false ∷ validity) (y ∷ xs) zero true x h = refl
nullables-set (false ∷ validity) (y ∷ xs) zero false x h = refl
nullables-set (true ∷ validity) (y ∷ xs) (suc i) m x h = ap (λ l. Some y ∷ l) (nullables-set validity xs i m x (omega arith))
nullables-set (false ∷ validity) (y ∷ xs) (suc i) m x h = ap (λ l. None ∷ l) (nullables-set validity xs i m x (omega arith))

zip_first-set : {A B : Type 0} (f : Option A → Option B → Option A) (i : ℕ) (as_ : List (Option A)) (bs : List (Option B)) → i < length as_ → i < length bs → set (zip_first i f as_ bs) i (f (nullable_at (zip_first i f as_ bs) i) (nullable_at bs i)) ≡ zip_first (suc i) f as_ bs
zip_first-set f i [] bs h k = absurd (omega arith)
zip_first-set f i (a ∷ as_) [] h k = absurd (omega arith)
zip_first-set f zero (a ∷ as_) (b ∷ bs) h k = refl
zip_first-set f (suc i) (a ∷ as_) (b ∷ bs) h k = ap (λ l. f a b ∷ l) (zip_first-set f i as_ bs (omega arith) (omega arith))

zip_first-all : {A B : Type 0} (f : A → B → A) (n : ℕ) (as_ : List A) (bs : List B) → length as_ ≡ n → length bs ≡ n → zip_first n f as_ bs ≡ zip_with f as_ bs
zip_first-all f zero [] bs h k = refl
zip_first-all f zero (a ∷ as_) bs h k = absurd (omega arith)
zip_first-all f (suc n) [] bs h k = refl
zip_first-all f (suc n) (a ∷ as_) [] h k = absurd (omega arith)
zip_first-all f (suc n) (a ∷ as_) (b ∷ bs) h k = ap (λ l. f a b ∷ l) (zip_first-all f n as_ bs (omega arith) (omega arith))

-- one more place
pub replaced-more : {A B : Type 0} (f : Option A → Option B → Option A) (before : List (Option A)) (right : List (Option B)) (validity : List Bool) (xs : List A) (i : ℕ) (m : Bool) (x d : A) → i < length validity → length validity ≡ length xs → length before ≡ length validity → length right ≡ length validity → nullables validity xs ≡ zip_first i f before right → nullable m x ≡ f (nullable (get_or validity i false) (get_or xs i d)) (nullable_at right i) → nullables (set validity i m) (set xs i x) ≡ zip_first (i + 1) f before right
replaced-more f before right validity xs i m x d lt even p q e made =
    let within : i < length (nullables validity xs) = rw (length-nullables validity xs even) lt in
    let here : nullable m x ≡ f (nullable_at (zip_first i f before right) i) (nullable_at right i) = made ∙ ap (λ o. f o (nullable_at right i)) (nullable_at-read validity xs i d within ∙ ap (λ l. nullable_at l i) e) in
    let next : suc i ≡ i + 1 = omega arith in
    nullables-set validity xs i m x even ∙ ap (λ l. set l i (nullable m x)) e ∙ ap (set (zip_first i f before right) i) here ∙ zip_first-set f i before right (omega arith) (omega arith) ∙ ap (λ n. zip_first n f before right) next

-- all places
pub replaced-all : {A B : Type 0} (f : Option A → Option B → Option A) (validity : List Bool) (xs : List A) (right : List (Option B)) (n : ℕ) → length validity ≡ length xs → length right ≡ length validity → n ≡ length validity → zip_first n f (nullables validity xs) right ≡ zip_with f (nullables validity xs) right
replaced-all f validity xs right n even p q = zip_first-all f n (nullables validity xs) right (length-nullables validity xs even ∙ sym q) (p ∙ sym q)

pub ruleset replaced_rules = (length-set, length-nullables, replaced-more, replaced-all)
