-- What stands at a place of nullable values.
use Rattle.std.proofs.Common.{◌≡◌, ℕ, zero, suc, ◌<◌, Bool, true, false, List, [], ◌∷◌, ◌++◌, ◌+◌, take, map, Option, Some, None, length, get_or, replicate, refl, ap, sym, ◌∙◌, arith}
use Rattle.std.proofs.lemmas.List.{get_or-map, length-map}
use Rattle.pipe_column.specs.Column.{nullable, nullables, nullable_at}
use Rattle.pipe_expr.specs.Nullables.{zip_with}

-- a place of a column has a validity and a value
pub validity_of-nullables : {T : Type 0} (validity : List Bool) (xs : List T) (i : ℕ) → i < length (nullables validity xs) → i < length validity
validity_of-nullables [] xs i h = h
validity_of-nullables (true ∷ validity) [] i h = absurd (omega arith)
validity_of-nullables (false ∷ validity) [] i h = absurd (omega arith)
validity_of-nullables (true ∷ validity) (x ∷ xs) zero h = omega arith
validity_of-nullables (false ∷ validity) (x ∷ xs) zero h = omega arith
validity_of-nullables (true ∷ validity) (x ∷ xs) (suc i) h = let e = validity_of-nullables validity xs i (omega arith) in omega arith
validity_of-nullables (false ∷ validity) (x ∷ xs) (suc i) h = let e = validity_of-nullables validity xs i (omega arith) in omega arith

pub values_of-nullables : {T : Type 0} (validity : List Bool) (xs : List T) (i : ℕ) → i < length (nullables validity xs) → i < length xs
values_of-nullables [] xs i h = absurd (omega arith)
values_of-nullables (true ∷ validity) [] i h = h
values_of-nullables (false ∷ validity) [] i h = h
values_of-nullables (true ∷ validity) (x ∷ xs) zero h = omega arith
values_of-nullables (false ∷ validity) (x ∷ xs) zero h = omega arith
values_of-nullables (true ∷ validity) (x ∷ xs) (suc i) h = let e = values_of-nullables validity xs i (omega arith) in omega arith
values_of-nullables (false ∷ validity) (x ∷ xs) (suc i) h = let e = values_of-nullables validity xs i (omega arith) in omega arith

-- it is that value, or none
pub nullable_at-read : {T : Type 0} (validity : List Bool) (xs : List T) (i : ℕ) (x : T) → i < length (nullables validity xs) → nullable (get_or validity i false) (get_or xs i x) ≡ nullable_at (nullables validity xs) i
nullable_at-read [] xs i x h = absurd (omega arith)
nullable_at-read (true ∷ validity) [] i x h = absurd (omega arith)
nullable_at-read (false ∷ validity) [] i x h = absurd (omega arith)
nullable_at-read (true ∷ validity) (y ∷ xs) zero x h = refl
nullable_at-read (false ∷ validity) (y ∷ xs) zero x h = refl
nullable_at-read (true ∷ validity) (y ∷ xs) (suc i) x h = nullable_at-read validity xs i x (omega arith)
nullable_at-read (false ∷ validity) (y ∷ xs) (suc i) x h = nullable_at-read validity xs i x (omega arith)

-- one more place
nullables-push : {T : Type 0} (validity : List Bool) (xs : List T) (m : Bool) (x : T) → length validity ≡ length xs → nullables (validity ++ m ∷ []) (xs ++ x ∷ []) ≡ nullables validity xs ++ nullable m x ∷ []
nullables-push [] [] true x h = refl
nullables-push [] [] false x h = refl
nullables-push [] (_ ∷ _) m x h = cc
nullables-push (_ ∷ _) [] m x h = cc
nullables-push (true ∷ validity) (y ∷ xs) m x h = ap (λ l. Some y ∷ l) (nullables-push validity xs m x (omega arith))
nullables-push (false ∷ validity) (y ∷ xs) m x h = ap (λ l. None ∷ l) (nullables-push validity xs m x (omega arith))

take-more : {T : Type 0} (i : ℕ) (all : List (Option T)) → i < length all → take i all ++ nullable_at all i ∷ [] ≡ take (suc i) all
take-more i [] h = absurd (omega arith)
take-more zero (x ∷ all) h = refl
take-more (suc i) (x ∷ all) h = ap (λ l. x ∷ l) (take-more i all (omega arith))

pub nullables-grow : {T : Type 0} (all : List (Option T)) (validity : List Bool) (xs : List T) (m : Bool) (x : T) (i : ℕ) → i < length all → length validity ≡ i → length xs ≡ i → nullables validity xs ≡ take i all → nullable m x ≡ nullable_at all i → nullables (validity ++ m ∷ []) (xs ++ x ∷ []) ≡ take (i + 1) all
nullables-grow all validity xs m x i h p q e f = nullables-push validity xs m x (p ∙ sym q) ∙ rw (e, f) (take-more i all h) ∙ (let n : suc i ≡ i + 1 = omega arith in ap (λ k. take k all) n)

-- each place of values that are all there has its value
pub values_of-valid : {T : Type 0} (xs : List T) (i : ℕ) → i < length (map Some xs) → i < length xs
values_of-valid xs i h = omega (arith, h, length-map xs Some)

pub nullable_at-valid : {T : Type 0} (xs : List T) (i : ℕ) (x : T) → i < length (map Some xs) → nullable true (get_or xs i x) ≡ nullable_at (map Some xs) i
nullable_at-valid xs i x h = sym (get_or-map Some xs i x None (omega (arith, h, length-map xs Some)))

-- each place of a repetition has its item
pub nullable_at-replicate : {T : Type 0} (n : ℕ) (x : Option T) (i : ℕ) → i < length (replicate n x) → nullable_at (replicate n x) i ≡ x
nullable_at-replicate zero x i h = absurd (omega arith)
nullable_at-replicate (suc n) x zero h = refl
nullable_at-replicate (suc n) x (suc i) h = nullable_at-replicate n x i (omega arith)

-- a place of two lists, item by item
pub left_of-zip : {A B C : Type 0} (f : A → B → C) (xs : List A) (ys : List B) (i : ℕ) → i < length (zip_with f xs ys) → i < length xs
left_of-zip f [] ys i h = h
left_of-zip f (x ∷ xs) [] i h = absurd (omega arith)
left_of-zip f (x ∷ xs) (y ∷ ys) zero h = omega arith
left_of-zip f (x ∷ xs) (y ∷ ys) (suc i) h = let e = left_of-zip f xs ys i (omega arith) in omega arith

pub right_of-zip : {A B C : Type 0} (f : A → B → C) (xs : List A) (ys : List B) (i : ℕ) → i < length (zip_with f xs ys) → i < length ys
right_of-zip f [] ys i h = absurd (omega arith)
right_of-zip f (x ∷ xs) [] i h = h
right_of-zip f (x ∷ xs) (y ∷ ys) zero h = omega arith
right_of-zip f (x ∷ xs) (y ∷ ys) (suc i) h = let e = right_of-zip f xs ys i (omega arith) in omega arith

pub nullable_at-zip : {A B C : Type 0} (f : Option A → Option B → Option C) (xs : List (Option A)) (ys : List (Option B)) (i : ℕ) → i < length (zip_with f xs ys) → f (nullable_at xs i) (nullable_at ys i) ≡ nullable_at (zip_with f xs ys) i
nullable_at-zip f [] ys i h = absurd (omega arith)
nullable_at-zip f (x ∷ xs) [] i h = absurd (omega arith)
nullable_at-zip f (x ∷ xs) (y ∷ ys) zero h = refl
nullable_at-zip f (x ∷ xs) (y ∷ ys) (suc i) h = nullable_at-zip f xs ys i (omega arith)

pub ruleset nullable_rules = (validity_of-nullables, values_of-nullables, nullable_at-read, nullables-grow, values_of-valid, nullable_at-valid, nullable_at-replicate, left_of-zip, right_of-zip, nullable_at-zip)
