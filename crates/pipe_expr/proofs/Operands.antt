-- Operands: columns and constants.
use Rattle.std.proofs.Common.{◌≡◌, ℕ, zero, suc, List, [], ◌∷◌, ◌++◌, ◌+◌, Option, Some, length, map, replicate, refl, ap, sym, subst, ◌∙◌, arith}
use Rattle.pipe_column.specs.Column.{nullables}
use Rattle.pipe_column.specs.Validity.{validities}
use Rattle.pipe_column.specs.declared.validities.Validities.{Validities}
use Rattle.pipe_column.specs.declared.validities.Validities.TheVariants as shown
use Rattle.pipe_column.proofs.AllThere.{nullables-there}
use Rattle.pipe_expr.specs.Nullables.{zip_with}

-- as many as in each list
pub length-zip : {A B C : Type 0} (f : A → B → C) (n : ℕ) (xs : List A) (ys : List B) → length xs ≡ n → length ys ≡ n → n ≡ length (zip_with f xs ys)
length-zip f n [] [] p q = sym p
length-zip f n [] (y ∷ ys) p q = absurd (omega arith)
length-zip f n (x ∷ xs) [] p q = absurd (omega arith)
length-zip f zero (x ∷ xs) (y ∷ ys) p q = absurd (omega arith)
length-zip f (suc n) (x ∷ xs) (y ∷ ys) p q = ap suc (length-zip f n xs ys (omega arith) (omega arith))

-- a value at each row is a cell at each row
pub map-replicate : {A B : Type 0} (f : A → B) (n : ℕ) (x : A) → replicate n (f x) ≡ map f (replicate n x)
map-replicate f zero x = refl
map-replicate f (suc n) x = ap (λ l. f x ∷ l) (map-replicate f n x)

-- one more
replicate-suc : {A : Type 0} (n : ℕ) (x : A) → replicate n x ++ x ∷ [] ≡ replicate (suc n) x
replicate-suc zero x = refl
replicate-suc (suc n) x = ap (λ l. x ∷ l) (replicate-suc n x)

pub replicate-push : {A : Type 0} (n : ℕ) (x : A) → replicate n x ++ x ∷ [] ≡ replicate (n + 1) x
replicate-push n x = replicate-suc n x ∙ (let e : suc n ≡ n + 1 = omega arith in ap (λ k. replicate k x) e)

pub repeated_cell : {A B : Type 0} (f : A → B) (n : ℕ) (x : A) {c : B} → f x ≡ c → replicate n c ≡ map f (replicate n x)
repeated_cell f n x h = ap (replicate n) (sym h) ∙ map-replicate f n x

-- the values of a column in which none is missing
pub valid_operand : {T C : Type 0} (cell : Option T → C) (v : Validities) (n : ℕ) (xs : List T) {column : List (Option T)} {cells : List C} → cells ≡ map cell column → nullables (validities v) xs ≡ column → length (validities v) ≡ length xs → v ≡ shown.All n → cells ≡ map cell (map Some xs)
valid_operand cell v n xs e f even is =
    let Even : Validities → Type 0 = λ w. length (validities w) ≡ length xs in
    let all : nullables (validities v) xs ≡ map Some xs = ap (λ w. nullables (validities w) xs) is ∙ nullables-there n xs (subst Even is even) in
    e ∙ ap (map cell) (sym f ∙ all)

pub ruleset operand_rules = (length-zip, map-replicate, replicate-push, repeated_cell)
