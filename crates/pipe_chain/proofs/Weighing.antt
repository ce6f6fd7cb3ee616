-- Rows and keys by their weights: two lists have the same of them where every weight sums to the same over both.
use Rattle.std.proofs.Common.{◌≡◌, ℕ, ◌+◌, ◌≤◌, List, [], ◌∷◌, ◌++◌, length, refl, sym, ◌∙◌, arith}
use Rattle.std.specs.List.{flat_map}
use Rattle.pipe_schema.specs.Rows.{Row, Same, Within}
use Rattle.pipe_schema.specs.Weights.{total}
use Rattle.pipe_schema.proofs.Weights.{total-append, total-flat_map, SameBag-from_rows, Same-from_bag, WithinBag-from_rows, Within-from_bag}
use Rattle.pipe_chain.specs.Sums.{total as key_total}
use Rattle.pipe_chain.specs.Keys.{SameKeys, WithinKeys}

-- both sums are one
pub key-total : {A : Type 0} (w : A → ℕ) (xs : List A) → key_total w xs ≡ total w xs
key-total w [] = refl
key-total w (x ∷ xs) = omega (arith, key-total w xs)

pub total-length : {A : Type 0} (xs : List A) → total (λ x. 1) xs ≡ length xs
total-length [] = refl
total-length (x ∷ xs) = omega (arith, total-length xs)

pub length-both : {A : Type 0} (a b : List A) → length (a ++ b) ≡ length a + length b
length-both [] b = omega arith
length-both (x ∷ a) b = omega (arith, length-both a b)

-- ---- rows

pub weighs : {a b : List Row} → Same a b → (w : Row → ℕ) → total w a ≡ total w b
weighs h w = (SameBag-from_rows h).sums w

pub rows-by : {a b : List Row} → ((w : Row → ℕ) → total w a ≡ total w b) → Same a b
rows-by h = Same-from_bag (record { sums = h })

pub rows-refl : (a : List Row) → Same a a
rows-refl a = rows-by (λ w. refl)

pub rows-sym : {a b : List Row} → Same a b → Same b a
rows-sym h = rows-by (λ w. sym (weighs h w))

pub rows-trans : {a b c : List Row} → Same a b → Same b c → Same a c
rows-trans h k = rows-by (λ w. weighs h w ∙ weighs k w)

pub rows-append : {a b c d : List Row} → Same a b → Same c d → Same (a ++ c) (b ++ d)
rows-append {a = a} {b = b} {c = c} {d = d} h k = rows-by (λ w. omega (arith, weighs h w, weighs k w, total-append w a c, total-append w b d))

pub rows-flat : (f : Row → List Row) {a b : List Row} → Same a b → Same (flat_map f a) (flat_map f b)
rows-flat f {a = a} {b = b} h = rows-by (λ w. total-flat_map f w a ∙ weighs h (λ row. total w (f row)) ∙ sym (total-flat_map f w b))

pub rows-length : {a b : List Row} → Same a b → length a ≡ length b
rows-length {a = a} {b = b} h = omega (arith, weighs h (λ row. 1), total-length a, total-length b)

pub fewer : {a b : List Row} → Within a b → (w : Row → ℕ) → total w a ≤ total w b
fewer h w = (WithinBag-from_rows h).sums w

pub within-by : {a b : List Row} → ((w : Row → ℕ) → total w a ≤ total w b) → Within a b
within-by h = Within-from_bag (record { sums = h })

pub within-length : {a b : List Row} → Within a b → length a ≤ length b
within-length {a = a} {b = b} h = omega (arith, fewer h (λ row. 1), total-length a, total-length b)

-- ---- keys

pub keys-weigh : {a b : List ℕ} → SameKeys a b → (w : ℕ → ℕ) → total w a ≡ total w b
keys-weigh {a = a} {b = b} h w = sym (key-total w a) ∙ h.sums w ∙ key-total w b

pub keys-by : {a b : List ℕ} → ((w : ℕ → ℕ) → total w a ≡ total w b) → SameKeys a b
keys-by {a = a} {b = b} h = record { sums = λ w. key-total w a ∙ h w ∙ sym (key-total w b) }

pub keys-refl : (a : List ℕ) → SameKeys a a
keys-refl a = record { sums = λ w. refl }

pub keys-sym : {a b : List ℕ} → SameKeys a b → SameKeys b a
keys-sym h = record { sums = λ w. sym (h.sums w) }

pub keys-trans : {a b c : List ℕ} → SameKeys a b → SameKeys b c → SameKeys a c
keys-trans h k = record { sums = λ w. h.sums w ∙ k.sums w }

pub keys-fewer : {a b : List ℕ} → WithinKeys a b → (w : ℕ → ℕ) → total w a ≤ total w b
keys-fewer {a = a} {b = b} h w = omega (arith, h.sums w, key-total w a, key-total w b)

pub keys-within : {a b : List ℕ} → ((w : ℕ → ℕ) → total w a ≤ total w b) → WithinKeys a b
keys-within {a = a} {b = b} h = record { sums = λ w. omega (arith, h w, key-total w a, key-total w b) }

-- the keys of some rows, and the rows of some keys
pub asks-same : (f : Row → List ℕ) {a b : List Row} → Same a b → SameKeys (flat_map f a) (flat_map f b)
asks-same f {a = a} {b = b} h = keys-by (λ w. total-flat_map f w a ∙ weighs h (λ row. total w (f row)) ∙ sym (total-flat_map f w b))

pub gains-same : (f : ℕ → List Row) {a b : List ℕ} → SameKeys a b → Same (flat_map f a) (flat_map f b)
gains-same f {a = a} {b = b} h = rows-by (λ w. total-flat_map f w a ∙ keys-weigh h (λ key. total w (f key)) ∙ sym (total-flat_map f w b))
