-- The length of the same rows; the counts of a stop check over runs one after another.
use Rattle.std.proofs.Common.{◌≡◌, ℕ, ◌+◌, ◌≤◌, List, [], ◌∷◌, length, inl, inr, refl, arith}
use Rattle.pipe_exec.specs.Runs.{Stays}
use Rattle.pipe_schema.specs.Counts.{Counts, Rises}
use Rattle.pipe_schema.specs.Rows.{Row, Same}
use Rattle.pipe_schema.specs.Weights.{total}
use Rattle.pipe_schema.proofs.Weights.{SameBag-from_rows}

total-length : (rows : List Row) → total (λ row. 1) rows ≡ length rows
total-length [] = refl
total-length (row ∷ rows) = omega (arith, total-length rows)

weighs : {a b : List Row} → Same a b → (w : Row → ℕ) → total w a ≡ total w b
weighs h w = (SameBag-from_rows h).sums w

pub same_length : {a b : List Row} → Same a b → length a ≡ length b
same_length {a = a} {b = b} h = omega (arith, weighs h (λ row. 1), total-length a, total-length b)

-- a run in which no yes comes, and then one
pub counts_on : (n a b c : ℕ) → Counts 0 a b → Counts n b c → Counts n a c
counts_on n a b c (inl h) (inl k) = inl (omega (arith, h, k))
counts_on n a b c (inl h) (inr k) = inr k
counts_on n a b c (inr h) (inl k) = inr (omega (arith, h, k))
counts_on n a b c (inr h) (inr k) = inr k

pub rises_on : (a b c : ℕ) → Rises a b → Rises b c → Rises a c
rises_on a b c (inl h) (inl k) = inl (omega (arith, h, k))
rises_on a b c (inl h) (inr k) = inr k
rises_on a b c (inr h) (inl k) = inr (omega (arith, h, k))
rises_on a b c (inr h) (inr k) = inr k

-- no yes on the whole is none from there on
pub stays_on : (a b c : ℕ) → Counts 0 a b → Stays a c → Stays b c
stays_on a b c (inl h) stays (inl k) = stays (inl (omega (arith, h, k)))
stays_on a b c (inl h) stays (inr k) = stays (inr k)
stays_on a b c (inr h) stays (inl k) = stays (inr (omega (arith, h, k)))
stays_on a b c (inr h) stays (inr k) = stays (inr k)

-- no yes so far, where none came later
pub stays_before : (n a b c : ℕ) → Counts n b c → Stays a c → Stays a b
stays_before n a b c (inl h) stays (inl k) = stays (inl (omega (arith, h, k)))
stays_before n a b c (inl h) stays (inr k) = stays (inr (omega (arith, h, k)))
stays_before n a b c (inr h) stays k = stays (inr h)
