-- One more of a number.
use Rattle.std.proofs.Common.{◌≡◌, ℕ, zero, suc, ◌+◌, cond, ◌==◌, List, [], ◌∷◌, ◌++◌, refl, ap, sym, ◌∙◌, arith}
use Rattle.pipe_driver.specs.Ways.{one}
use Rattle.pipe_driver.proofs.Tests.{by_test, eq-is, eq-true, eq-not, eq-false}
use Rattle.pipe_driver.specs.Tables.{number_at}

-- a nought behind the others changes no number
pub none_more : (xs : List ℕ) (k : ℕ) → number_at (xs ++ 0 ∷ []) k ≡ number_at xs k
none_more [] zero = refl
none_more [] (suc k) = refl
none_more (x ∷ xs) zero = refl
none_more (x ∷ xs) (suc k) = none_more xs k

pub one_more : (old new : List ℕ) (a : ℕ) → ((k : ℕ) → number_at new k ≡ cond (k == a) (number_at old a + 1) (number_at old k)) → (k : ℕ) → number_at new k ≡ number_at old k + one (a == k)
one_more old new a is k =
    by_test (number_at new k ≡ number_at old k + one (a == k)) (k == a)
    (λ e. (
    let here = is k ∙ ap (λ b. cond b (number_at old a + 1) (number_at old k)) e in
    let same = ap (number_at old) (eq-is k a e) in
    let counted = ap one (eq-true a k (sym (eq-is k a e))) in
    omega arith))
    (λ e. (
    let here = is k ∙ ap (λ b. cond b (number_at old a + 1) (number_at old k)) e in
    let counted = ap one (eq-false a k (λ f. eq-not k a e (sym f))) in
    omega arith))
