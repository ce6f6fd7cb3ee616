-- What is owed of rows that are given so many times.
use Rattle.std.proofs.Common.{◌≡◌, ℕ, zero, suc, ◌+◌, ◌-◌, ◌<◌, List, [], ◌∷◌, ◌++◌, length, refl, ap, sym, ◌∙◌, subst, arith, append-nil, length-append}
use Rattle.pipe_schema.specs.Rows.{Row, Same}
use Rattle.pipe_ops.specs.Pieces.{IsFirstOf}
use Rattle.worked_lanes.specs.Repeats.{copies}

same-self : (rows : List Row) → Same rows rows
same-self rows = record { each = λ row. refl }

pub copies-none : (n : ℕ) (rows : List Row) → length rows ≡ 0 → copies n rows ≡ []
copies-none zero rows e = refl
copies-none (suc n) [] e = copies-none n [] refl
copies-none (suc n) (x ∷ rows) e = absurd (omega (arith, e))

pub copies-out : (n : ℕ) (rows : List Row) → n ≡ 0 → copies n rows ≡ []
copies-out n rows e = ap (λ k. copies k rows) e

pub copies-last : (n : ℕ) (rows : List Row) → n ≡ 1 → Same (copies n rows) rows
copies-last n rows e =
    subst (λ (l : List Row). Same l rows) (sym (ap (λ k. copies k rows) e ∙ append-nil rows)) (same-self rows)

copies-long : (n : ℕ) (rows : List Row) → 0 < n → 0 < length rows → 0 < length (copies n rows)
copies-long zero rows some there = absurd (omega (arith, some))
copies-long (suc n) rows some there = omega (arith, there, length-append rows (copies n rows))

pub copies-more : (n m : ℕ) (rows : List Row) → n ≡ suc m → 0 < m → 0 < length rows → IsFirstOf (copies n rows) rows (copies m rows)
copies-more n m rows e some there =
    (there, copies-long m rows some there, subst (λ (l : List Row). Same l (rows ++ copies m rows)) (sym (ap (λ k. copies k rows) e)) (same-self (rows ++ copies m rows)))
