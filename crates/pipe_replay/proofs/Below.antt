-- Tests that all numbers below another pass.
use Rattle.std.proofs.Common.{◌≡◌, ℕ, zero, suc, ◌+◌, ◌<◌, ◌≤◌, Bool, true, false, refl, ap, ◌∙◌, subst, arith, ◌⊎◌, inl, inr}
use Rattle.std.specs.Prelude.{◌&&◌}
use Rattle.std.proofs.lemmas.Bool.{cases_lt}
use Rattle.pipe_events.specs.Decided.{all_below}

pub below-more : (f : ℕ → Bool) (i : ℕ) → all_below f i ≡ true → f i ≡ true → all_below f (i + 1) ≡ true
below-more f i rest here =
    let next : i + 1 ≡ suc i = omega arith in
    ap (all_below f) next ∙ rw here rest

pub below-stops : (f : ℕ → Bool) (i n : ℕ) → i < n → f i ≡ false → all_below f n ≡ false
below-stops f i zero lt here = absurd (omega arith)
below-stops f i (suc n) lt here =
    let split : (i < n) ⊎ (n ≤ i) → all_below f (suc n) ≡ false =
    elim [
      | inl less ↦ let rest = below-stops f i n less here in elim (f n) as (λ b. (b && all_below f n) ≡ false) [ true ↦ rest | false ↦ refl ]
      | inr le ↦ let is : i ≡ n = omega arith in let there : f n ≡ false = subst (λ k. f k ≡ false) is here in rw there refl
    ]
    in split (cases_lt i n)

and-last : (a b : Bool) → (a && b) ≡ true → b ≡ true
and-last true b e = e
and-last false b e = cc

pub below-fewer : (f : ℕ → Bool) (i n : ℕ) → all_below f i ≡ true → n ≤ i → all_below f n ≡ true
below-fewer f zero n all le = let is : n ≡ zero = omega arith in ap (all_below f) is
below-fewer f (suc i) n all le =
    let split : (n < suc i) ⊎ (suc i ≤ n) → all_below f n ≡ true =
    elim [
      | inl lt ↦ below-fewer f i n (and-last (f i) (all_below f i) all) (omega arith)
      | inr past ↦ (let is : n ≡ suc i = omega arith in ap (all_below f) is ∙ all)
    ]
    in split (cases_lt n (suc i))

pub ruleset below_rules = (below-more, below-stops)
