-- Tests of all columns of a formula, a side at a time.
use Rattle.std.proofs.Common.{◌≡◌, ℕ, Bool, true, false, List, [], ◌∷◌, ◌++◌, refl, ap, ◌∙◌}
use Rattle.std.specs.Prelude.{◌&&◌}
use Rattle.std.specs.List.{list_all}
use Rattle.pipe_rules.proofs.Conjoined.{all-append}

pub first-fails : (test : List ℕ → Bool) (a b : List (List ℕ)) → list_all test a ≡ false → list_all test (a ++ b) ≡ false
first-fails test a b e = all-append test a b ∙ ap (λ t. t && list_all test b) e

pub first-passes : (test : List ℕ → Bool) (a b : List (List ℕ)) → list_all test a ≡ true → list_all test (a ++ b) ≡ list_all test b
first-passes test a b e = all-append test a b ∙ ap (λ t. t && list_all test b) e

alone : (b : Bool) → (b && true) ≡ b
alone true = refl
alone false = refl

pub one-test : (test : List ℕ → Bool) (name : List ℕ) → list_all test (name ∷ []) ≡ test name
one-test test name = alone (test name)

pub ruleset reading_rules = (first-fails, first-passes, one-test)
