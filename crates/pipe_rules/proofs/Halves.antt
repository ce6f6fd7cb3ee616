-- Conjuncts in two parts.
use Rattle.std.proofs.Common.{◌≡◌, ℕ, zero, suc, List, [], ◌∷◌, ◌++◌, map, take, drop, refl, ap, ◌∙◌, append_assoc}
use Rattle.pipe_expr.specs.Formula.{Formula}
use Rattle.pipe_rules.specs.Conjuncts.{conjuncts_of, all_conjuncts}

-- the conjuncts of both parts are those of all
pub both-parts : {A : Type 0} (g : A → Formula) (xs : List A) (m : ℕ) → all_conjuncts (map g (take m xs)) ++ all_conjuncts (map g (drop m xs)) ≡ all_conjuncts (map g xs)
both-parts g xs zero = refl
both-parts g [] (suc m) = refl
both-parts g (x ∷ xs) (suc m) = append_assoc (conjuncts_of (g x)) (all_conjuncts (map g (take m xs))) (all_conjuncts (map g (drop m xs))) ∙ ap (λ l. conjuncts_of (g x) ++ l) (both-parts g xs m)

-- a predicate of two parts
pub joined-parts : {A : Type 0} (g : A → Formula) (xs front back : List A) (m : ℕ) (l r : List Formula) → front ≡ take m xs → back ≡ drop m xs → l ≡ all_conjuncts (map g front) → r ≡ all_conjuncts (map g back) → l ++ r ≡ all_conjuncts (map g xs)
joined-parts g xs front back m l r f b left right =
    ap (λ q. q ++ r) (left ∙ ap (λ q. all_conjuncts (map g q)) f)
    ∙ ap (λ q. all_conjuncts (map g (take m xs)) ++ q) (right ∙ ap (λ q. all_conjuncts (map g q)) b)
    ∙ both-parts g xs m
