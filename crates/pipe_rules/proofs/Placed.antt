-- Conjuncts that are placed one after another.
use Rattle.std.proofs.Common.{◌≡◌, List, [], ◌∷◌, ◌++◌, map, refl, ap, sym, ◌∙◌, append_assoc, append-nil}
use Rattle.pipe_expr.specs.declared.expr.Expr.{Expr}
use Rattle.pipe_expr.specs.Formula.{Formula, formula_of}
use Rattle.pipe_rules.specs.Placing.{Placing}
use Rattle.pipe_rules.specs.Placements.{placing_of}
use Rattle.pipe_rules.specs.declared.placement.Placement.{Placement}

pub map-push : {A B : Type 0} (f : A → B) (xs : List A) (x : A) → map f (xs ++ x ∷ []) ≡ map f xs ++ f x ∷ []
map-push f [] x = refl
map-push f (y ∷ xs) x = ap (λ l. f y ∷ l) (map-push f xs x)

-- one conjunct more
pub next-placed : (pl : Formula → Placing) (yielded : List Expr) (x : Expr) (old new : List Placement) (p : Placement) → map placing_of old ≡ map pl (map formula_of yielded) → placing_of p ≡ pl (formula_of x) → new ≡ old ++ p ∷ [] → map placing_of new ≡ map pl (map formula_of (yielded ++ x ∷ []))
next-placed pl yielded x old new p so_far placed pushed =
    ap (map placing_of) pushed ∙ map-push placing_of old p
    ∙ ap (λ l. l ++ placing_of p ∷ []) so_far
    ∙ ap (λ q. map pl (map formula_of yielded) ++ q ∷ []) placed
    ∙ sym (map-push pl (map formula_of yielded) (formula_of x))
    ∙ ap (map pl) (sym (map-push formula_of yielded x))

-- what was taken, and what is left
pub rest-next : {A : Type 0} (yielded rest before all : List A) (x : A) → yielded ++ before ≡ all → before ≡ x ∷ rest → (yielded ++ x ∷ []) ++ rest ≡ all
rest-next yielded rest before all x whole step = append_assoc yielded (x ∷ []) rest ∙ ap (λ l. yielded ++ l) (sym step) ∙ whole

pub all-taken : {A : Type 0} (yielded rest all : List A) → yielded ++ rest ≡ all → rest ≡ [] → yielded ≡ all
all-taken yielded rest all whole none = sym (append-nil yielded) ∙ ap (λ l. yielded ++ l) (sym none) ∙ whole
