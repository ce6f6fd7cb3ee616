-- Neighbouring pieces: how many rows two of them have, and what joining them two by two covers.
use Rattle.std.proofs.Common.{◌≡◌, ℕ, zero, suc, ◌+◌, ◌^◌, ◌<◌, List, [], ◌∷◌, length, drop, get_or, ap, sym, ◌∙◌, arith, subst}
use Rattle.std.proofs.Math.Seq.{drop-cons}
use Rattle.pipe_ops.specs.Offsets.{Adjoin}

adjoin-tail : (p : ℕ × ℕ) (ps : List (ℕ × ℕ)) → Adjoin (p ∷ ps) → Adjoin ps
adjoin-tail p [] h = tt
adjoin-tail p (q ∷ ps) h = h.1

adjoin-drop : (k : ℕ) (ps : List (ℕ × ℕ)) → Adjoin ps → Adjoin (drop k ps)
adjoin-drop zero ps h = h
adjoin-drop (suc k) [] h = h
adjoin-drop (suc k) (p ∷ ps) h = adjoin-drop k ps (adjoin-tail p ps h)

-- a piece ends below 2 ^ 32
adjoin-end : (p : ℕ × ℕ) (ps : List (ℕ × ℕ)) → Adjoin (p ∷ ps) → p.0 + p.1 < 2 ^ 32
adjoin-end p [] h = h
adjoin-end p (q ∷ ps) h = let end = adjoin-end q ps h.1 in let e = h.0 in omega arith

two-fit : (p q : ℕ × ℕ) (ps : List (ℕ × ℕ)) → Adjoin (p ∷ q ∷ ps) → p.1 + q.1 < 2 ^ 32
two-fit p q ps h = let end = adjoin-end q ps h.1 in let e = h.0 in omega arith

-- the two pieces at a place and at the next
two-at : (xs : List (ℕ × ℕ)) (k : ℕ) (p q : ℕ × ℕ) → k + 1 < length xs → p ≡ get_or xs k p → q ≡ get_or xs (k + 1) q → drop k xs ≡ p ∷ q ∷ drop (k + 2) xs
two-at xs k p q there e e' =
    let next : suc k ≡ k + 1 = omega arith in
    let after : suc (k + 1) ≡ k + 2 = omega arith in
    drop-cons xs k p (omega arith)
    ∙ ap (λ x. x ∷ drop (suc k) xs) (sym e)
    ∙ ap (λ n. p ∷ drop n xs) next
    ∙ ap (λ l. p ∷ l) (drop-cons xs (k + 1) q there ∙ ap (λ x. x ∷ drop (suc (k + 1)) xs) (sym e') ∙ ap (λ n. q ∷ drop n xs) after)

pub neighbours-fit : (xs old : List (ℕ × ℕ)) (k : ℕ) (p q : ℕ × ℕ) → Adjoin old → drop k xs ≡ drop k old → k + 1 < length xs → p ≡ get_or xs k p → q ≡ get_or xs (k + 1) q → p.1 + q.1 < 2 ^ 32
neighbours-fit xs old k p q h same there e e' =
    two-fit p q (drop (k + 2) xs) (subst Adjoin (sym same ∙ two-at xs k p q there e e') (adjoin-drop k old h))
